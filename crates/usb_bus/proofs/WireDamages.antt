-- Slight changes of bits: a transaction with them is one over a bus of bytes that changes few bits, and so is a run.
use Rattle.std.proofs.Common.{◌≡◌, ◌⊎◌, inl, inr, ◌==◌, ◌||◌, ◌&&◌, ◌+◌, ℕ, zero, suc, List, [], ◌∷◌, Bool, true, false, if◌then◌else◌, Option, Some, None, refl, ap, sym, ◌∙◌, subst}
use Rattle.usb_wire.specs.Packets.{PacketView, IsLegal, packet_bytes}
use Rattle.usb_wire.specs.Damages.{damage_of}
use Rattle.usb_wire.proofs.RoundTrip.{packet_taken, same_packet}
use Rattle.usb_fields.specs.declared.setup.Setup.{Setup as SetupPacket}
use Rattle.usb_fields.specs.Packets.{Token, SetupToken, InToken, OutToken, Sent, Reply}
use Rattle.usb_file_data.specs.declared.file.DescriptorFile.{DescriptorFile}
use Rattle.usb_device.specs.declared.state.State.{State}
use Rattle.usb_device.specs.Requests.{Outcome, answer}
use Rattle.usb_device.specs.Step.{DeviceView, Served, acked}
use Rattle.usb_bus.specs.declared.fate.Fate.{Fate}
use Rattle.usb_bus.specs.declared.fate.Fate.TheVariants.{Pass, Busy, LostAck, LostDown, LostUp}
use Rattle.usb_bus.specs.declared.enumeration.Run.{Run}
use Rattle.usb_bus.specs.declared.wire.change.BitChange.{BitChange}
use Rattle.usb_bus.specs.Damaged.{HasLegalData, IsExchanged, IsLegalSent, IsTakenOf, arriving, bits_of, fits, fitting, is_ready, reply_number, with_changed}
use Rattle.usb_bus.specs.DamagedRuns.{AreSlight, DamagedRunsAt, IsDamagedRunFrom, counts_of, event_at, is_changed, is_lossy}
use Rattle.usb_bus.specs.Enumerate.{Pair}
use Rattle.usb_bus.specs.Exchanges.{is_lost_ack, is_lost_down, is_lost_up}
use Rattle.usb_bus.specs.Run.{fate_at}
use Rattle.usb_bus.specs.Wire.{Arrives, IsReceivedOf, IsWhole, OnWire, Receives, ack_packet, data_packet, received_reply, received_sent, is_ack, reply_packet, served_from, served_received, token_packet}
use Rattle.usb_bus.specs.WireRuns.{IsWireRunFrom, WireRunsAt}
use Rattle.usb_bus.proofs.AddressLemmas.{legal_due, reset_within, take_within}
use Rattle.usb_bus.proofs.WireArrivals.{none_is_not_some, received_or_lost}
use Rattle.usb_bus.proofs.WireFates.{sent_received}
use Rattle.usb_bus.specs.inside.Addresses.{AsksWithin}

-- ---- one packet

-- each packet with these bits changed, by its number, arrives as it was sent or slightly damaged
abbrev AreSlightIn : (ℕ → List ℕ) → Type 0
AreSlightIn bits = (number : ℕ) (p : PacketView) → IsLegal p → Arrives p (with_changed (bits number) (packet_bytes p))

arrives : (lost : Bool) (bits : List ℕ) (p : PacketView) → Arrives p (with_changed bits (packet_bytes p)) → Arrives p (arriving lost bits p)
arrives true bits p slight = inr (inr refl)
arrives false bits p slight = slight

taken_received : (lost : Bool) (bits : List ℕ) (p received : Option PacketView) → ((q : PacketView) → IsLegal q → Arrives q (with_changed bits (packet_bytes q)))
    → IsTakenOf lost bits p received → IsReceivedOf p received
taken_received lost bits None received slight is = is
taken_received lost bits (Some p) received slight is =
    record { legal = is.0; bytes = arriving lost bits p; arrives = arrives lost bits p (slight p is.0); receives = is.1 }

-- a packet in which nothing is changed, and which isn't lost
received_whole : (p : PacketView) (received : Option PacketView) → IsLegal p → Receives (packet_bytes p) received → received ≡ Some p
received_whole p None legal is = absurd (none_is_not_some (damage_of (packet_bytes p)) (packet_taken p legal) is)
received_whole p (Some q) legal is = ap (λ r. Some r) (same_packet q p is.0 legal is.1)

taken_whole : (lost : Bool) (bits : List ℕ) (p received : Option PacketView) → lost ≡ false → bits ≡ [] → IsTakenOf lost bits p received → received ≡ p
taken_whole lost bits None received kept none is = is
taken_whole lost bits (Some p) received kept none is =
    received_whole p received is.0 (subst (λ b. Receives (arriving false b p) received) none (subst (λ l. Receives (arriving l bits p) received) kept is.1))

-- ---- what isn't damaged

or_left : (a b : Bool) → (a || b) ≡ false → a ≡ false
or_left true b e = e
or_left false b e = refl

or_right : (a b : Bool) → (a || b) ≡ false → b ≡ false
or_right true b e = absurd (cc)
or_right false b e = e

if_no_bit : (a b : Bool) (bit : ℕ) (bits : List ℕ) → a ≡ false → bits ≡ [] → (if a && b then bit ∷ bits else bits) ≡ []
if_no_bit true b bit bits e none = absurd (cc)
if_no_bit false b bit bits e none = none

unchanged : (changes : List BitChange) (transaction number : ℕ) → is_changed changes transaction ≡ false → bits_of changes transaction number ≡ []
unchanged [] transaction number e = refl
unchanged (c ∷ changes) transaction number e =
    if_no_bit (c.transaction == transaction) (c.packet == number) c.bit (bits_of changes transaction number)
    (or_left (c.transaction == transaction) (is_changed changes transaction) e)
    (unchanged changes transaction number (or_right (c.transaction == transaction) (is_changed changes transaction) e))

-- no packet is lost under a fate that loses none
record LosesNone (fate : Fate) : Type 0 where
  down : is_lost_down fate ≡ false
  up : is_lost_up fate ≡ false
  ack : is_lost_ack fate ≡ false

loses_none : (fate : Fate) → is_lossy fate ≡ false → LosesNone fate
loses_none Pass e = record { down = refl; up = refl; ack = refl }
loses_none Busy e = record { down = refl; up = refl; ack = refl }
loses_none LostDown e = absurd (cc)
loses_none LostUp e = absurd (cc)
loses_none LostAck e = absurd (cc)

-- ---- one transaction

fits_legal : (token : Token) → HasLegalData token → fits token ≡ true
fits_legal (SetupToken bytes) legal = ap (λ n. n == 8) legal
fits_legal InToken legal = refl
fits_legal (OutToken toggle bytes) legal = refl

fitting_sent : (sent : Sent) → fits sent.token ≡ true → fitting (Some sent) ≡ Some sent
fitting_sent sent is = ap (λ c. if c then Some sent else None) is

fitting_received : (sent : Sent) (arrived : Option Sent) → fits sent.token ≡ true → (arrived ≡ Some sent) ⊎ (arrived ≡ None) → fitting arrived ≡ arrived
fitting_received sent arrived is (inl whole) = ap fitting whole ∙ fitting_sent sent is ∙ sym whole
fitting_received sent arrived is (inr none) = ap fitting none ∙ sym none

module _ (table : State → SetupPacket → Outcome) (packet : ℕ) where
  on_wire : (d : DeviceView) (sent : Sent) (fate : Fate) (changes : List BitChange) (n : ℕ) (answered : Reply) (r : Served) → IsLegalSent sent
      → AreSlightIn (bits_of changes (suc n)) → IsExchanged table packet d sent fate (bits_of changes (suc n)) answered r
      → OnWire table packet d sent (record { ready = is_ready fate; damaged = is_lossy fate || is_changed changes (suc n) }) r
  on_wire d sent fate changes n answered r legal slight x =
      record {
        token = x.token;
        after = x.after;
        reply = x.rest.reply;
        ack = x.rest.ack;
        token_is = token_is;
        after_is = after_is;
        reply_is = subst (λ q. IsReceivedOf (reply_packet q) x.rest.reply) answers (taken_received (is_lost_up fate) (bits (reply_number sent.token)) (reply_packet answered) x.rest.reply (slight (reply_number sent.token)) x.rest.reply_is);
        ack_is = taken_received (is_lost_ack fate) (bits (reply_number sent.token + 1)) (ack_packet (received_reply x.rest.reply)) x.rest.ack (slight (reply_number sent.token + 1)) x.rest.ack_is;
        whole = λ e. whole (loses_none fate (or_left (is_lossy fate) (is_changed changes (suc n)) e)) (λ number. unchanged changes (suc n) number (or_right (is_lossy fate) (is_changed changes (suc n)) e));
        receives_reply = x.rest.receives_reply;
        device = x.rest.device ∙ ap (λ h. let y = (served_received table packet d h (is_ready fate)).device in if is_ack x.rest.ack then acked table packet y else y) same;
      }
    where
      bits : ℕ → List ℕ
      bits = bits_of changes (suc n)

      token_is : IsReceivedOf (Some (token_packet sent)) x.token
      token_is = taken_received (is_lost_down fate) (bits 1) (Some (token_packet sent)) x.token (slight 1) x.token_is

      after_is : IsReceivedOf (data_packet sent.token) x.after
      after_is = taken_received (is_lost_down fate) (bits 2) (data_packet sent.token) x.after (slight 2) x.after_is

      same : fitting (received_sent x.token x.after) ≡ received_sent x.token x.after
      same = fitting_received sent (received_sent x.token x.after) (fits_legal sent.token legal.bytes)
          (sent_received sent x.token x.after (received_or_lost _ _ token_is) (received_or_lost _ _ after_is))

      answers : answered ≡ (served_from table packet d x.token x.after (is_ready fate)).reply
      answers = x.rest.answers ∙ ap (λ h. (served_received table packet d h (is_ready fate)).reply) same

      whole : LosesNone fate → ((number : ℕ) → bits number ≡ []) → IsWhole table packet d sent (is_ready fate) x.token x.after x.rest.reply x.rest.ack
      whole kept none =
          record {
            token_whole = taken_whole (is_lost_down fate) (bits 1) (Some (token_packet sent)) x.token kept.down (none 1) x.token_is;
            data_whole = taken_whole (is_lost_down fate) (bits 2) (data_packet sent.token) x.after kept.down (none 2) x.after_is;
            reply_whole = taken_whole (is_lost_up fate) (bits (reply_number sent.token)) (reply_packet answered) x.rest.reply kept.up (none (reply_number sent.token)) x.rest.reply_is
                ∙ ap reply_packet answers;
            ack_whole = taken_whole (is_lost_ack fate) (bits (reply_number sent.token + 1)) (ack_packet (received_reply x.rest.reply)) x.rest.ack kept.ack (none (reply_number sent.token + 1)) x.rest.ack_is;
          }

  -- ---- transactions one after another

  -- where each change is slight, and the host of a new pair has an address of 7 bits
  abbrev Comes : List Fate → List BitChange → Pair → List Pair → ℕ → Pair → Type 0
  Comes fates changes new earlier n last = AsksWithin last.host × WireRunsAt table packet new earlier (counts_of fates changes n) last

  comes : (fates : List Fate) (changes : List BitChange) (new : Pair) (earlier : List Pair) (n : ℕ) (last : Pair) → AreSlight changes → AsksWithin new.host
      → DamagedRunsAt table packet fates changes new earlier n last → Comes fates changes new earlier n last
  comes fates changes new [] n last slight within (at, none) =
      (subst (λ p. AsksWithin p.host) (sym at) within, (at, ap (counts_of fates changes) none))
  comes fates changes new (x ∷ earlier) n last slight within (m, inl (resets, same), runs) =
      let before = comes fates changes new earlier m x slight within runs in (
        reset_within x.host last.host before.0 resets.host,
        inl (resets, subst (λ k. WireRunsAt table packet new earlier (counts_of fates changes k) x) (sym same) before.1),
      )
  comes fates changes new (x ∷ earlier) n last slight within (m, inr (moves, same), runs) =
      let before = comes fates changes new earlier m x slight within runs in
      let legal = legal_due x.host moves.sent before.0 moves.due in (
        take_within x.host last.host moves.brings.reply before.0 moves.host,
        inr (
          event_at fates changes m,
          counts_of fates changes m,
          ap (counts_of fates changes) same,
          record {
            sent = moves.sent;
            due = moves.due;
            brings = moves.brings;
            carries = on_wire x.device moves.sent (fate_at fates m) changes m moves.answered moves.brings legal (slight (suc m))
                (subst (λ k. IsExchanged table packet x.device moves.sent (fate_at fates m) (bits_of changes k) moves.answered moves.brings) same moves.carries);
            host = moves.host;
            device = moves.device;
          },
          before.1,
        ),
      )

-- an enumeration with slight changes
pub slightly_damaged : (f : DescriptorFile) (new : Pair) (fates : List Fate) (changes : List BitChange) (run : Run) → AsksWithin new.host
    → AreSlight changes → IsDamagedRunFrom new f fates changes run → IsWireRunFrom new (answer f) f.device.packet (counts_of fates changes run.transactions) run
slightly_damaged f new fates changes run within slight (earlier, last, runs, attempts, outcome, state) =
    let all = comes (answer f) f.device.packet fates changes new earlier run.transactions last slight within runs in
    (earlier, last, all.1, count fates changes run.transactions, attempts, outcome, state)
  where
    count : (fates : List Fate) (changes : List BitChange) (n : ℕ) → (counts_of fates changes n).transactions ≡ n
    count fates changes zero = refl
    count fates changes (suc n) = ap (λ k. suc k) (count fates changes n)
