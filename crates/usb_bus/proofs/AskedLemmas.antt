-- What an enumeration asks: no status of the device, and nothing that the device refuses and that is open to an owner.
use Rattle.std.proofs.Common.{◌≡◌, ◌⊎◌, ◌&&◌, ◌||◌, ℕ, zero, suc, Bool, true, false, List, [], ◌∷◌, ◌++◌, inl, inr, Option, Some, None, refl, ap, sym, ◌∙◌, subst, arith}
use Rattle.usb_fields.specs.declared.packet.Speed.{Speed}
use Rattle.usb_fields.specs.declared.packet.Toggle.{Toggle}
use Rattle.usb_fields.specs.declared.setup.Setup.{Setup as SetupPacket}
use Rattle.usb_fields.specs.Bytes.{AreBytes}
use Rattle.usb_fields.specs.Packets.{Sent, Token, SetupToken, Reply as Answer}
use Rattle.usb_fields.specs.Setup.{setup_bytes}
use Rattle.usb_set.specs.declared.tree.Configuration.{Configuration}
use Rattle.usb_file_data.specs.declared.file.DescriptorFile.{DescriptorFile}
use Rattle.usb_file_data.specs.File.{file_bytes}
use Rattle.usb_host.specs.Terms.{all_of, everything}
use Rattle.usb_host.specs.declared.step.Trouble.{Trouble}
use Rattle.usb_bus.specs.Asked.{asked_of}
use Rattle.usb_host.specs.declared.transfer.TransferStage.{TransferStage}
use Rattle.usb_host.specs.declared.transfer.TransferStage.TheVariants.{Setup, DataIn, DataOut, StatusOut, StatusIn, Completed, Failed}
use Rattle.usb_host.specs.declared.reply.Reply.{Reply}
use Rattle.usb_host.specs.declared.reply.Reply.TheVariants as replied
use Rattle.usb_host.proofs.SpareLemmas.{left_of, right_of}
use Rattle.usb_host.specs.Keeping.{Kept}
use Rattle.usb_host.specs.Limits.{LimitView, IsInRange}
use Rattle.usb_host.specs.Order.{asks, next}
use Rattle.usb_host.specs.Place.{Place, First, Address, Device, Header, Set, Qualifier, Languages, Text, Configure, Reported, Stopped}
use Rattle.usb_host.specs.Plan.{Plan, Begin}
use Rattle.usb_host.specs.Gathered.{reached}
use Rattle.usb_host.specs.Steps.{HostPhase, ResetDue, Reading, Ended, WantsSent, wanted, transfer_in}
use Rattle.usb_host.specs.Transfer.{TransferView, addressed, due, token_due}
use Rattle.usb_device.specs.Accepted.{Accepted}
use Rattle.usb_device.specs.declared.state.State.{State}
use Rattle.usb_device.specs.Beside.{is_open}
use Rattle.usb_device.specs.Freedoms.{is_either}
use Rattle.usb_device.specs.Conformance.{IsAllowed, IsAllowedIn, IsSame, is_device_status, is_free, is_in_transfer, is_refusing}
use Rattle.usb_device.specs.declared.open_transfer.OpenTransfer.{OpenTransfer}
use Rattle.usb_device.specs.Requests.{Outcome, Refused, answer}
use Rattle.usb_device.specs.Step as device
use Rattle.usb_device.specs.Step.{DeviceStage, DeviceView, new_device}
use Rattle.usb_bus.specs.declared.fate.Fate.{Fate}
use Rattle.usb_bus.specs.Attempt.{no_data, Attempt, IsDeclined, Phase, Running, Succeeded, Broken, reply_to}
use Rattle.usb_bus.specs.Bus.{HostEnd, losses, busies, acks_lost}
use Rattle.usb_bus.specs.Enumerate.{Pair, configured_state, new_pair, RunsAt}
use Rattle.usb_bus.specs.Run.{fates_used}
use Rattle.usb_bus.specs.Series.{Attempts, Series, attempt_under, fresh, series_run}
use Rattle.usb_bus.specs.Together.{Stages}
use Rattle.usb_bus.specs.WireLaws.{IsAlike}
use Rattle.usb_bus.specs.inside.Following.{WalksScript}
use Rattle.usb_bus.specs.inside.Image.{plan_of, IsImage, ReadsSets, StaysImage}
use Rattle.usb_bus.specs.inside.Script.{Exchange, replies_in, script}
use Rattle.usb_bus.specs.inside.Sound.{Follows, Sound, TogetherOn}
use Rattle.usb_bus.proofs.Attempts.{attempts_sound, sound_ends, sound_stays}
use Rattle.usb_bus.proofs.BesideLemmas.{AreClosed, script_closed}
use Rattle.usb_bus.proofs.DescribeLemmas.{described}
use Rattle.usb_bus.proofs.FollowLemmas.{follows}
use Rattle.usb_bus.proofs.RunLemmas.{Matches, after, comes_next, runs_match}
use Rattle.usb_bus.proofs.SeriesLemmas.{series_stands}
use Rattle.usb_bus.proofs.ServeLemmas.{serves_script}
use Rattle.usb_bus.proofs.TableLemmas.{table_kept}
use Rattle.usb_bus.proofs.AskedWalks.{walks_asked}

-- ---- what a place asks for

begins_same : (address packet other size : ℕ) (q r : SetupPacket) → Begin address packet q ≡ Begin other size r → q ≡ r
begins_same address packet other size q r e = cc

is_same_request : (q r : SetupPacket) (address packet other size : ℕ) → Begin address packet q ≡ Begin other size r → is_device_status q ≡ false → is_device_status r ≡ false
is_same_request q r address packet other size e other_request = subst (λ z. is_device_status z ≡ false) (begins_same address packet other size q r e) other_request

asks_no_status : (address : ℕ) (place : Place) (other size : ℕ) (q : SetupPacket) → asks address place ≡ Begin other size q → is_device_status q ≡ false
asks_no_status address First other size q e = is_same_request _ q _ _ other size e refl
asks_no_status address (Address first) other size q e = is_same_request _ q _ _ other size e refl
asks_no_status address (Device first) other size q e = is_same_request _ q _ _ other size e refl
asks_no_status address (Header kind f) other size q e = is_same_request _ q _ _ other size e refl
asks_no_status address (Set kind f total) other size q e = is_same_request _ q _ _ other size e refl
asks_no_status address (Qualifier f) other size q e = is_same_request _ q _ _ other size e refl
asks_no_status address (Languages f named) other size q e = is_same_request _ q _ _ other size e refl
asks_no_status address (Text f s named) other size q e = is_same_request _ q _ _ other size e refl
asks_no_status address (Configure f) other size q e = is_same_request _ q _ _ other size e refl
asks_no_status address (Reported f) other size q e = absurd (cc)
asks_no_status address (Stopped trouble) other size q e = absurd (cc)

-- ---- what a script asks for

heads : (x y : Reply) (xs ys : List Reply) → x ∷ xs ≡ y ∷ ys → x ≡ y
heads x y xs ys e = cc

tails : (x y : Reply) (xs ys : List Reply) → x ∷ xs ≡ y ∷ ys → xs ≡ ys
tails x y xs ys e = cc

module _ (set_of : List ℕ → Option Configuration) (speed : Speed) (address : ℕ) where
  -- what is refused at a place of the script is open to no owner
  refused_closed : (end place : Place) (xs : List Exchange) (came todo : List Reply) (r : Reply) (other size : ℕ) (q : SetupPacket) →
      WalksScript set_of (all_of speed) address end place xs → AreClosed xs → came ++ (r ∷ todo) ≡ replies_in xs →
      asks address (reached set_of (all_of speed) place came) ≡ Begin other size q → r ≡ replied.Refused → is_open q ≡ false
  refused_closed end place [] [] todo r other size q walks closed e begins refused = absurd (cc)
  refused_closed end place [] (y ∷ came) todo r other size q walks closed e begins refused = absurd (cc)
  refused_closed end place (x ∷ xs) [] todo r other size q walks closed e begins refused =
      subst (λ z. is_open z ≡ false) (begins_same x.address x.packet other size x.request q (sym walks.0 ∙ begins))
      (closed.0 (sym (heads r x.reply todo (replies_in xs) e) ∙ refused))
  refused_closed end place (x ∷ xs) (y ∷ came) todo r other size q walks closed e begins refused =
      let same = heads y x.reply (came ++ (r ∷ todo)) (replies_in xs) e in
      refused_closed end (next set_of (all_of speed) place x.reply) xs came todo r other size q walks.1 closed.1
      (tails y x.reply (came ++ (r ∷ todo)) (replies_in xs) e)
      (subst (λ z. asks address (reached set_of (all_of speed) (next set_of (all_of speed) place z) came) ≡ Begin other size q) same begins) refused

-- ---- where a transaction of a transfer comes next after its SETUP

no_setup : (t : TransferView) (stage : TransferStage) (token : Token) (has : Answer) → stage ≡ Setup → token_due t [] stage ≡ Some token →
    is_in_transfer token has ≡ true → ⊥
no_setup t stage token has at is inside =
    let same : token ≡ SetupToken (setup_bytes t.request) = (let begun = ap (λ s. token_due t [] s) at in cc) in
    absurd (let never : is_in_transfer (SetupToken (setup_bytes t.request)) has ≡ true = subst (λ x. is_in_transfer x has ≡ true) same inside in cc)

module _ (table : State → SetupPacket → Outcome) (cut : ℕ) (s : State) (q : SetupPacket) (size naks l b a : ℕ) where
  -- a device that refuses in a transfer without data does so by its table
  refused_reply : (answer : Outcome) → (answer ≡ Refused) ⊎ IsDeclined answer q [] → reply_to [] answer ≡ replied.Refused
  refused_reply answer (inl e) = ap (reply_to []) e
  refused_reply answer (inr is) = ap (reply_to []) is.answered

  refuses_by_table : (t : TransferView) (token : Token) (has : Answer) (stage : TransferStage) (at : DeviceStage) (awaited : Toggle) (got : List ℕ) (count strikes : ℕ) (d : State) →
      token_due t [] stage ≡ Some token → is_in_transfer token has ≡ true → is_refusing at ≡ true →
      Stages table cut s q size naks [] l b a stage at awaited got count strikes d → reply_to [] (table s q) ≡ replied.Refused
  refuses_by_table t token has Setup at awaited got count strikes d is inside refusing stages = absurd (no_setup t Setup token has refl is inside)
  refuses_by_table t token has DataIn (device.Halted refused) awaited got count strikes d is inside refusing stages = refused_reply (table s q) stages.answered
  refuses_by_table t token has DataIn at awaited got count strikes d is inside refusing stages = absurd (cc)
  refuses_by_table t token has DataOut (device.Halted refused) awaited got count strikes d is inside refusing stages = refused_reply (table s q) stages.answered
  refuses_by_table t token has DataOut at awaited got count strikes d is inside refusing stages = absurd (cc)
  refuses_by_table t token has StatusIn (device.Halted refused) awaited got count strikes d is inside refusing stages = refused_reply (table s q) stages.answered
  refuses_by_table t token has StatusIn at awaited got count strikes d is inside refusing stages = absurd (cc)
  refuses_by_table t token has StatusOut (device.Halted refused) awaited got count strikes d is inside refusing stages = absurd (stages)
  refuses_by_table t token has StatusOut at awaited got count strikes d is inside refusing stages = absurd (cc)
  refuses_by_table t token has Completed at awaited got count strikes d is inside refusing stages = absurd (cc)
  refuses_by_table t token has (Failed why) at awaited got count strikes d is inside refusing stages = absurd (cc)

to_token : (address : ℕ) (o : Option Token) (sent : Sent) → addressed address o ≡ Some sent → o ≡ Some sent.token
to_token address None sent e = absurd (cc)
to_token address (Some token) sent e = (let same : record { address = address; token = token } ≡ sent = cc in ap (λ x. Some x.token) same)

-- the ACK that is waited for changes nothing of what is open
pub free_alike : (f : DescriptorFile) (d e : DeviceView) (q : SetupPacket) → IsAlike d e → is_free f d q ≡ is_free f e q
free_alike f d e q alike = ap (λ g. (is_refusing g && is_open q) || is_either f d.state q) alike.stage ∙ ap (λ s. (is_refusing e.stage && is_open q) || is_either f s q) alike.state

left_alone : (a b : Bool) → (a || b) ≡ true → b ≡ false → a ≡ true
left_alone true b e none = refl
left_alone false b e none = absurd (let never = sym e ∙ none in cc)

-- nothing that a device may refuse or carry out is asked for
is_same_either : (g : DescriptorFile) (s : State) (q r : SetupPacket) (address packet other size : ℕ) → Begin address packet q ≡ Begin other size r → is_either g s q ≡ false → is_either g s r ≡ false
is_same_either g s q r address packet other size e none = subst (λ z. is_either g s z ≡ false) (begins_same address packet other size q r e) none

asks_no_either : (g : DescriptorFile) (s : State) (address : ℕ) (place : Place) (other size : ℕ) (q : SetupPacket) → asks address place ≡ Begin other size q → is_either g s q ≡ false
asks_no_either g s address First other size q e = is_same_either g s _ q _ _ other size e refl
asks_no_either g s address (Address first) other size q e = is_same_either g s _ q _ _ other size e refl
asks_no_either g s address (Device first) other size q e = is_same_either g s _ q _ _ other size e refl
asks_no_either g s address (Header kind f) other size q e = is_same_either g s _ q _ _ other size e refl
asks_no_either g s address (Set kind f total) other size q e = is_same_either g s _ q _ _ other size e refl
asks_no_either g s address (Qualifier f) other size q e = is_same_either g s _ q _ _ other size e refl
asks_no_either g s address (Languages f named) other size q e = is_same_either g s _ q _ _ other size e refl
asks_no_either g s address (Text f t named) other size q e = is_same_either g s _ q _ _ other size e refl
asks_no_either g s address (Configure f) other size q e = is_same_either g s _ q _ _ other size e refl
asks_no_either g s address (Reported f) other size q e = absurd (cc)
asks_no_either g s address (Stopped trouble) other size q e = absurd (cc)

-- ---- in an enumeration of a device with accepted descriptors

module _ (set_of : List ℕ → Option Configuration) (exact : ReadsSets set_of) (limits : LimitView) (speed : Speed) (stays : StaysImage set_of limits (all_of speed)) (f : DescriptorFile)
    (accepted : Accepted f speed) (fits : AreBytes (file_bytes f)) (range : IsInRange limits.address limits.attempts) where
  abbrev plan : List Reply → Plan
  plan replies = plan_of set_of limits (all_of speed) replies

  abbrev size : ℕ
  size = f.device.packet

  abbrev g : DescriptorFile
  g = asked_of everything f

  abbrev xs : List Exchange
  xs = script limits.address size (all_of speed) g

  abbrev last : State
  last = configured_state limits.address f

  abbrev under : List Fate → Attempt
  under used = attempt_under plan limits.naks limits.attempts no_data (answer f) size used

  walks : WalksScript set_of (all_of speed) limits.address (Reported g) First xs
  walks = walks_asked set_of (all_of speed) limits.address f (described set_of speed f exact accepted fits)

  followed : Follows plan limits.naks no_data (answer f) size false (replies_in xs) last new_device.state [] (replies_in xs)
  followed =
      follows set_of (all_of speed) limits (answer f) (table_kept f) size g (replies_in xs) last xs new_device.state First [] refl refl walks
      (serves_script set_of (all_of speed) limits.address f (described set_of speed f exact accepted fits) range.address_from (let small = range.address_to in omega arith))

  abbrev IsSound : List Fate → Attempt → Type 0
  IsSound used x = Sound plan limits.naks no_data (answer f) size false (replies_in xs) last (losses used) (busies used) (acks_lost used) x.replies x.phase x.device

  sound : (used : List Fate) → IsSound used (under used)
  sound used = attempts_sound plan limits.naks no_data (answer f) size false (replies_in xs) last new_device used followed

  last_used : (failed : ℕ) (fates : List Fate) (x : Attempt) → Attempts plan limits.naks limits.attempts no_data (answer f) size failed fates x → (used : List Fate) × (x ≡ under used)
  last_used zero fates x (is, together, cost) = (fates, is)
  last_used (suc failed) fates x (used, more, parts, broke, cost, rest) = last_used failed more x rest

  -- the attempt of a run is sound
  sound_after : (fates : List Fate) → (let x = (series_run plan limits.naks limits.attempts no_data (answer f) size fates (fresh plan limits.naks limits.attempts 1)).attempt in
      (used : List Fate) × IsSound used x)
  sound_after fates =
      let stands = series_stands plan limits.naks limits.attempts no_data (answer f) size false (replies_in xs) last
      (λ used. sound_stays plan limits.naks no_data (answer f) size false (replies_in xs) last used (under used) (sound used))
      (λ used. let x = under used in sound_ends plan limits.naks no_data (answer f) size false (replies_in xs) last used x.replies x.phase x.device (sound used)) fates in
      let (used, is) = last_used stands.failed fates _ stands.attempts in
      (used, subst (λ x. IsSound used x) (sym is) (sound used))

  module _ (l b a : ℕ) (replies : List Reply) (h : HostEnd) (d : DeviceView) (open_transfer : OpenTransfer) (token : Token) (came has : Answer) where
    abbrev free : Bool
    free = is_free f d h.transfer.request

    -- no outcome is open in it, and what is allowed is the same
    never_free : TogetherOn plan limits.naks no_data (answer f) size false (replies_in xs) last l b a replies h d →
        token_due h.transfer [] h.transfer.stage ≡ Some token → is_in_transfer token has ≡ true → free ≡ true → ⊥
    never_free t is inside at =
        let either = asks_no_either f d.state limits.address (reached set_of (all_of speed) First replies) t.s.address t.packet t.q t.planned.begins in
        let refuses = left_alone (is_refusing d.stage && is_open h.transfer.request) (is_either f d.state h.transfer.request) at
        (ap (λ q. is_either f d.state q) t.in_one.stand.request ∙ either) in
        let refused = refuses_by_table (answer f) size t.s t.q t.packet limits.naks l b a h.transfer token has h.transfer.stage d.stage h.transfer.awaited h.got h.transfer.kept h.transfer.strikes d.state
        is inside (left_of (is_refusing d.stage) (is_open h.transfer.request) refuses) t.in_one.stand.stages in
        let closed = refused_closed set_of speed limits.address (Reported g) First xs replies t.todo t.r t.s.address t.packet t.q walks
        (script_closed limits.address size (all_of speed) g) t.front t.planned.begins (sym t.planned.reply ∙ refused) in
        let open_ = right_of (is_refusing d.stage) (is_open h.transfer.request) refuses in
        absurd (let never = sym open_ ∙ ap is_open t.in_one.stand.request ∙ closed in cc)

    no_status : TogetherOn plan limits.naks no_data (answer f) size false (replies_in xs) last l b a replies h d →
        IsSame h.transfer.request token came has → came ≡ has
    no_status t (inl same) = same
    no_status t (inr (inside, status, alike)) =
        let never = asks_no_status limits.address (reached set_of (all_of speed) First replies) t.s.address t.packet t.q t.planned.begins in
        absurd (let wrong = sym status ∙ ap is_device_status t.in_one.stand.request ∙ never in cc)

    same_together : TogetherOn plan limits.naks no_data (answer f) size false (replies_in xs) last l b a replies h d →
        token_due h.transfer [] h.transfer.stage ≡ Some token → IsAllowed free h.transfer.request size open_transfer token came has → came ≡ has
    same_together t is allowed = by_freedom (free && is_in_transfer token has) refl allowed
      where
        by_freedom : (b : Bool) → (free && is_in_transfer token has) ≡ b → IsAllowedIn b h.transfer.request size open_transfer token came has → came ≡ has
        by_freedom true at may = absurd (never_free t is (right_of free (is_in_transfer token has) at) (left_of free (is_in_transfer token has) at))
        by_freedom false at same = no_status t same

    same_sound : Sound plan limits.naks no_data (answer f) size false (replies_in xs) last l b a replies (Running h) d →
        token_due h.transfer [] h.transfer.stage ≡ Some token → IsAllowed free h.transfer.request size open_transfer token came has → came ≡ has
    same_sound (inl t) is allowed = same_together t is allowed
    same_sound (inr t) is allowed = by_freedom (free && is_in_transfer token has) refl allowed
      where
        never_inside : is_in_transfer token has ≡ true → came ≡ has
        never_inside inside = absurd (no_setup h.transfer h.transfer.stage token has t.asks is inside)

        by_freedom : (b : Bool) → (free && is_in_transfer token has) ≡ b → IsAllowedIn b h.transfer.request size open_transfer token came has → came ≡ has
        by_freedom true at may = never_inside (right_of free (is_in_transfer token has) at)
        by_freedom false at (inl same) = same
        by_freedom false at (inr (inside, status, alike)) = never_inside inside

  -- by the phase of the attempt and that of the host
  same_image : (used : List Fate) (replies : List Reply) (phase : Phase) (d : DeviceView) (place : Place) (t : TransferView) (k : Kept) (sent : Sent) (open_transfer : OpenTransfer) (came has : Answer) →
      Sound plan limits.naks no_data (answer f) size false (replies_in xs) last (losses used) (busies used) (acks_lost used) replies phase d →
      IsImage set_of limits (all_of speed) replies phase (Reading place t k) → due t ≡ Some sent →
      IsAllowed (is_free f d t.request) t.request size open_transfer sent.token came has → came ≡ has
  same_image used replies (Running h) d place t k sent open_transfer came has sounds image is allowed =
      let there : h.transfer ≡ t = image.3.is_transfer in
      same_sound (losses used) (busies used) (acks_lost used) replies h d open_transfer sent.token came has sounds
      (subst (λ z. token_due z [] z.stage ≡ Some sent.token) (sym there) (to_token t.address (token_due t [] t.stage) sent is))
      (subst (λ z. IsAllowed (is_free f d z.request) z.request size open_transfer sent.token came has) (sym there) allowed)
  same_image used replies Succeeded d place t k sent open_transfer came has sounds image is allowed = absurd (image)
  same_image used replies (Broken why) d place t k sent open_transfer came has sounds image is allowed = absurd (image)

  same_phase : (used : List Fate) (resets : ℕ) (phase : HostPhase) (d : DeviceView) (forgiven : List Trouble) (series : Series) (t : TransferView) (sent : Sent) (open_transfer : OpenTransfer) (came has : Answer) →
      IsSound used series.attempt → Matches set_of limits (all_of speed) resets phase d forgiven series → transfer_in phase ≡ Some t → wanted phase ≡ WantsSent sent →
      IsAllowed (is_free f d t.request) t.request size open_transfer sent.token came has → came ≡ has
  same_phase used resets ResetDue d forgiven series t sent open_transfer came has sounds matches is_current is allowed = absurd (cc)
  same_phase used resets (Ended place) d forgiven series t sent open_transfer came has sounds matches is_current is allowed = absurd (cc)
  same_phase used resets (Reading place u k) d forgiven series t sent open_transfer came has sounds (few, attempts, image, device_is, passed) is_current is allowed =
      let same : t ≡ u = cc in
      let x = series.attempt in
      same_image used x.replies x.phase x.device place u k sent open_transfer came has sounds image (comes_next (due u) sent is)
      (subst (λ e. IsAllowed (is_free f e u.request) u.request size open_transfer sent.token came has) (sym device_is)
      (subst (λ z. IsAllowed (is_free f d z.request) z.request size open_transfer sent.token came has) same allowed))

  -- in a run of the device itself, what is allowed of the next transaction is its own answer
  pub same_run : (fates : List Fate) (earlier : List Pair) (n : ℕ) (x : Pair) → RunsAt (answer f) size fates (new_pair limits speed) earlier n x →
      (t : TransferView) → transfer_in x.host.phase ≡ Some t → (sent : Sent) → wanted x.host.phase ≡ WantsSent sent → (open_transfer : OpenTransfer) (came has : Answer) →
      IsAllowed (is_free f x.device t.request) t.request size open_transfer sent.token came has → came ≡ has
  same_run fates earlier n x runs t is_current sent is open_transfer came has allowed =
      elim (runs_match set_of limits (all_of speed) stays f (answer f) range.attempts_from fates earlier n x runs) [
        | inl (wanting, received) ↦ absurd (let ended = ap transfer_in wanting.1 in cc)
        | inr m ↦
            let (used, sounds) = sound_after (fates_used fates n) in
            same_phase used x.host.resets x.host.phase x.device x.host.forgiven (after set_of limits (all_of speed) stays f (answer f) fates n) t sent open_transfer came has sounds m.matches is_current is allowed
      ]
