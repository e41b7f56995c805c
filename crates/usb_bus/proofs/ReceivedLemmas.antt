-- Where memory is asked for, an answer has reached the host.
use Rattle.std.proofs.Common.{◌≡◌, ℕ, ◌==◌, nat_lt, Bool, true, false, if◌then◌else◌, [], ◌⊎◌, inl, inr, refl, subst}
use Rattle.std.specs.Prelude.{Some, Result}
use Rattle.usb_fields.specs.declared.packet.Toggle.TheVariants.{Data1}
use Rattle.usb_fields.specs.Packets.{Sent, SetupToken, InToken, OutToken, Reply as Answer, NoReply}
use Rattle.usb_fields.specs.declared.setup.Setup.{Setup as SetupPacket}
use Rattle.usb_fields.specs.Setup.{setup_bytes}
use Rattle.usb_set.specs.declared.fault.SetFault.{SetFault}
use Rattle.usb_set.specs.declared.decoder.Progress.{Progress}
use Rattle.usb_host.specs.declared.choice.NamedStrings.{NamedStrings}
use Rattle.usb_host.specs.declared.transfer.TransferStage.{TransferStage}
use Rattle.usb_host.specs.declared.transfer.TransferStage.TheVariants.{Setup, DataIn, DataOut, StatusOut, StatusIn, Completed, Failed}
use Rattle.usb_host.specs.Transfer.{TransferView, HeardView, Taken, addressed, delayed, due, struck, taken, taken_at, token_due, packet_due}
use Rattle.usb_device.specs.declared.state.State.{State}
use Rattle.usb_device.specs.Requests.{Outcome}
use Rattle.usb_device.specs.Step.{DeviceView, Served, replies, served}
use Rattle.usb_bus.specs.declared.fate.Fate.{Fate}
use Rattle.usb_bus.specs.declared.fate.Fate.TheVariants as fates
use Rattle.usb_bus.specs.Bus.{carried}
use Rattle.usb_host.specs.Place.{Place}
use Rattle.usb_host.specs.Keeping.{Kept}
use Rattle.usb_host.specs.Steps.{Grows, LacksMemory}
use Rattle.usb_bus.specs.Enumerate.{brings}

-- neither of two that can't be
neither : ⊥ ⊎ ⊥ → ⊥
neither (inl x) = x
neither (inr x) = x

module _ (texts : NamedStrings) (place : Place) (k : Kept) (result : Result Progress SetFault) where
  -- nothing is asked of memory
  abbrev Asks : HeardView → Type 0
  Asks received = LacksMemory received k result ⊎ Grows texts received place

  if_none : (b : Bool) (x y : Taken) → (Asks x.received → ⊥) → (Asks y.received → ⊥) → Asks (if b then x else y).received → ⊥
  if_none true x y p q = p
  if_none false x y p q = q

  struck_none : (t : TransferView) → Asks (struck t).received → ⊥
  struck_none t = if_none (nat_lt t.strikes 2) _ _ neither neither

  delayed_none : (t : TransferView) → Asks (delayed t).received → ⊥
  delayed_none t = if_none (nat_lt t.nak_count t.naks) _ _ neither neither

  -- a transaction that brought nothing
  silent : (t : TransferView) (stage : TransferStage) (sent : Sent) → addressed t.address (token_due t [] stage) ≡ Some sent →
      Asks (taken_at t stage NoReply).received → ⊥
  silent t Setup sent asks = struck_none t
  silent t DataIn sent asks = struck_none t
  silent t DataOut sent asks = struck_none t
  silent t StatusOut sent asks = struck_none t
  silent t StatusIn sent asks = struck_none t
  silent t Completed sent asks = absurd (cc)
  silent t (Failed why) sent asks = absurd (cc)

  -- or met a device that was not ready
  module _ (table : State → SetupPacket → Outcome) (packet : ℕ) (d : DeviceView) (t : TransferView) where
    abbrev unready : Sent → Served
    unready sent = served table packet d sent false

    abbrev None : TransferStage → Answer → Type 0
    None stage reply = Asks (taken_at t stage reply).received → ⊥

    here_or : (here : Bool) (stage : TransferStage) (r : Served) → None stage r.reply → None stage NoReply →
        None stage (if here then r else replies NoReply d.state d.stage false).reply
    here_or true stage r p q = p
    here_or false stage r p q = q

    unready_none : (stage : TransferStage) (sent : Sent) → addressed t.address (token_due t [] stage) ≡ Some sent → None stage (unready sent).reply
    unready_none Setup sent e =
        let same : record { address = t.address; token = SetupToken (setup_bytes t.request) } ≡ sent = cc in
        subst (λ s. None Setup (unready s).reply) same (here_or (t.address == d.state.address) Setup _ neither (struck_none t))
    unready_none DataIn sent e =
        let same : record { address = t.address; token = InToken } ≡ sent = cc in
        subst (λ s. None DataIn (unready s).reply) same (here_or (t.address == d.state.address) DataIn _ (delayed_none t) (struck_none t))
    unready_none DataOut sent e =
        let same : record { address = t.address; token = OutToken t.awaited (packet_due t []) } ≡ sent = cc in
        subst (λ s. None DataOut (unready s).reply) same (here_or (t.address == d.state.address) DataOut _ (delayed_none t) (struck_none t))
    unready_none StatusOut sent e =
        let same : record { address = t.address; token = OutToken Data1 [] } ≡ sent = cc in
        subst (λ s. None StatusOut (unready s).reply) same (here_or (t.address == d.state.address) StatusOut _ (delayed_none t) (struck_none t))
    unready_none StatusIn sent e =
        let same : record { address = t.address; token = InToken } ≡ sent = cc in
        subst (λ s. None StatusIn (unready s).reply) same (here_or (t.address == d.state.address) StatusIn _ (delayed_none t) (struck_none t))
    unready_none Completed sent e = absurd (cc)
    unready_none (Failed why) sent e = absurd (cc)

pub wanting_received : (texts : NamedStrings) (table : State → SetupPacket → Outcome) (packet : ℕ) (t : TransferView) (k : Kept) (place : Place) (sent : Sent) (fate : Fate) (d : DeviceView) (result : Result Progress SetFault) →
    due t ≡ Some sent → Asks texts place k result (taken t (carried table packet d sent fate).reply).received → brings fate ≡ true
wanting_received texts table packet t k place sent fates.Pass d result asks wants = refl
wanting_received texts table packet t k place sent fates.LostAck d result asks wants = refl
wanting_received texts table packet t k place sent fates.LostDown d result asks wants = absurd (silent texts place k result t t.stage sent asks wants)
wanting_received texts table packet t k place sent fates.LostUp d result asks wants = absurd (silent texts place k result t t.stage sent asks wants)
wanting_received texts table packet t k place sent fates.Busy d result asks wants = absurd (unready_none texts place k result table packet d t t.stage sent asks wants)
