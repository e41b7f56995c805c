-- The transactions of one transfer, as a part of a talk.
use Rattle.std.proofs.Common.{◌≡◌, ℕ, suc, ◌+◌, List, [], Bool, true, false, Option, Some, None, refl, ap, ◌∙◌, arith, IsSome}
use Rattle.std.proofs.lemmas.Bool.Decides.{nat_tests}
use Rattle.usb_fields.specs.Packets.{Sent, Reply as PacketReply}
use Rattle.usb_fields.specs.declared.setup.Setup.{Setup as SetupPacket}
use Rattle.usb_host.specs.declared.why.Why.{Why}
use Rattle.usb_host.specs.declared.transfer.TransferStage.{TransferStage}
use Rattle.usb_host.specs.declared.transfer.TransferStage.TheVariants.{Setup, DataIn, DataOut, StatusOut, StatusIn, Completed, Failed}
use Rattle.usb_host.specs.Transfer.{TransferView, HeardView, Goes, Brings, Completes, Fails, due_of, addressed, token_due}
use Rattle.usb_device.specs.declared.state.State.{State}
use Rattle.usb_device.specs.Requests.{Outcome}
use Rattle.usb_device.specs.Step.{DeviceView}
use Rattle.usb_bus.specs.declared.fate.Fate.{Fate}
use Rattle.usb_host.specs.declared.reply.Reply.{Reply}
use Rattle.usb_bus.specs.Bus.{HostEnd, exchanged, has_data, step_of, taken_by}
use Rattle.usb_host.specs.Plan.{Plan}
use Rattle.usb_bus.specs.Attempt.{Attempt, Running, advance}
use Rattle.usb_bus.specs.Run.{fate_at, due_in}
use Rattle.usb_bus.specs.inside.Running.{failure_of, point, LeadsTo}
use Rattle.usb_bus.proofs.Runs.{AreDue-more}

-- why a transfer fails, as it tells its caller
abbrev pub failure_in : HeardView → Option Why
failure_in Goes = None
failure_in (Brings bytes) = None
failure_in Completes = None
failure_in (Fails why) = Some why

-- what is reported to the caller is what the stage says
pub failure_in-taken : (sends : Bool) (t : TransferView) (stage : TransferStage) (r : PacketReply) → t.stage ≡ stage →
    failure_in (taken_by sends t stage r).received ≡ failure_of (taken_by sends t stage r).transfer.stage
failure_in-taken sends t Setup r e = grind (arith, nat_tests)
failure_in-taken sends t DataIn r e = grind (arith, nat_tests)
failure_in-taken true t DataOut r e = grind (arith, nat_tests)
failure_in-taken false t DataOut r e = grind (arith, nat_tests)
failure_in-taken sends t StatusOut r e = grind (arith, nat_tests)
failure_in-taken sends t StatusIn r e = grind (arith, nat_tests)
failure_in-taken sends t Completed r e = grind (arith, nat_tests)
failure_in-taken sends t (Failed why) r e = grind (arith, nat_tests)

-- what comes next has its data, and comes next without them
pub still_due : (t : TransferView) (bytes : List ℕ) (stage : TransferStage) (sent : Sent) → addressed t.address (token_due t bytes stage) ≡ Some sent →
    IsSome (addressed t.address (token_due t [] stage))
still_due t bytes Setup sent e = refl
still_due t bytes DataIn sent e = refl
still_due t bytes DataOut sent e = refl
still_due t bytes StatusOut sent e = refl
still_due t bytes StatusIn sent e = refl
still_due t bytes Completed sent e = absurd (cc)
still_due t bytes (Failed why) sent e = absurd (cc)

-- a transfer that has something due goes on
advance-due : (plan : List Reply → Plan) (naks : ℕ) (sends : List Reply → List ℕ) (replies : List Reply) (h : HostEnd) (stage : TransferStage) (d : DeviceView) (address : ℕ)
    (t : TransferView) (bytes : List ℕ) (sent : Sent) → addressed address (token_due t bytes stage) ≡ Some sent →
    advance plan naks sends replies h stage d ≡ record { replies = replies; phase = Running h; device = d }
advance-due plan naks sends replies h Setup d address t bytes sent e = refl
advance-due plan naks sends replies h DataIn d address t bytes sent e = refl
advance-due plan naks sends replies h DataOut d address t bytes sent e = refl
advance-due plan naks sends replies h StatusOut d address t bytes sent e = refl
advance-due plan naks sends replies h StatusIn d address t bytes sent e = refl
advance-due plan naks sends replies h Completed d address t bytes sent e = absurd (cc)
advance-due plan naks sends replies h (Failed why) d address t bytes sent e = absurd (cc)

-- one transaction more
pub Leads-more : (answer : State → SetupPacket → Outcome) (cut : ℕ) (bytes : List ℕ) (fates : List Fate) (before : ℕ) (h : HostEnd) (d : DeviceView) (now : ℕ)
    (middle : HostEnd) (there : DeviceView) (sent : Sent) (last : HostEnd) (here : DeviceView) → due_of middle.transfer bytes ≡ Some sent →
    exchanged answer cut (has_data bytes) middle there (Some sent) (fate_at fates now) ≡ record { host = last; device = here } →
    LeadsTo answer cut bytes fates before h d now middle there → LeadsTo answer cut bytes fates before h d (suc now) last here
Leads-more answer cut bytes fates before h d now middle there sent last here asks goes (n, at, leads) =
    let stepped : step_of answer cut bytes (fate_at fates now) (record { host = middle; device = there }) ≡ record { host = last; device = here } =
    rw asks goes in (
      suc n,
      omega arith,
      λ plan naks sends replies is.
          (let running = advance-due plan naks sends replies middle middle.transfer.stage there middle.transfer.address middle.transfer bytes sent asks in
          let start : Attempt = record { replies = replies; phase = Running h; device = d } in
          let due_at : Attempt → Option Sent = λ x. due_in (sends x.replies) x.phase in
          let led = leads plan naks sends replies is in
          let none : n ≡ n + 0 = omega arith in
          let here_due : due_at (point plan naks sends answer cut fates before n start) ≡ Some sent =
          ap (λ x. due_at (point plan naks sends answer cut fates before x start)) none
          ∙ ap due_at (led.1 0 ∙ running) ∙ ap (due_of middle.transfer) is ∙ asks in (
            AreDue-more plan naks sends answer cut fates before n start led.0 (sent, here_due),
            λ m.
                (let number : suc n + m ≡ n + suc m = omega arith in
                let first : point plan naks sends answer cut fates before (suc n + m) start ≡ point plan naks sends answer cut fates before (n + suc m) start =
                ap (λ x. point plan naks sends answer cut fates before x start) number in
                let then : point plan naks sends answer cut fates now (suc m) (advance plan naks sends replies middle middle.transfer.stage there)
                ≡ point plan naks sends answer cut fates now (suc m) (record { replies = replies; phase = Running middle; device = there }) =
                ap (λ x. point plan naks sends answer cut fates now (suc m) x) running in
                let on : point plan naks sends answer cut fates now (suc m) (record { replies = replies; phase = Running middle; device = there })
                ≡ point plan naks sends answer cut fates (suc now) m (advance plan naks sends replies last last.transfer.stage here) =
                ap (λ e. point plan naks sends answer cut fates (suc now) m (advance plan naks sends replies e.host e.host.transfer.stage e.device))
                (ap (λ b. step_of answer cut b (fate_at fates now) (record { host = middle; device = there })) is ∙ stepped) in
                first ∙ led.1 (suc m) ∙ then ∙ on),
          )),
    )
