-- What a host wants sent has no bytes but those of a SETUP: its numbers are all of it.
use Rattle.std.proofs.Common.{◌≡◌, ℕ, [], Option, Some, None, refl, sym, subst}
use Rattle.std.specs.Option.{option_and_then, option_map, unwrap_or}
use Rattle.std.proofs.Math.Seq.{drop-nil, take-nil}
use Rattle.usb_fields.specs.Packets.{Sent, OutToken}
use Rattle.usb_fields.specs.declared.packet.Toggle.{Toggle}
use Rattle.usb_fields.specs.declared.packet.Toggle.TheVariants.{Data0, Data1}
use Rattle.usb_host.specs.declared.transfer.TransferStage.{TransferStage}
use Rattle.usb_host.specs.declared.transfer.TransferStage.TheVariants as stages
use Rattle.usb_host.specs.Transfer.{TransferView, addressed, due, token_due}
use Rattle.usb_host.specs.Steps.{HostPhase, HostView, ResetDue, Reading, Ended, Wanted, WantsNothing, WantsReset, WantsSent, sends, wanted}
use Rattle.usb_c.specs.declared.transaction.NzgTransaction.{NzgTransaction}
use Rattle.usb_c.specs.Hosts.{transaction_due}
use Rattle.usb_c.specs.Transactions.{sent_given, transaction_of}

abbrev IsWhole : Option Wanted → Type 0
IsWhole None = Unit {0}
IsWhole (Some WantsReset) = Unit {0}
IsWhole (Some WantsNothing) = Unit {0}
IsWhole (Some (WantsSent sent)) = sent_given (transaction_of sent) [] ≡ Some sent

-- an empty OUT
out_whole : (address : ℕ) (toggle : Toggle) → IsWhole (Some (WantsSent (record { address = address; token = OutToken toggle [] })))
out_whole address Data0 = refl
out_whole address Data1 = refl

token_whole : (address : ℕ) (t : TransferView) (stage : TransferStage)
    → IsWhole (Some (sends (addressed address (token_due t [] stage))))
token_whole address t stages.Setup = refl
token_whole address t stages.DataIn = refl
token_whole address t stages.DataOut =
    rw (drop-nil t.kept, take-nil t.packet) (out_whole address t.awaited)
token_whole address t stages.StatusOut = refl
token_whole address t stages.StatusIn = refl
token_whole address t stages.Completed = tt
token_whole address t (stages.Failed why) = tt

phase_whole : (phase : HostPhase) → IsWhole (Some (wanted phase))
phase_whole ResetDue = tt
phase_whole (Reading place t kept) = token_whole t.address t t.stage
phase_whole (Ended place) = tt

held_whole : (held : Option HostView) → IsWhole (option_map (λ v. wanted v.phase) held)
held_whole None = tt
held_whole (Some v) = phase_whole v.phase

-- what is reported of the next transaction is the whole of it
pub reported_whole : (held : Option HostView) (old new : NzgTransaction) (sent : Sent) → new ≡ transaction_due (option_map (λ v. wanted v.phase) held) old
    → option_map (λ v. wanted v.phase) held ≡ Some (WantsSent sent) → sent_given new [] ≡ Some sent
reported_whole held old new sent report is =
    let now : new ≡ transaction_of sent = subst (λ (w : Option Wanted). new ≡ transaction_due w old) is report in
    subst (λ (t : NzgTransaction). sent_given t [] ≡ Some sent) (sym now) (subst IsWhole is (held_whole held))

transfer_whole : (held : Option TransferView) → IsWhole (Some (sends (option_and_then due held)))
transfer_whole None = tt
transfer_whole (Some t) = token_whole t.address t t.stage

-- the same of a transfer
pub due_whole : (held : Option TransferView) (old new : NzgTransaction) (sent : Sent)
    → new ≡ unwrap_or (option_map transaction_of (option_and_then due held)) old → option_and_then due held ≡ Some sent → sent_given new [] ≡ Some sent
due_whole held old new sent report is =
    let now : new ≡ transaction_of sent = subst (λ (s : Option Sent). new ≡ unwrap_or (option_map transaction_of s) old) is report in
    let whole : IsWhole (Some (sends (Some sent))) = subst (λ (s : Option Sent). IsWhole (Some (sends s))) is (transfer_whole held) in
    subst (λ (t : NzgTransaction). sent_given t [] ≡ Some sent) (sym now) whole
