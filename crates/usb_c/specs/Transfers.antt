-- A control transfer as numbers, and what calls do to it.
use Rattle.std.specs.Prelude.{◌≡◌, ℕ, ◌==◌, nat_lt, if◌then◌else◌, List, length, Option, Some, None}
use Rattle.std.specs.Option.{option_and_then, option_map}
use Rattle.usb_c.specs.Transactions.{toggle_given}
use Rattle.usb_fields.specs.Packets.{Reply}
use Rattle.usb_fields.specs.Setup.{setup_of}
use Rattle.usb_fields.specs.declared.packet.Toggle.{Toggle}
use Rattle.usb_host.specs.Transfer.{TransferView, HeardView, Goes, Brings, Completes, Fails, Taken, begun, is_transfer}
use Rattle.usb_host.specs.declared.transfer.TransferStage.{TransferStage}
use Rattle.usb_host.specs.declared.transfer.TransferStage.TheVariants as stages
use Rattle.usb_host.specs.declared.transfer_fields.TransferFields.{TransferFields}
use Rattle.usb_host.specs.declared.why.Why.{Why}
use Rattle.usb_host.specs.declared.why.Why.TheVariants as reasons
use Rattle.usb_c.specs.declared.answer.Verdict.{Verdict}
use Rattle.usb_c.specs.declared.answer.Verdict.TheVariants as verdicts
use Rattle.usb_c.specs.declared.transfer_numbers.NzgTransfer.{NzgTransfer}

-- A transfer as numbers.

-- the reason of a number: those of NZG_TROUBLE in nozzlegorse.h
abbrev pub why_in : ℕ → Option Why
why_in number =
    if number == 1 then Some reasons.NoAnswer
    else if number == 2 then Some reasons.Busy
    else if number == 3 then Some reasons.Stalled
    else if number == 4 then Some reasons.TooLong
    else if number == 5 then Some reasons.Unexpected
    else if number == 6 then Some reasons.Malformed
    else if number == 7 then Some reasons.Memory
    else None

-- the stage of a number, of a transfer that has not failed: `enum nzg_transfer_stage`
abbrev pub stage_of : ℕ → Option TransferStage
stage_of stage =
    if stage == 0 then Some stages.Setup
    else if stage == 1 then Some stages.DataIn
    else if stage == 2 then Some stages.DataOut
    else if stage == 3 then Some stages.StatusOut
    else if stage == 4 then Some stages.StatusIn
    else if stage == 5 then Some stages.Completed
    else None

-- The stage of two numbers: 6 is that of a transfer that has failed, and the second one says why. It is 0 of the others.
abbrev pub stage_in : ℕ → ℕ → Option TransferStage
stage_in stage why = if stage == 6 then option_map stages.Failed (why_in why) else if why == 0 then stage_of stage else None

-- the fields of a transfer at this stage, which awaits this toggle
abbrev pub fields_at : NzgTransfer → TransferStage → Toggle → TransferFields
fields_at n stage awaited =
    record (begun n.address n.packet n.naks (setup_of n.setup)) {
      stage = stage;
      awaited = awaited;
      kept = n.kept;
      strikes = n.strikes;
      nak_count = n.nak_count;
    }

-- those of a transfer, where the numbers of its stage and its toggle have a meaning
abbrev pub fields_in : NzgTransfer → Option TransferFields
fields_in n = option_and_then (λ stage. option_map (λ awaited. fields_at n stage awaited) (toggle_given n.toggle)) (stage_in n.stage n.why)

-- the transfer with these numbers, if they are those of one
abbrev pub transfer_in : NzgTransfer → Option TransferView
transfer_in n = option_and_then (λ fields. if is_transfer fields then Some fields else None) (fields_in n)

-- What calls do to it.

-- a number without meaning: the address of no device (8.3.2.1), or a packet that holds nothing
abbrev pub wrong_transfer : ℕ → ℕ → Option ℕ
wrong_transfer address packet = if nat_lt 127 address then Some 1 else if packet == 0 then Some 7 else None

-- where no number is wrong they become those of this transfer, which has done nothing; else they stay
abbrev pub Opens : Option ℕ → TransferView → NzgTransfer → NzgTransfer → Verdict → Type 0
Opens None t old new verdict = (verdict ≡ verdicts.Done 0) × (transfer_in new ≡ Some t)
Opens (Some number) t old new verdict = (verdict ≡ verdicts.BadArgument number) × (new ≡ old)

-- what a reply means, as a verdict; of new bytes it has their number
abbrev pub received_reported : HeardView → Verdict
received_reported Goes = verdicts.Open 0
received_reported (Brings bytes) = verdicts.Open (length bytes)
received_reported Completes = verdicts.Done 0
received_reported (Fails why) = verdicts.Failed why

-- a transfer comes to this one by a reply, and so do the numbers; where they are none of a transfer they stay
abbrev pub Becomes : Option Taken → NzgTransfer → NzgTransfer → Verdict → Type 0
Becomes None old new verdict = (verdict ≡ verdicts.BadArgument 11) × (new ≡ old)
Becomes (Some to) old new verdict = (verdict ≡ received_reported to.received) × (transfer_in new ≡ Some to.transfer)

-- a reply that has a meaning is taken, by a transfer or a write; else nothing changes
abbrev pub TakesReply : (TransferView → Reply → Taken) → NzgTransfer → Option Reply → NzgTransfer → Verdict → Type 0
TakesReply by old None new verdict = (verdict ≡ verdicts.BadArgument 8) × (new ≡ old)
TakesReply by old (Some reply) new verdict = Becomes (option_map (λ t. by t reply) (transfer_in old)) old new verdict
