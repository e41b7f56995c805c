-- A transaction, as the bus and both ends have seen it.
use Rattle.std.specs.Prelude.{Bool, true, false, Option, Some, None, Result, Err}
use Rattle.usb_fields.specs.Packets.{Reply, NoReply}
use Rattle.usb_file_data.specs.declared.file.DescriptorFile.{DescriptorFile}
use Rattle.usb_host.specs.declared.why.Why.{Why}
use Rattle.usb_host.specs.Transfer.{Fails, HeardView, TransferView, taken}
use Rattle.usb_device.specs.Step.{DeviceView}
use Rattle.usb_bus.specs.declared.fate.Fate.{Fate}
use Rattle.usb_bus.specs.declared.fate.Fate.TheVariants.{LostDown, LostUp, LostAck}
use Rattle.usb_host.specs.declared.step.Trouble.{Trouble}
use Rattle.usb_host.specs.Steps.{HostPhase, Wanted, WantsReset, WantsSent, outcome_of, wanted}
use Rattle.usb_bus.specs.Enumerate.{answered}

-- what the host sends is lost
abbrev pub is_lost_down : Fate → Bool
is_lost_down LostDown = true
is_lost_down fate = false

-- what the device answers is lost
abbrev pub is_lost_up : Fate → Bool
is_lost_up LostUp = true
is_lost_up fate = false

-- the host's ACK is lost
abbrev pub is_lost_ack : Fate → Bool
is_lost_ack LostAck = true
is_lost_ack fate = false

-- what a device with these descriptors answers in the step that a host wants: nothing where that is no transaction
abbrev pub answered_in : DescriptorFile → DeviceView → Wanted → Fate → Reply
answered_in f d (WantsSent sent) fate = answered f d sent fate
answered_in f d wants fate = NoReply

-- why a host has ended without success, if it has
abbrev pub trouble_why : Option (Result DescriptorFile Trouble) → Option Why
trouble_why (Some (Err trouble)) = Some trouble.why
trouble_why outcome = None

-- Why an attempt is given up after a transaction, if it is: its transfer has failed so and a reset is requested, or the host has
-- ended for this reason.
abbrev pub given_up : HeardView → Wanted → Option Why → Option Why
given_up (Fails why) WantsReset trouble = Some why
given_up received wants trouble = trouble

-- the same of a transfer, of what came of the answer to it, and of the host then
abbrev pub cause_of : TransferView → Reply → HostPhase → Option Why
cause_of t reply phase = given_up (taken t reply).received (wanted phase) (trouble_why (outcome_of phase))
