use Rattle.std.proofs.Common.{◌≡◌, length}
use Rattle.usb_remarks.specs.EndpointAddresses.{another}
use Rattle.usb_walk.specs.Trees.{descriptors}
use Rattle.usb_remarks.proofs.remarks.endpoint_addresses.another.Given as goal

abbrev pub invariant-loop-d : goal.invariant-loop-d
invariant-loop-d l = another l.one l.other (descriptors l.rest) ≡ another l.one l.other (descriptors l.set)

abbrev pub decreases-loop-d : goal.decreases-loop-d
decreases-loop-d l = length l.rest
