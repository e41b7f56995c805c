use Rattle.std.proofs.Common.{◌≡◌, take}
use Rattle.usb_file.proofs.completed.index_text.Given as goal

abbrev pub invariant-loop-byte : goal.invariant-loop-byte
invariant-loop-byte l = l.units ≡ take l.byte-index l.byte-items
