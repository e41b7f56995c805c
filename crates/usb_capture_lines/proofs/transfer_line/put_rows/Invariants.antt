use Rattle.std.proofs.Common.{◌≡◌, ◌++◌, codes, length}
use Rattle.usb_capture_lines.specs.Lines.{rows}
use Rattle.usb_capture_lines.proofs.transfer_line.put_rows.Given as goal

-- what is put so far, and what is to come
abbrev pub invariant-loop-rest : goal.invariant-loop-rest
invariant-loop-rest l = l.text ++ rows l.room l.rest ≡ l.fn.text ++ codes "           " ++ rows 32 l.bytes

abbrev pub decreases-loop-rest : goal.decreases-loop-rest
decreases-loop-rest l = length l.rest
