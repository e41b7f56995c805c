use Rattle.std.proofs.Common.{◌≡◌, ◌+◌, ◌≤◌, count_by, take}
use Rattle.usb_text.specs.Lines.{is_line_feed}
use Rattle.usb_hex.proofs.hex_text.line_after.Given as goal

abbrev pub invariant-loop-c : goal.invariant-loop-c
invariant-loop-c l = (l.line ≡ 1 + count_by is_line_feed (take l.c-index l.text)) × (l.line ≤ 1 + l.c-index)
