use Rattle.std.proofs.Common.{◌≡◌, ◌+◌, ◌≤◌, drop}
use Rattle.usb_hex.specs.HexText.{column_after}
use Rattle.usb_hex.proofs.hex_text.column_after.Given as goal

abbrev pub invariant-loop-c : goal.invariant-loop-c
invariant-loop-c l = (column_after l.column (drop l.c-index l.text) ≡ column_after 1 l.text) × (l.column ≤ 1 + l.c-index)
