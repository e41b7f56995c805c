use Rattle.std.proofs.Common.{◌≡◌, ◌≤◌, ◌++◌, length}
use Rattle.usb_tool.specs.Builds.{hex_from, hex_text}
use Rattle.usb_tool.proofs.hex_output.hex_text.Given as goal

-- what is written so far, and what is to come
abbrev pub invariant-loop-rest : goal.invariant-loop-rest
invariant-loop-rest l = record {
  written : l.text ++ hex_from l.column l.rest ≡ hex_text l.bytes;
  column : l.column ≤ 15;
}

abbrev pub decreases-loop-rest : goal.decreases-loop-rest
decreases-loop-rest l = length l.rest
