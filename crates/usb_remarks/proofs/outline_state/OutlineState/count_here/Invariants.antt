use Rattle.std.proofs.Common.{◌≡◌, ◌+◌, drop, length}
use Rattle.std.specs.List.{take_while}
use Rattle.usb_remarks.specs.Findings.{is_here}
use Rattle.usb_remarks.proofs.outline_state.OutlineState.count_here.Given as goal

-- what was counted, and what of the rest is to be counted, are all of it
abbrev pub invariant-loop-one : goal.invariant-loop-one
invariant-loop-one l =
    let here = take_while (is_here l.self) in
    record {
      count : l.count + length (here (drop l.one-index l.found)) ≡ length (here l.found);
      before : l.count ≡ l.one-index;
    }
