use Rattle.std.proofs.Common.{rules, ◌++◌, ◌≤◌, take, length, arith, sym, ◌∙◌}
use Rattle.std.proofs.KnownBytes.{Consumes-trans}
use Rattle.usb_tool.proofs.Intakes.{reads_on, stops_reading}
use Rattle.usb_tool.proofs.Reading.{counted_more}
use Rattle.usb_tool.proofs.input.read_intake.Goals as goal

pub returns-then-read-limit-clause-err : goal.returns-then-read-limit-clause-err
returns-then-read-limit-clause-err g c =
    let so_far = c.loop-intake.invariant.so_far in
    let bound : c.in-Ok.read ≤ length c.read.new.buf = search rules in
    record {
      bytes = so_far.bytes ++ take c.in-Ok.read c.read.new.buf;
      read = Consumes-trans _ _ _ _ _ so_far.read c.in-Ok.ensures.bytes.0;
      above = sym (counted_more so_far.bytes c.read.new.buf _ _ so_far.counted bound) ∙ search rules;
    }

pub returns-in_err-take-clause-err : goal.returns-in_err-take-clause-err
returns-in_err-take-clause-err g c =
    let so_far = c.loop-intake.invariant.so_far in
    let bound : c.in-Ok.read ≤ length c.read.new.buf = search rules in
    stops_reading _ _ _ _ _ c.from_residual-in_err-take.ensures.1 c.in_err-take.ensures.err (record {
      bytes = so_far.bytes ++ take c.in-Ok.read c.read.new.buf;
      read = Consumes-trans _ _ _ _ _ so_far.read c.in-Ok.ensures.bytes.0;
      within = omega (arith, counted_more so_far.bytes c.read.new.buf _ _ so_far.counted bound, c.if-read-limit.false, c.loop-intake.invariant.within);
    })

pub loop-intake-preserved : goal.loop-intake-preserved
loop-intake-preserved g c =
    let so_far = c.loop-intake.invariant.so_far in
    let bound : c.in-Ok.read ≤ length c.read.new.buf = search rules in
    record {
      so_far = reads_on _ _ _ _ _ _ _ c.read.new.buf so_far c.in-Ok.ensures.bytes.0 bound
          (c.in_ok-take.ensures.ok so_far.bytes so_far.counted (omega (arith, c.loop-intake.invariant.many)) so_far.kept);
      many = omega (arith, c.loop-intake.invariant.many);
      within = omega (arith, c.if-read-limit.false, c.loop-intake.invariant.within);
    }
