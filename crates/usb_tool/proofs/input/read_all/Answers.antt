use Rattle.std.proofs.Common.{rules, ◌≡◌, ◌++◌, ◌≤◌, take, length, arith, refl, sym, ◌∙◌}
use Rattle.std.proofs.KnownBytes.{Consumes-trans}
use Rattle.usb_tool.proofs.Reading.{counted_more}
use Rattle.usb_tool.proofs.input.read_all.Goals as goal

pub returns-then-read-limit-clause-err : goal.returns-then-read-limit-clause-err
returns-then-read-limit-clause-err g c =
    let so_far = c.loop-bytes.bytes.items in
    let bound : c.in-Ok.read ≤ length c.read.new.buf = search rules in
    record {
      bytes = so_far ++ take c.in-Ok.read c.read.new.buf;
      read = Consumes-trans _ _ _ _ _ c.loop-bytes.invariant.read c.in-Ok.ensures.bytes.0;
      above = sym (counted_more so_far c.read.new.buf _ _ refl bound) ∙ search rules;
    }

pub returns-then-is_err-clause-err : goal.returns-then-is_err-clause-err
returns-then-is_err-clause-err g c =
    let so_far = c.loop-bytes.bytes.items in
    let bound : c.in-Ok.read ≤ length c.read.new.buf = search rules in
    let count : c.len-in-loop-bytes.result ≡ length so_far = search rules in
    record {
      bytes = so_far ++ take c.in-Ok.read c.read.new.buf;
      read = Consumes-trans _ _ _ _ _ c.loop-bytes.invariant.read c.in-Ok.ensures.bytes.0;
      within = omega (arith, counted_more so_far c.read.new.buf _ _ refl bound, c.if-read-limit.false, c.loop-bytes.invariant.within, count);
    }
