use Rattle.std.proofs.Common.{◌≡◌, ◌+◌, ℕ, arith, if◌then◌else◌, slice_index}
use Rattle.std.proofs.lemmas.List.{get_or-replicate, length-replicate}
use Rattle.usb_remarks.specs.InterfaceNumbers.{is_numbered}
use Rattle.usb_walk.specs.Trees.{descriptors}
use Rattle.usb_remarks.specs.inside.Coming.{interfaces_of}
use Rattle.usb_remarks.proofs.Coming.{at_most_one}
use Rattle.usb_remarks.proofs.later_interfaces.LaterInterfaces.begin.Goals as goal

pub loop-d-init : goal.loop-d-init
loop-d-init c = record {
  cells = length-replicate {A = ℕ} 256 0;
  each = λ n within. let none = get_or-replicate {A = ℕ} 256 n 0 0 within in omega (arith, none);
  room = λ n within. let none = get_or-replicate {A = ℕ} 256 n 0 0 within in omega (arith, none);
}

pub loop-d-preserved : goal.loop-d-preserved
loop-d-preserved c = record {
  cells = c.add.ensures.cells;
  each = λ n within.
      let before : slice_index c.loop-d.self n + (interfaces_of n (descriptors c.in-Some.behind.now) + (if is_numbered n c.in-Some.d.now then 1 else 0)) ≡ interfaces_of n (descriptors c.args.set.now) =
      rw c.in-Some.ensures.first at (c.loop-d.invariant.each n within) in
      omega (arith, before, c.add.ensures.counts n within);
  room = λ n within.
      let one = at_most_one (is_numbered n c.in-Some.d.now) in
      omega (arith, c.add.ensures.counts n within, one, c.in-Some.ensures.least, c.in-Some.ensures.whole, c.loop-d.invariant.room n within);
}

pub returns : goal.returns
returns c = record {
  cells = c.loop-d.invariant.cells;
  each = λ n within.
      let all : slice_index c.loop-d.self n + 0 ≡ interfaces_of n (descriptors c.args.set.now) = rw c.in_default.ensures.first at (c.loop-d.invariant.each n within) in
      omega (arith, all);
}
