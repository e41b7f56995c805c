-- An open speed is both of its speeds.
use Rattle.std.proofs.Common.{arith}
use Rattle.std.proofs.lemmas.Bool.Decides.{nat_tests}
use Rattle.usb_remarks.specs.Remarks.{FullOrHighIsOpen, LowOrFullIsOpen}

pub low_or_full_is_open : LowOrFullIsOpen
low_or_full_is_open = record {
  intervals = λ transfer n. grind (arith, nat_tests);
  sizes = λ transfer n. grind (arith, nat_tests);
  multiples = λ transfer n. grind (arith, nat_tests);
  attributes = λ transfer n. grind (arith, nat_tests);
}

pub full_or_high_is_open : FullOrHighIsOpen
full_or_high_is_open = record {
  intervals = λ transfer n. grind (arith, nat_tests);
  sizes = λ transfer n. grind (arith, nat_tests);
  multiples = λ transfer n. grind (arith, nat_tests);
  attributes = λ transfer n. grind (arith, nat_tests);
}
