-- A text around its first point.
use Rattle.std.proofs.Common.{◌≡◌, ℕ, List, Bor, true, false, Option, Some, None, ◌∙◌, sym, ap, ap₂, arith, length}
use Rattle.std.specs.Prelude.{nat_lt, option_map, if◌then◌else◌}
use Rattle.std.specs.List.{after_first, before_first, position_or_len}
use Rattle.std.proofs.lemmas.Bool.Decides.{nat_tests}
use Rattle.std.proofs.lemmas.Str.Pattern.{IsSplitOnceResult, split_once_first}
use Rattle.usb_tool.specs.CaptureOptions.{around_point, is_point}

pub around : (text : List ℕ) (r : Option (Bor (List ℕ) × Bor (List ℕ))) → IsSplitOnceResult 46 text r → option_map (λ p. (p.0.now, p.1.now)) r ≡ around_point text
around text None h =
    let end = split_once_first 46 text None h (omega arith) in
    let test : nat_lt (position_or_len is_point text) (length text) ≡ false = grind (arith, nat_tests) in
    sym (ap (λ b. if b then Some (before_first is_point text, after_first is_point text) else None) test)
around text (Some x) h =
    let there = split_once_first 46 text (Some x) h (omega arith) in
    let test : nat_lt (position_or_len is_point text) (length text) ≡ true = grind (arith, nat_tests) in
    ap₂ (λ a b. Some (a, b)) there.1 there.2 ∙ sym (ap (λ b. if b then Some (before_first is_point text, after_first is_point text) else None) test)
