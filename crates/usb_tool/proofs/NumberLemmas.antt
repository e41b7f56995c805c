-- What `parse` reads of a text is the number of the text.
use Rattle.std.proofs.Common.{◌≡◌, ◌&&◌, ◌^◌, ℕ, Bool, true, false, List, [], ◌∷◌, length, nat_lt, Result, Ok, Err, Some, None, ap, refl}
use Rattle.std.specs.Char.{digit_value}
use Rattle.std.specs.List.{list_all}
use Rattle.std.specs.Result.{result_ok}
use Rattle.std.specs.Str.Parse.{AllDigits, ParsesUnsigned, digits_value, without_leading_plus}
use borrow.Author.Tests.{lt-ltb, ltb-true}
use Rattle.clap.proofs.WalkLemmas.{both}
use Rattle.usb_tool.specs.OptionValues.{number_of}

all_pass : (ds : List ℕ) → AllDigits 10 ds → list_all (λ c. nat_lt (digit_value c) 10) ds ≡ true
all_pass [] h = refl
all_pass (d ∷ ds) h = rw (lt-ltb (digit_value d) 10 h.0) (all_pass ds h.1)

all_digits : (ds : List ℕ) → list_all (λ c. nat_lt (digit_value c) 10) ds ≡ true → AllDigits 10 ds
all_digits [] e = tt
all_digits (d ∷ ds) e =
    let parts = both _ _ e in
    (ltb-true _ _ parts.0, all_digits ds parts.1)

-- the text is digits of a number of this many bits
abbrev passes : ℕ → List ℕ → Bool
passes bits ds = nat_lt 0 (length ds) && (list_all (λ c. nat_lt (digit_value c) 10) ds && nat_lt (digits_value 10 ds) (2 ^ bits))

pub parses_number : {E : Type 0} (bits : ℕ) (text : List ℕ) (r : Result ℕ E) → ParsesUnsigned bits 10 text r → result_ok r ≡ number_of bits text
parses_number bits text (Ok n) h =
    let ds = without_leading_plus text in
    rw (lt-ltb 0 (length ds) h.0.0.0, all_pass ds h.0.0.1, lt-ltb (digits_value 10 ds) (2 ^ bits) h.0.1) (ap (λ m. Some m) h.1)
parses_number bits text (Err e) h = go (passes bits (without_leading_plus text)) refl
  where
    go : (b : Bool) → passes bits (without_leading_plus text) ≡ b → None ≡ number_of bits text
    go false t = rw t refl
    go true t =
        let outer = both _ _ t in
        let inner = both _ _ outer.1 in
        absurd (h ((ltb-true _ _ outer.0, all_digits (without_leading_plus text) inner.0), ltb-true _ _ inner.1))
