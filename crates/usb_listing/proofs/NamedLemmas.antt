-- A string that the device descriptor names.
use Rattle.std.proofs.Common.{◌≡◌, ◌≢◌, ℕ, zero, suc, ◌+◌, ◌-◌, ◌<◌, ◌==◌, ◌||◌, not, Bool, true, false, cond, List, ◌∷◌, length, refl, ap, sym, ◌∙◌, arith}
use Rattle.std.specs.Prelude.{filter}
use Rattle.std.specs.List.{list_any, range_with_len}
use Rattle.std.proofs.lemmas.Bool.{eq-eqb, ne_eqb}
use Rattle.usb_file_data.specs.declared.file.DescriptorFile.{DescriptorFile}
use Rattle.usb_file_data.specs.File.{named_among, named_indices, string_indices}

some_left : (x : ℕ) (xs : List ℕ) → (length (x ∷ xs) == 0) ≡ false
some_left x xs = ne_eqb (length (x ∷ xs)) 0 (omega arith)

-- a number of the range that passes is kept
range_keeps : (p : ℕ → Bool) (a n k : ℕ) → k < n → p (a + k) ≡ true → (length (filter p (range_with_len a n)) == 0) ≡ false
range_keeps p a zero k lt e = absurd (omega arith)
range_keeps p a (suc n) zero lt e =
    let same : a + 0 ≡ a = omega arith in
    let here : p a ≡ true = ap p (sym same) ∙ e in
    rw here (some_left a (filter p (range_with_len (a + 1) n)))
range_keeps p a (suc n) (suc k) lt e =
    let same : a + suc k ≡ a + 1 + k = omega arith in
    cases (p a) (range_keeps p (a + 1) n k (omega arith) (ap p (sym same) ∙ e))
  where
    cases : (b : Bool) → (length (filter p (range_with_len (a + 1) n)) == 0) ≡ false
        → (length (cond b (a ∷ filter p (range_with_len (a + 1) n)) (filter p (range_with_len (a + 1) n))) == 0) ≡ false
    cases true more = some_left a (filter p (range_with_len (a + 1) n))
    cases false more = more

or_middle : (a b c : Bool) → b ≡ true → (a || (b || c)) ≡ true
or_middle true b c e = refl
or_middle false b c e = rw e refl

product_stands : (f : DescriptorFile) (n : ℕ) → f.device.product_text ≡ n → list_any (λ index. index == n) (string_indices f) ≡ true
product_stands f n e = or_middle (f.device.maker_text == n) (f.device.product_text == n) _ (eq-eqb f.device.product_text n e)

-- iProduct other than 0 names a string
pub product_named : (f : DescriptorFile) → f.device.product_text ≢ 0 → f.device.product_text < 256 → true ≡ not (length (named_indices f) == 0)
unfolding named_among
product_named f some small =
    let at : f.device.product_text ≡ 1 + (f.device.product_text - 1) = omega (arith, some) in
    ap not (sym (range_keeps (λ n. list_any (λ index. index == n) (string_indices f)) 1 255 (f.device.product_text - 1) (omega (arith, some))
    (product_stands f (1 + (f.device.product_text - 1)) at)))
