-- Elements of a file between two places.
use Rattle.std.proofs.Common.{◌≡◌, ℕ, ◌+◌, ◌≤◌, List, [], ◌∷◌, ◌++◌, length, drop, sym, ap, ◌∙◌, append_assoc, length-append, arith}
use Rattle.std.specs.List.{flat_map}
use Rattle.usb_file_data.proofs.Lists.{flat_map-push}
use Rattle.usb_file.specs.inside.Reading.{ReadsAll}

pub reads_more : {A : Type 0} (g : A → List ℕ) (b : List ℕ) (start : ℕ) (xs : List A) (mid : ℕ) (x : A) (end : ℕ) → ReadsAll g b start xs mid
    → drop mid b ≡ g x ++ drop end b → end ≡ mid + length (g x) → end ≤ length b → ReadsAll g b start (xs ++ x ∷ []) end
reads_more g b start xs mid x end h parts ends within =
    let pushed = flat_map-push g xs x in
    record {
      parts = h.parts ∙ ap (λ r. flat_map g xs ++ r) parts ∙ sym (append_assoc (flat_map g xs) (g x) (drop end b)) ∙ ap (λ l. l ++ drop end b) (sym pushed);
      ends = omega (arith, h.ends, ends, ap length pushed, length-append (flat_map g xs) (g x));
      within = within;
    }
