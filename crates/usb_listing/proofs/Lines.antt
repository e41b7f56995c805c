-- On a line whose parts are put one after another.
use Rattle.std.proofs.Common.{◌≡◌, ℕ, List, ◌++◌, codes, ap, ◌∙◌, append_assoc}
use Rattle.std.specs.List.{flat_map}
use Rattle.usb_listing.specs.Table.{written_field, written_line}

-- a line of fields that were put all at once
pub row_line_put : (page word : List ℕ) (fields : List (List ℕ)) → page ++ word ++ flat_map written_field fields ++ codes "\n" ≡ page ++ written_line word fields
row_line_put page word fields =
    ap (λ l. l ++ codes "\n") (append_assoc page word (flat_map written_field fields))
    ∙ append_assoc page (word ++ flat_map written_field fields) (codes "\n")

-- a line that ends with a quote
pub quoted_put : (page word text end : List ℕ) → page ++ word ++ text ++ end ≡ page ++ (word ++ text ++ end)
quoted_put page word text end =
    ap (λ l. l ++ end) (append_assoc page word text) ∙ append_assoc page (word ++ text) end
