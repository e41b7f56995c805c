-- Descriptors of rows, both ways: their bytes, and the text behind their word.
use Rattle.std.proofs.Common.{◌≡◌, ℕ, ◌+◌, ◌-◌, ◌≤◌, Bool, true, false, List, [], ◌∷◌, ◌++◌, Option, Some, None, unwrap_or, length, take, drop, refl, ap, sym, ◌∙◌, append_assoc, append-nil, length-append, arith}
use Rattle.std.specs.List.{flat_map}
use Rattle.std.proofs.lemmas.List.{length-take-le, take-append-drop}
use Rattle.usb_fields.specs.Bytes.{AreBytes}
use Rattle.usb_fields.specs.Fields.{Fills, cells, size_of}
use Rattle.usb_fields.specs.declared.field.Width.{Width}
use Rattle.usb_fields.specs.declared.field.Width.TheVariants.{One, Two}
use Rattle.usb_listing.specs.Table.{written_field}
use Rattle.usb_listing.specs.inside.Fields.{Cell, bytes_in, cells_from, ended, tail_of, with_length, with_tail}
use Rattle.usb_fields.proofs.ByteParts.{bytes_append, bytes_back, bytes_front}
use Rattle.usb_listing.proofs.FieldLemmas.{cells_again, cells_are, tail_again, tail_read, text_of}

-- ---- the text of a body is that of its fields and of its tail

abbrev pub body_text : List Width → Bool → List ℕ → List ℕ
body_text widths tail body = flat_map written_field (cells widths tail body)

text_tailed : (widths : List Width) (fixed tail : List ℕ) → length fixed ≡ size_of widths → body_text widths true (fixed ++ tail) ≡ text_of widths fixed ++ written_field tail
text_tailed [] [] tail e = append-nil (written_field tail)
text_tailed [] (x ∷ fixed) tail e = absurd (omega arith)
text_tailed (One ∷ widths) [] tail e = absurd (omega arith)
text_tailed (One ∷ widths) (x ∷ fixed) tail e =
    ap (λ (xs : List ℕ). written_field (x ∷ []) ++ xs) (text_tailed widths fixed tail (omega (arith, e)))
    ∙ sym (append_assoc (written_field (x ∷ [])) (text_of widths fixed) (written_field tail))
text_tailed (Two ∷ widths) [] tail e = absurd (omega arith)
text_tailed (Two ∷ widths) (x ∷ []) tail e = absurd (omega arith)
text_tailed (Two ∷ widths) (low ∷ high ∷ fixed) tail e =
    ap (λ (xs : List ℕ). written_field (high ∷ low ∷ []) ++ xs) (text_tailed widths fixed tail (omega (arith, e)))
    ∙ sym (append_assoc (written_field (high ∷ low ∷ [])) (text_of widths fixed) (written_field tail))

-- ---- a descriptor that was written is read

counted : (front body : List ℕ) → with_length (Some (0 ∷ front ++ body)) ≡ Some ((1 + length front + length body) ∷ front ++ body)
counted front body =
    let n = length-append front body in
    let count : length (0 ∷ front ++ body) ≡ 1 + length front + length body = omega (arith, n) in
    ap (λ (k : ℕ). Some (k ∷ front ++ body)) count

pub whole_again : (front : List ℕ) (widths : List Width) (tail : Bool) (body : List ℕ) → AreBytes body → Fills widths tail body → 1 + length front + length body ≤ 255
    → bytes_in (0 ∷ front) widths tail (body_text widths tail body) ≡ Some ((1 + length front + length body) ∷ front ++ body)
unfolding bytes_in
whole_again front widths false body h fills few =
    ap (λ (c : Cell). with_length (ended false c))
    (ap (cells_from widths (0 ∷ front)) (sym (append-nil (text_of widths body))) ∙ cells_again widths body (0 ∷ front) [] fills h)
    ∙ counted front body
whole_again front widths true body h fills few =
    let n = size_of widths in
    let fixed = take n body in
    let tail = drop n body in
    let whole = take-append-drop n body in
    let count = length-take-le n body fills in
    let text : body_text widths true body ≡ text_of widths fixed ++ written_field tail = ap (body_text widths true) (sym whole) ∙ text_tailed widths fixed tail count in
    let lengths = ap length whole in
    let both = length-append fixed tail in
    let all = length-append front fixed in
    let tails = tail_again (255 - length (0 ∷ front ++ fixed)) tail (bytes_back n body h) (omega (arith, few, lengths, both, all)) in
    ap (λ (t : List ℕ). with_length (ended true (cells_from widths (0 ∷ front) t))) text
    ∙ ap (λ (c : Cell). with_length (ended true c)) (cells_again widths fixed (0 ∷ front) (written_field tail) count (bytes_front n body h))
    ∙ ap (λ (o : Option (List ℕ)). with_length (with_tail (0 ∷ front ++ fixed) o)) tails
    ∙ ap (λ (xs : List ℕ). with_length (Some xs)) (append_assoc (0 ∷ front) fixed tail ∙ ap (λ (xs : List ℕ). 0 ∷ front ++ xs) whole)
    ∙ counted front body

-- ---- a descriptor that was read is written so

pub record WholeRead (front : List ℕ) (widths : List Width) (tail : Bool) (text b : List ℕ) : Type 0 where
  pub body : List ℕ
  pub whole : b ≡ (1 + length front + length body) ∷ front ++ body
  pub few : 1 + length front + length body ≤ 255
  pub bytes : AreBytes body
  pub fills : Fills widths tail body
  pub text_is : text ≡ body_text widths tail body

made_of : (front body all b : List ℕ) → all ≡ 0 ∷ front ++ body → with_length (Some all) ≡ Some b → b ≡ (1 + length front + length body) ∷ front ++ body
made_of front body all b are e =
    let made : Some b ≡ Some ((1 + length front + length body) ∷ front ++ body) = sym e ∙ ap (λ (xs : List ℕ). with_length (Some xs)) are ∙ counted front body in
    ap (λ (o : Option (List ℕ)). unwrap_or o b) made

pub whole_read : (front : List ℕ) (widths : List Width) (tail : Bool) (text b : List ℕ) → 1 + length front + size_of widths ≤ 255 → bytes_in (0 ∷ front) widths tail text ≡ Some b
    → WholeRead front widths tail text b
unfolding bytes_in
whole_read front widths tail text b room e = cases tail (cells_from widths (0 ∷ front) text) refl e
  where
    tailed : (all rest : List ℕ) → cells_from widths (0 ∷ front) text ≡ Some (all, rest) → (o : Option (List ℕ)) → tail_of (255 - length all) rest ≡ o → with_length (with_tail all o) ≡ Some b
        → WholeRead front widths true text b
    tailed all rest ec None et e = cc
    tailed all rest ec (Some t) et e =
        let c = cells_are widths (0 ∷ front) text all rest ec in
        let r = tail_read (255 - length all) rest t et in
        let n = length-append c.fixed t in
        let k = length-append front c.fixed in
        let m = ap length c.are in
        record {
          body = c.fixed ++ t;
          whole = made_of front (c.fixed ++ t) (all ++ t) b (ap (λ (xs : List ℕ). xs ++ t) c.are ∙ append_assoc (0 ∷ front) c.fixed t) e;
          few = omega (arith, room, n, k, m, c.count, r.few);
          bytes = bytes_append c.fixed t c.fits r.fits;
          fills = omega (arith, n, c.count);
          text_is = c.written ∙ ap (λ (xs : List ℕ). text_of widths c.fixed ++ xs) r.written ∙ sym (text_tailed widths c.fixed t c.count);
        }

    cases : (tail : Bool) (o : Cell) → cells_from widths (0 ∷ front) text ≡ o → with_length (ended tail o) ≡ Some b → WholeRead front widths tail text b
    cases true None ec e = cc
    cases false None ec e = cc
    cases true (Some (all, rest)) ec e = tailed all rest ec (tail_of (255 - length all) rest) refl e
    cases false (Some (all, x ∷ rest)) ec e = cc
    cases false (Some (all, [])) ec e =
        let c = cells_are widths (0 ∷ front) text all [] ec in
        record {
          body = c.fixed;
          whole = made_of front c.fixed all b c.are e;
          few = omega (arith, room, c.count);
          bytes = c.fits;
          fills = c.count;
          text_is = c.written ∙ append-nil (text_of widths c.fixed);
        }
