-- On findings put into a buffer, descriptor by descriptor.
use Rattle.std.proofs.Common.{◌≡◌, ◌∙◌, ◌+◌, ◌<◌, ◌≤◌, ◌++◌, ℕ, suc, List, [], ◌∷◌, ap, append-nil, append_assoc, arith, drop, flat_map, get_or, length, length-append, length-drop, length-take, map, refl, sym, take}
use Rattle.std.proofs.lemmas.Grind.{flat_map-append}
use Rattle.std.proofs.lemmas.List.{length-map, map_more, set_split}
use Rattle.std.proofs.lemmas.Slice.{drop-append-drop}
use Rattle.std.proofs.Math.ListN.{set}
use Rattle.std.proofs.Math.Seq.{take-append_seam}
use Rattle.usb_file_data.specs.declared.cause.Found.{Found}
use Rattle.usb_remarks.specs.Outline.{Described}
use Rattle.usb_c.specs.Facts.{placed, placed_at}

-- as many are put as stand at the descriptors
pub placed_count : (ds : List Described) → length (flat_map placed_at ds) ≡ length (flat_map (λ d. d.findings) ds)
placed_count [] = refl
placed_count (d ∷ ds) =
    let more = placed_count ds in
    let one = length-append (placed_at d) (flat_map placed_at ds) in
    let other = length-append d.findings (flat_map (λ d. d.findings) ds) in
    let same = length-map d.findings (placed d) in
    omega (arith, more, one, other, same)

-- where nothing is found, nothing is put
pub none_placed : (ds : List Described) (found : List Found) → flat_map (λ d. d.findings) ds ≡ found → length found ≡ 0 → flat_map placed_at ds ≡ []
none_placed ds found is none = length-nil (flat_map placed_at ds) (placed_count ds ∙ ap length is ∙ none)
  where
    length-nil : {A : Type 0} (l : List A) → length l ≡ 0 → l ≡ []
    length-nil [] e = refl
    length-nil (x ∷ l) e = absurd (omega (arith, e))

-- What f makes of each of xs is put after `filled` items, of which the first i are there: with one more written.
pub put_one_more : {X A : Type 0} (f : X → A) (xs : List X) (old now : List A) (filled i : ℕ) (x : X) (y : A) → filled + length (map f xs) ≤ length old → i < length xs
    → now ≡ take filled old ++ map f (take i xs) ++ drop (filled + i) old → y ≡ f (get_or xs i x)
    → set now (filled + i) y ≡ take filled old ++ map f (take (i + 1) xs) ++ drop (filled + (i + 1)) old
put_one_more f xs old now filled i x y fits below is made =
    let count = length-map xs f in
    let front = take filled old ++ map f (take i xs) in
    let long : length front ≡ filled + i =
    (let a = length-append (take filled old) (map f (take i xs)) in let b = length-take filled old in let c = length-map (take i xs) f in let d = length-take i xs in omega (arith, a, b, c, d, fits, count, below)) in
    let room : filled + i < length now = (let a = ap length is in let b = length-append front (drop (filled + i) old) in let c = length-drop (filled + i) old in omega (arith, a, b, c, long, fits, count, below)) in
    let split = set_split now (filled + i) y room in
    let first : take (filled + i) now ≡ front = ap (take (filled + i)) is ∙ ap (λ (k : ℕ). take k (front ++ drop (filled + i) old)) (sym long) ∙ take-append_seam front (drop (filled + i) old) in
    let last : drop (suc (filled + i)) now ≡ drop (suc (filled + i)) old = ap (drop (suc (filled + i))) is ∙ drop-append-drop (filled + i) old front (suc (filled + i)) (omega arith) long in
    let next : suc (filled + i) ≡ filled + (i + 1) = omega arith in
    let more = map_more f xs i x below in
    let inner = append_assoc (take filled old) (map f (take i xs)) (f (get_or xs i x) ∷ []) in
    let outer = append_assoc front (f (get_or xs i x) ∷ []) (drop (filled + (i + 1)) old) in
    cc

-- the buffer begins with what f makes of all but those that are left, and its rest is as it was
pub record PutSoFar {X A : Type 0} (f : X → List A) (all left : List X) (old now : List A) (filled : ℕ) : Type 0 where
  pub done : List X
  pub parts : all ≡ done ++ left
  pub filled_is : filled ≡ length (flat_map f done)
  pub put : now ≡ flat_map f done ++ drop filled old

pub none_put : {X A : Type 0} (f : X → List A) (all left : List X) (old : List A) → left ≡ all → PutSoFar f all left old old 0
none_put f all left old e = record { done = []; parts = sym e; filled_is = refl; put = refl }

module _ {X A : Type 0} (f : X → List A) (all : List X) (x : X) (rest : List X) (old now : List A) (filled : ℕ) (p : PutSoFar f all (x ∷ rest) old now filled) where
  -- there is room for the next
  pub room_for_one : length (flat_map f all) ≤ length old → filled + length (f x) ≤ length now
  room_for_one fits =
      let front = flat_map f p.done in
      let parts = ap (λ (l : List X). length (flat_map f l)) p.parts in
      let joined = ap length (flat_map-append f p.done (x ∷ rest)) in
      let counted = length-append front (f x ++ flat_map f rest) in
      let more = length-append (f x) (flat_map f rest) in
      let put = ap length p.put in
      let both = length-append front (drop filled old) in
      let left = length-drop filled old in
      let is = p.filled_is in
      omega (arith, parts, joined, counted, more, put, both, left, is, fits)

  pub one_put : (next : List A) (count : ℕ) → next ≡ take filled now ++ f x ++ drop (filled + length (f x)) now → count ≡ filled + length (f x)
      → PutSoFar f all rest old next count
  one_put next count is counts =
      let front = flat_map f p.done in
      let joined : flat_map f (p.done ++ (x ∷ [])) ≡ front ++ f x = flat_map-append f p.done (x ∷ []) ∙ ap (λ (l : List A). front ++ l) (append-nil (f x)) in
      let first : take filled now ≡ front = ap (take filled) p.put ∙ ap (λ (k : ℕ). take k (front ++ drop filled old)) p.filled_is ∙ take-append_seam front (drop filled old) in
      let last : drop (filled + length (f x)) now ≡ drop (filled + length (f x)) old =
      ap (drop (filled + length (f x))) p.put ∙ drop-append-drop filled old front (filled + length (f x)) (omega arith) (sym p.filled_is) in
      let both = length-append front (f x) in
      let filled_is = p.filled_is in
      let long = ap length joined in
      record {
        done = p.done ++ (x ∷ []);
        parts = p.parts ∙ sym (append_assoc p.done (x ∷ []) rest);
        filled_is = omega (arith, counts, filled_is, long, both);
        put = cc;
      }
