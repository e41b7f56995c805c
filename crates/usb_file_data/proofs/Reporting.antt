-- What a walk reports, piece by piece.
use Rattle.std.proofs.Common.{◌≡◌, ℕ, suc, ◌+◌, ◌<◌, ◌≤◌, Bool, true, false, List, [], ◌∷◌, ◌++◌, ◌∙◌, refl, ap, sym, length, map, get_or, drop, append_assoc}
use Rattle.std.specs.List.{flat_map}
use Rattle.std.proofs.lemmas.List.{append-nil, map-append}
use Rattle.std.proofs.lemmas.Grind.{common_steps}
use Rattle.std.proofs.Common.{arith}
use Rattle.usb_set.specs.declared.extra.Extra.{Extra}
use Rattle.usb_set.specs.declared.extra.Extra.TheVariants as extras
use Rattle.usb_set.specs.Owners.{association_in}
use Rattle.usb_file_data.specs.declared.cause.Found.{Found}
use Rattle.usb_file_data.specs.declared.finding.Finding.{Finding}
use Rattle.usb_file_data.specs.declared.place.Place.{Place}
use Rattle.usb_file_data.specs.Causes.{Broken}
use Rattle.usb_file_data.specs.Findings.{found, found_from}
use Rattle.usb_file_data.specs.Places.{at_each, at_each_counted}
use Rattle.usb_file_data.specs.inside.Reports.{Reported, counted, none_reported, passed, reported, walked, with_causes, without_causes}
use Rattle.usb_file_data.specs.inside.Walk.{in_extras}

of_four : Bool → ℕ → List Found → List Finding → Reported
of_four b n found findings = record { has_causes = b; found = found; findings = findings; descriptor = n }

-- ---- at one descriptor

found_again : (b : Bool) (n : ℕ) (old : List Found) (xs ys : List Broken) → (old ++ with_causes b n xs) ++ with_causes b n ys ≡ old ++ with_causes b n (xs ++ ys)
found_again true n old xs ys = append_assoc old (map (found n) xs) (map (found n) ys) ∙ ap (λ l. old ++ l) (sym (map-append (found n) xs ys))
found_again false n old xs ys = append-nil (old ++ [])

findings_again : (b : Bool) (old : List Finding) (xs ys : List Broken) → (old ++ without_causes b xs) ++ without_causes b ys ≡ old ++ without_causes b (xs ++ ys)
findings_again true old xs ys = append-nil (old ++ [])
findings_again false old xs ys =
    append_assoc old (map (λ b. b.finding) xs) (map (λ b. b.finding) ys) ∙ ap (λ l. old ++ l) (sym (map-append (λ b. b.finding) xs ys))

-- one report after another
pub reported_again : (r : Reported) (xs ys : List Broken) → reported (reported r xs) ys ≡ reported r (xs ++ ys)
unfolding reported of_four
reported_again r xs ys =
    ap (λ found. of_four r.has_causes r.descriptor found ((r.findings ++ without_causes r.has_causes xs) ++ without_causes r.has_causes ys)) (found_again r.has_causes r.descriptor r.found xs ys)
    ∙ ap (of_four r.has_causes r.descriptor (r.found ++ with_causes r.has_causes r.descriptor (xs ++ ys))) (findings_again r.has_causes r.findings xs ys)

found_none : (b : Bool) (n : ℕ) (old : List Found) → old ++ with_causes b n [] ≡ old
found_none true n old = append-nil old
found_none false n old = append-nil old

findings_none : (b : Bool) (old : List Finding) → old ++ without_causes b [] ≡ old
findings_none true old = append-nil old
findings_none false old = append-nil old

-- nothing more
pub reported_none : (r : Reported) → reported r [] ≡ r
unfolding reported of_four
reported_none r =
    ap (λ found. of_four r.has_causes r.descriptor found (r.findings ++ without_causes r.has_causes [])) (found_none r.has_causes r.descriptor r.found)
    ∙ ap (of_four r.has_causes r.descriptor r.found) (findings_none r.has_causes r.findings)

-- one finding more, with its cause and without it
pub reported_with : (r : Reported) (x : Broken) → r.has_causes ≡ true → reported r (x ∷ []) ≡ record r { found = r.found ++ found r.descriptor x ∷ [] }
unfolding reported of_four
reported_with r x is =
    ap (λ b. of_four r.has_causes r.descriptor (r.found ++ with_causes b r.descriptor (x ∷ [])) (r.findings ++ without_causes b (x ∷ []))) is
    ∙ ap (of_four r.has_causes r.descriptor (r.found ++ found r.descriptor x ∷ [])) (append-nil r.findings)

pub reported_without : (r : Reported) (x : Broken) → r.has_causes ≡ false → reported r (x ∷ []) ≡ record r { findings = r.findings ++ x.finding ∷ [] }
unfolding reported of_four
reported_without r x is =
    ap (λ b. of_four r.has_causes r.descriptor (r.found ++ with_causes b r.descriptor (x ∷ [])) (r.findings ++ without_causes b (x ∷ []))) is
    ∙ ap (λ found. of_four r.has_causes r.descriptor found (r.findings ++ x.finding ∷ [])) (append-nil r.found)

-- ---- past descriptors

-- counted, and not counted
pub passed_with : (n : ℕ) (r : Reported) → r.has_causes ≡ true → passed n r ≡ record r { descriptor = r.descriptor + n }
unfolding of_four
passed_with n r is = ap (λ b. of_four r.has_causes (counted b n r.descriptor) r.found r.findings) is

pub passed_without : (n : ℕ) (r : Reported) → r.has_causes ≡ false → passed n r ≡ r
unfolding of_four
passed_without n r is = ap (λ b. of_four r.has_causes (counted b n r.descriptor) r.found r.findings) is

counted_none : (b : Bool) (number : ℕ) → counted b 0 number ≡ number
counted_none true number = let e : number + 0 ≡ number = omega arith in e
counted_none false number = refl

counted_again : (b : Bool) (n number : ℕ) → counted b n (counted b 1 number) ≡ counted b (suc n) number
counted_again true n number = let e : number + 1 + n ≡ number + suc n = omega arith in e
counted_again false n number = refl

pub walked_none : (r : Reported) → walked r [] ≡ r
unfolding walked
walked_none r = refl

pub walked_on : (r : Reported) (here : List Broken) (later : List (List Broken)) → walked (passed 1 (reported r here)) later ≡ walked r (here ∷ later)
unfolding walked
walked_on r here later = refl

pub walked_again : (r : Reported) (xs ys : List (List Broken)) → walked (walked r xs) ys ≡ walked r (xs ++ ys)
unfolding walked
walked_again r [] ys = refl
walked_again r (x ∷ xs) ys = walked_again (passed 1 (reported r x)) xs ys

-- a descriptor, those after it, and what is left
pub first_and_more : (old one two new : Reported) (here : List Broken) (ys rest : List (List Broken)) → one ≡ reported old here → two ≡ passed 1 one → new ≡ walked two ys
    → walked new rest ≡ walked old (here ∷ ys ++ rest)
first_and_more old one two new here ys rest first next more =
    ap (λ r. walked r rest) (more ∙ ap (λ r. walked r ys) (next ∙ ap (passed 1) first)) ∙ walked_again (passed 1 (reported old here)) ys rest ∙ walked_on old here (ys ++ rest)

-- of extras without associations nothing is reported
pub passed_extras : (at : Place) (stands : ℕ → Bool) (n : ℕ) (xs : List Extra) (r : Reported) → flat_map association_in xs ≡ [] → walked r (in_extras at stands n xs) ≡ passed (length xs) r
unfolding walked of_four
passed_extras at stands n [] r none = ap (λ k. of_four r.has_causes k r.found r.findings) (sym (counted_none r.has_causes r.descriptor))
passed_extras at stands n (extras.Raw x ∷ xs) r none =
    ap (λ q. walked (passed 1 q) (in_extras at stands (n + 0) xs)) (reported_none r) ∙ passed_extras at stands (n + 0) xs (passed 1 r) none
    ∙ ap (λ k. of_four r.has_causes k r.found r.findings) (counted_again r.has_causes (length xs) r.descriptor)
passed_extras at stands n (extras.Association x ∷ xs) r none = cc

-- what is found in all, with causes and without them
all_reported_with : (r : Reported) (ds : List (List Broken)) → r.has_causes ≡ true → (walked r ds).found ≡ r.found ++ found_from r.descriptor ds
unfolding walked reported
all_reported_with r [] is = sym (append-nil r.found)
all_reported_with r (here ∷ later) is =
    all_reported_with (passed 1 (reported r here)) later is
    ∙ ap (λ b. (r.found ++ with_causes b r.descriptor here) ++ found_from (counted b 1 r.descriptor) later) is
    ∙ append_assoc r.found (map (found r.descriptor) here) (found_from (r.descriptor + 1) later)

pub all_found : (ds : List (List Broken)) → (walked (none_reported true) ds).found ≡ found_from 0 ds
all_found ds = all_reported_with (none_reported true) ds refl

same_findings : (n : ℕ) (here : List Broken) → map (λ f. f.finding) (map (found n) here) ≡ map (λ b. b.finding) here
same_findings n [] = refl
same_findings n (b ∷ here) = ap (λ l. b.finding ∷ l) (same_findings n here)

-- the findings of the first descriptor, and of those after it
pub findings_on : (n : ℕ) (here : List Broken) (later : List (List Broken))
    → map (λ f. f.finding) (found_from n (here ∷ later)) ≡ map (λ b. b.finding) here ++ map (λ f. f.finding) (found_from (n + 1) later)
findings_on n here later =
    map-append (λ f. f.finding) (map (found n) here) (found_from (n + 1) later) ∙ ap (λ l. l ++ map (λ f. f.finding) (found_from (n + 1) later)) (same_findings n here)

all_reported_without : (n : ℕ) (r : Reported) (ds : List (List Broken)) → r.has_causes ≡ false → (walked r ds).findings ≡ r.findings ++ map (λ f. f.finding) (found_from n ds)
unfolding walked reported
all_reported_without n r [] is = sym (append-nil r.findings)
all_reported_without n r (here ∷ later) is =
    let rest = map (λ f. f.finding) (found_from (n + 1) later) in
    all_reported_without (n + 1) (passed 1 (reported r here)) later is ∙ ap (λ b. (r.findings ++ without_causes b here) ++ rest) is
    ∙ append_assoc r.findings (map (λ b. b.finding) here) rest ∙ ap (λ l. r.findings ++ l) (sym (findings_on n here later))

pub all_findings : (ds : List (List Broken)) → (walked (none_reported false) ds).findings ≡ map (λ f. f.finding) (found_from 0 ds)
all_findings ds = all_reported_without 0 (none_reported false) ds refl

-- ---- loops

-- a loop's next place
pub each_next : {A : Type 0} (f : ℕ → A → List (List Broken)) (xs : List A) (i : ℕ) (x : A) (old new whole : Reported)
    → i < length xs → x ≡ get_or xs i x → walked old (at_each f i (drop i xs)) ≡ whole → new ≡ walked old (f i x)
    → walked new (at_each f (i + 1) (drop (i + 1) xs)) ≡ whole
each_next f xs i x old new whole below is whole_is new_is =
    let here : drop i xs ≡ x ∷ drop (i + 1) xs = grind (arith, common_steps) in
    let step : at_each f i (drop i xs) ≡ f i x ++ at_each f (i + 1) (drop (i + 1) xs) = ap (at_each f i) here in
    ap (λ r. walked r (at_each f (i + 1) (drop (i + 1) xs))) new_is
    ∙ walked_again old (f i x) (at_each f (i + 1) (drop (i + 1) xs)) ∙ ap (walked old) (sym step) ∙ whole_is

-- the same with a count
pub counted_next : {A : Type 0} (size : A → ℕ) (f : ℕ → ℕ → A → List (List Broken)) (xs : List A) (i n m : ℕ) (x : A) (old new whole : Reported)
    → i < length xs → x ≡ get_or xs i x → walked old (at_each_counted size f i n (drop i xs)) ≡ whole → new ≡ walked old (f i n x) → m ≡ n + size x
    → walked new (at_each_counted size f (i + 1) m (drop (i + 1) xs)) ≡ whole
counted_next size f xs i n m x old new whole below is whole_is new_is m_is =
    let here : drop i xs ≡ x ∷ drop (i + 1) xs = grind (arith, common_steps) in
    let rest = at_each_counted size f (i + 1) (n + size x) (drop (i + 1) xs) in
    let step : at_each_counted size f i n (drop i xs) ≡ f i n x ++ at_each_counted size f (i + 1) (n + size x) (drop (i + 1) xs) = ap (at_each_counted size f i n) here in
    ap (λ k. walked new (at_each_counted size f (i + 1) k (drop (i + 1) xs))) m_is
    ∙ ap (λ r. walked r rest) new_is
    ∙ walked_again old (f i n x) rest ∙ ap (walked old) (sym step) ∙ whole_is

-- a loop's end
pub each_last : {A : Type 0} (f : ℕ → A → List (List Broken)) (xs : List A) (i : ℕ) (new whole : Reported) → length xs ≤ i → walked new (at_each f i (drop i xs)) ≡ whole → new ≡ whole
each_last f xs i new whole end is =
    let none : drop i xs ≡ [] = grind (arith, common_steps) in
    sym (walked_none new) ∙ ap (λ ys. walked new (at_each f i ys)) (sym none) ∙ is

pub counted_last : {A : Type 0} (size : A → ℕ) (f : ℕ → ℕ → A → List (List Broken)) (xs : List A) (i n : ℕ) (new whole : Reported) → length xs ≤ i → walked new (at_each_counted size f i n (drop i xs)) ≡ whole → new ≡ whole
counted_last size f xs i n new whole end is =
    let none : drop i xs ≡ [] = grind (arith, common_steps) in
    sym (walked_none new) ∙ ap (λ ys. walked new (at_each_counted size f i n ys)) (sym none) ∙ is
