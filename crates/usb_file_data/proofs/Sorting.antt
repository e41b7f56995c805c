-- Findings sorted by rule.
use Rattle.std.proofs.Common.{◌≡◌, ℕ, suc, ◌+◌, ◌<◌, ◌≤◌, ◌==◌, Bool, true, false, List, [], ◌∷◌, ◌++◌, refl, ap, sym, subst, ◌∙◌, length, map, take, get_or, drop, arith, append_assoc, length-append, nat_lt, not}
use Rattle.std.specs.Prelude.{◌||◌, is_some, filter, fold, if◌then◌else◌, slice_index_or}
use Rattle.std.specs.List.{AllByRecursion, list_all}
use Rattle.std.proofs.lemmas.List.{append-nil, get_or_default, map-append}
use Rattle.std.proofs.lemmas.Bool.Decides.{nat_tests}
use Rattle.std.proofs.lemmas.List.Elements.{filter-append}
use Rattle.std.proofs.lemmas.Grind.{common_steps}
use Rattle.usb_fields.specs.Marks.{marked}
use Rattle.usb_set.specs.declared.tree.Configuration.{Configuration}
use Rattle.usb_file_data.specs.declared.file.DescriptorFile.{DescriptorFile}
use Rattle.usb_file_data.specs.declared.cause.Cause.{Cause}
use Rattle.usb_file_data.specs.declared.cause.Cause.TheVariants as causes
use Rattle.usb_file_data.specs.declared.finding.Finding.{Finding}
use Rattle.usb_file_data.specs.declared.finding.Part.{Part}
use Rattle.usb_file_data.specs.declared.finding.Part.TheVariants as parts
use Rattle.usb_file_data.specs.declared.rule.Rule.{Rule}
use Rattle.usb_file_data.specs.declared.rule.Rule.TheVariants as rules
use Rattle.usb_file_data.specs.Numbers.{rule_number, rule_numbered}
use Rattle.usb_file_data.specs.Places.{at_each, at_each_counted, finding, is_among, when}
use Rattle.usb_file_data.specs.Findings.{association_count, at_configuration, at_device, by_rule, extras_in_order, file_in_order, findings, found_from, of_rule, other_in_order, part_in_order, set_in_order, setting_associations, setting_in_order, without_sets}
use Rattle.usb_file_data.specs.inside.Ends.{AreEnds}
use Rattle.usb_file_data.specs.Rules.{has_number_gap, interface_numbers, wrong_attributes, wrong_device, wrong_interface_count, wrong_value}
use Rattle.usb_file_data.specs.Causes.{Broken, attributes_cause, broken_by, device_cause, value_cause}
use Rattle.usb_file_data.proofs.Reporting.{findings_on}
use Rattle.usb_file_data.proofs.RuleNumbers.{bounds, known, with_number}
use Rattle.usb_file_data.proofs.Walking.{stands_more, take_all, take_more}

-- a loop's next place
pub fold_next : {A B : Type 0} (f : B → A → B) (xs : List A) (i : ℕ) (x : A) (old new whole : B) → i < length xs → x ≡ get_or xs i x
    → fold f old (drop i xs) ≡ whole → new ≡ f old x → fold f new (drop (i + 1) xs) ≡ whole
fold_next f xs i x old new whole below is whole_is new_is =
    let here : drop i xs ≡ x ∷ drop (i + 1) xs = grind (arith, common_steps) in
    ap (λ b. fold f b (drop (i + 1) xs)) new_is ∙ sym (ap (fold f old) here) ∙ whole_is

-- where no element has the key, none is left
pub none_left : {A : Type 0} (here later : Bool) (x : A) (rest : List A) → (here || later) ≡ false → (later ≡ false → rest ≡ []) → (if here then x ∷ rest else rest) ≡ []
none_left true later x rest h none = grind arith
none_left false later x rest h none = none h

pub none_of : {A : Type 0} (key : A → ℕ) (n : ℕ) (xs : List A) → is_among (map key xs) n ≡ false → filter (λ x. key x == n) xs ≡ []
none_of key n [] h = refl
none_of key n (x ∷ xs) h = none_left (key x == n) (is_among (map key xs) n) x (filter (λ x. key x == n) xs) h (none_of key n xs)

-- ---- the ends of the rules

-- what comes after the end of a rule is of other rules
pub all_of : (found : List Finding) (ends : List ℕ) (r : Rule) (n : ℕ) → AreEnds found (length found) ends → n ≡ rule_number r
    → of_rule r (take (slice_index_or ends n 0) found) ≡ of_rule r found
all_of found ends r n are is =
    ap (λ m. of_rule r (take (slice_index_or ends m 0) found)) is
    ∙ are.all (rule_number r) (omega (arith, (bounds r).1))
    ∙ ap (of_rule r) (take_all found (length found) (omega arith))

-- those were copied, up to the end of the rule
pub copied : (first found out new : List Finding) (i : ℕ) (r : Rule) → new ++ of_rule r (drop i first) ≡ out ++ of_rule r first → length first ≤ i
    → of_rule r first ≡ of_rule r found → new ≡ out ++ of_rule r found
copied first found out new i r kept end same =
    let none : drop i first ≡ [] = grind (arith, common_steps) in
    sym (append-nil new) ∙ ap (λ xs. new ++ of_rule r xs) (sym none) ∙ kept ∙ ap (λ xs. out ++ xs) same

-- ---- as many

-- one finding more is one more of its rule
one_more : (r : Rule) (part : Part) (i j k : ℕ) (found : List Finding) → length (by_rule (finding r part i j k ∷ found)) ≡ suc (length (by_rule found))
one_more rules.V1 part i j k found = simp length-append (omega arith)
one_more rules.V2 part i j k found = simp length-append (omega arith)
one_more rules.V3 part i j k found = simp length-append (omega arith)
one_more rules.V4 part i j k found = simp length-append (omega arith)
one_more rules.V5 part i j k found = simp length-append (omega arith)
one_more rules.V6 part i j k found = simp length-append (omega arith)
one_more rules.V7 part i j k found = simp length-append (omega arith)
one_more rules.V8 part i j k found = simp length-append (omega arith)
one_more rules.V9 part i j k found = simp length-append (omega arith)
one_more rules.V10 part i j k found = simp length-append (omega arith)
one_more rules.V11 part i j k found = simp length-append (omega arith)
one_more rules.V12 part i j k found = simp length-append (omega arith)
one_more rules.V13 part i j k found = simp length-append (omega arith)

-- the number of a finding is that of a rule
abbrev pub HasRule : Finding → Type 0
HasRule f = is_some (rule_numbered f.rule) ≡ true

-- no finding of a rule is lost, and none comes twice
pub as_many : (found : List Finding) → AllByRecursion HasRule found → length (by_rule found) ≡ length found
as_many [] own = refl
as_many (x ∷ found) own =
    let r = with_number x.rule own.0 in
    ap (λ n. length (by_rule (record x { rule = n } ∷ found))) (sym r.1) ∙ one_more r.0 x.part x.set x.setting x.endpoint found ∙ ap suc (as_many found own.1)

-- ---- in order already

-- no finding is of a rule after this number
abbrev pub EndsAt : ℕ → List Finding → Type 0
EndsAt n found = (m : ℕ) → n < m → is_among (map (λ f. f.rule) found) m ≡ false

-- the findings of these rules, after others
abbrev of_rules : List Finding → List Finding → List Rule → List Finding
of_rules found = fold (λ out r. out ++ of_rule r found)

later : ℕ → List Rule → Bool
later n rs = list_all (λ r. nat_lt n (rule_number r)) rs

none_later : (n : ℕ) (found out : List Finding) (rs : List Rule) → EndsAt n found → later n rs ≡ true → of_rules found out rs ≡ out
unfolding later
none_later n found out [] ends h = refl
none_later n found out (r ∷ rs) ends h =
    let here : n < rule_number r = grind (arith, nat_tests) in
    let rest : later n rs ≡ true = grind (arith, nat_tests) in
    ap (λ xs. of_rules found (out ++ xs) rs) (none_of (λ f. f.rule) (rule_number r) found (ends (rule_number r) here))
    ∙ ap (λ xs. of_rules found xs rs) (append-nil out)
    ∙ none_later n found out rs ends rest

earlier : ℕ → List Rule → Bool
earlier n rs = list_all (λ r. not (n == rule_number r)) rs

not_its : (here : Bool) (xs : List Finding) (x : Finding) → not here ≡ true → xs ++ (if here then x ∷ [] else []) ≡ xs
not_its true xs x h = grind arith
not_its false xs x h = append-nil xs

same_earlier : (found out : List Finding) (x : Finding) (rs : List Rule) → earlier x.rule rs ≡ true → of_rules (found ++ x ∷ []) out rs ≡ of_rules found out rs
unfolding earlier
same_earlier found out x [] h = refl
same_earlier found out x (r ∷ rs) h =
    let here : not (x.rule == rule_number r) ≡ true = grind arith in
    let rest : earlier x.rule rs ≡ true = grind arith in
    ap (λ xs. of_rules (found ++ x ∷ []) (out ++ xs) rs) (filter-append _ found (x ∷ []) ∙ not_its (x.rule == rule_number r) (of_rule r found) x here)
    ∙ same_earlier found (out ++ of_rule r found) x rs rest

-- one finding after, of a rule between these
one_after : (before after : List Rule) (r : Rule) (x : Finding) (found : List Finding) → (x.rule == rule_number r) ≡ true → earlier x.rule before ≡ true → later x.rule after ≡ true
    → EndsAt x.rule found → EndsAt x.rule (found ++ x ∷ [])
    → of_rules (found ++ x ∷ []) (of_rules (found ++ x ∷ []) [] before ++ of_rule r (found ++ x ∷ [])) after ≡ of_rules found (of_rules found [] before ++ of_rule r found) after ++ x ∷ []
one_after before after r x found is e l old new =
    let front = of_rules found [] before in
    none_later x.rule (found ++ x ∷ []) _ after new l
    ∙ ap (λ xs. xs ++ of_rule r (found ++ x ∷ [])) (same_earlier found [] x before e)
    ∙ ap (λ ys. front ++ ys) (filter-append _ found (x ∷ []))
    ∙ ap (λ here. front ++ (of_rule r found ++ (if here then x ∷ [] else []))) is
    ∙ sym (append_assoc front (of_rule r found) (x ∷ []))
    ∙ ap (λ xs. xs ++ x ∷ []) (sym (none_later x.rule found (front ++ of_rule r found) after old l))

rule_after : (r : Rule) (part : Part) (i j k : ℕ) (found : List Finding) → EndsAt (rule_number r) found → EndsAt (rule_number r) (found ++ finding r part i j k ∷ [])
    → by_rule (found ++ finding r part i j k ∷ []) ≡ by_rule found ++ finding r part i j k ∷ []
unfolding earlier later
rule_after rules.V1 part i j k found = one_after [] (rules.V2 ∷ rules.V3 ∷ rules.V4 ∷ rules.V5 ∷ rules.V6 ∷ rules.V7 ∷ rules.V8 ∷ rules.V9 ∷ rules.V10 ∷ rules.V11 ∷ rules.V12 ∷ rules.V13 ∷ []) rules.V1 (finding rules.V1 part i j k) found refl refl refl
rule_after rules.V2 part i j k found = one_after (rules.V1 ∷ []) (rules.V3 ∷ rules.V4 ∷ rules.V5 ∷ rules.V6 ∷ rules.V7 ∷ rules.V8 ∷ rules.V9 ∷ rules.V10 ∷ rules.V11 ∷ rules.V12 ∷ rules.V13 ∷ []) rules.V2 (finding rules.V2 part i j k) found refl refl refl
rule_after rules.V3 part i j k found = one_after (rules.V1 ∷ rules.V2 ∷ []) (rules.V4 ∷ rules.V5 ∷ rules.V6 ∷ rules.V7 ∷ rules.V8 ∷ rules.V9 ∷ rules.V10 ∷ rules.V11 ∷ rules.V12 ∷ rules.V13 ∷ []) rules.V3 (finding rules.V3 part i j k) found refl refl refl
rule_after rules.V4 part i j k found = one_after (rules.V1 ∷ rules.V2 ∷ rules.V3 ∷ []) (rules.V5 ∷ rules.V6 ∷ rules.V7 ∷ rules.V8 ∷ rules.V9 ∷ rules.V10 ∷ rules.V11 ∷ rules.V12 ∷ rules.V13 ∷ []) rules.V4 (finding rules.V4 part i j k) found refl refl refl
rule_after rules.V5 part i j k found = one_after (rules.V1 ∷ rules.V2 ∷ rules.V3 ∷ rules.V4 ∷ []) (rules.V6 ∷ rules.V7 ∷ rules.V8 ∷ rules.V9 ∷ rules.V10 ∷ rules.V11 ∷ rules.V12 ∷ rules.V13 ∷ []) rules.V5 (finding rules.V5 part i j k) found refl refl refl
rule_after rules.V6 part i j k found = one_after (rules.V1 ∷ rules.V2 ∷ rules.V3 ∷ rules.V4 ∷ rules.V5 ∷ []) (rules.V7 ∷ rules.V8 ∷ rules.V9 ∷ rules.V10 ∷ rules.V11 ∷ rules.V12 ∷ rules.V13 ∷ []) rules.V6 (finding rules.V6 part i j k) found refl refl refl
rule_after rules.V7 part i j k found = one_after (rules.V1 ∷ rules.V2 ∷ rules.V3 ∷ rules.V4 ∷ rules.V5 ∷ rules.V6 ∷ []) (rules.V8 ∷ rules.V9 ∷ rules.V10 ∷ rules.V11 ∷ rules.V12 ∷ rules.V13 ∷ []) rules.V7 (finding rules.V7 part i j k) found refl refl refl
rule_after rules.V8 part i j k found = one_after (rules.V1 ∷ rules.V2 ∷ rules.V3 ∷ rules.V4 ∷ rules.V5 ∷ rules.V6 ∷ rules.V7 ∷ []) (rules.V9 ∷ rules.V10 ∷ rules.V11 ∷ rules.V12 ∷ rules.V13 ∷ []) rules.V8 (finding rules.V8 part i j k) found refl refl refl
rule_after rules.V9 part i j k found = one_after (rules.V1 ∷ rules.V2 ∷ rules.V3 ∷ rules.V4 ∷ rules.V5 ∷ rules.V6 ∷ rules.V7 ∷ rules.V8 ∷ []) (rules.V10 ∷ rules.V11 ∷ rules.V12 ∷ rules.V13 ∷ []) rules.V9 (finding rules.V9 part i j k) found refl refl refl
rule_after rules.V10 part i j k found = one_after (rules.V1 ∷ rules.V2 ∷ rules.V3 ∷ rules.V4 ∷ rules.V5 ∷ rules.V6 ∷ rules.V7 ∷ rules.V8 ∷ rules.V9 ∷ []) (rules.V11 ∷ rules.V12 ∷ rules.V13 ∷ []) rules.V10 (finding rules.V10 part i j k) found refl refl refl
rule_after rules.V11 part i j k found = one_after (rules.V1 ∷ rules.V2 ∷ rules.V3 ∷ rules.V4 ∷ rules.V5 ∷ rules.V6 ∷ rules.V7 ∷ rules.V8 ∷ rules.V9 ∷ rules.V10 ∷ []) (rules.V12 ∷ rules.V13 ∷ []) rules.V11 (finding rules.V11 part i j k) found refl refl refl
rule_after rules.V12 part i j k found = one_after (rules.V1 ∷ rules.V2 ∷ rules.V3 ∷ rules.V4 ∷ rules.V5 ∷ rules.V6 ∷ rules.V7 ∷ rules.V8 ∷ rules.V9 ∷ rules.V10 ∷ rules.V11 ∷ []) (rules.V13 ∷ []) rules.V12 (finding rules.V12 part i j k) found refl refl refl
rule_after rules.V13 part i j k found = one_after (rules.V1 ∷ rules.V2 ∷ rules.V3 ∷ rules.V4 ∷ rules.V5 ∷ rules.V6 ∷ rules.V7 ∷ rules.V8 ∷ rules.V9 ∷ rules.V10 ∷ rules.V11 ∷ rules.V12 ∷ []) [] rules.V13 (finding rules.V13 part i j k) found refl refl refl

-- the same by the number of a rule
number_after : (n : ℕ) (x : Finding) (found : List Finding) → 1 ≤ n → n ≤ 13 → n ≡ x.rule → EndsAt n found → EndsAt n (found ++ x ∷ []) → by_rule (found ++ x ∷ []) ≡ by_rule found ++ x ∷ []
number_after n x found low high is old new =
    let r = with_number n ((known n).1 (low, high)) in
    let one = r.1 ∙ is in
    subst (λ m. EndsAt m found → EndsAt m (found ++ record x { rule = m } ∷ []) → by_rule (found ++ record x { rule = m } ∷ []) ≡ by_rule found ++ record x { rule = m } ∷ []) one
    (rule_after r.0 x.part x.set x.setting x.endpoint found)
    (subst (λ m. EndsAt m found) is old) (subst (λ m. EndsAt m (found ++ x ∷ [])) is new)

above : (marks : ℕ → Bool) (n m : ℕ) → n < m → marks m ≡ false → marked marks n m ≡ false
unfolding marked
above marks n m h none = grind (arith, nat_tests)

-- one finding more, of no earlier rule: k is its number
pub ends_next : (xs : List Finding) (i n k : ℕ) (x : Finding) → i < length xs → k ≡ (get_or xs i x).rule → n ≤ k → EndsAt n (take i xs) → EndsAt k (take (i + 1) xs)
ends_next xs i n k x below is up ends m h =
    ap (λ marks. marks m) (stands_more (λ f. f.rule) xs i (get_or xs i x) below (get_or_default xs i _ _ below))
    ∙ ap (λ l. marked (is_among (map (λ f. f.rule) (take i xs))) l m) (sym is)
    ∙ above (is_among (map (λ f. f.rule) (take i xs))) k m h (ends m (omega (arith, up, h)))

pub in_order_next : (xs : List Finding) (i n k : ℕ) (x : Finding) → i < length xs → k ≡ (get_or xs i x).rule → 1 ≤ n → n ≤ k → k ≤ 13 → EndsAt n (take i xs)
    → by_rule (take i xs) ≡ take i xs → by_rule (take (i + 1) xs) ≡ take (i + 1) xs
in_order_next xs i n k x below is some up last ends same =
    let f = get_or xs i x in
    let more = take_more xs i f below (get_or_default xs i _ _ below) in
    let new = ends_next xs i n k x below is up ends in
    ap by_rule more
    ∙ number_after k f (take i xs) (omega (arith, some, up)) last is (λ m h. ends m (omega (arith, up, h)))
    (λ m h. ap (λ ys. is_among (map (λ g. g.rule) ys) m) (sym more) ∙ new m h)
    ∙ ap (λ ys. ys ++ f ∷ []) same ∙ sym more

-- ---- where nothing is found

no_left : {A : Type 0} (xs ys : List A) → xs ++ ys ≡ [] → xs ≡ []
no_left [] ys none = refl
no_left (x ∷ xs) ys none = cc

no_right : {A : Type 0} (xs ys : List A) → xs ++ ys ≡ [] → ys ≡ []
no_right [] ys none = none
no_right (x ∷ xs) ys none = cc

-- the findings of a rule, without their causes: at a descriptor, and at those from a number on
abbrev of_broken : Rule → List Broken → List Finding
of_broken r broken = of_rule r (map (λ b. b.finding) broken)

abbrev of_found : Rule → ℕ → List (List Broken) → List Finding
of_found r n broken = of_rule r (map (λ f. f.finding) (found_from n broken))

-- where no finding is of a rule, none in a part of the list is
none_in_two : (r : Rule) (a b : List Broken) → of_broken r (a ++ b) ≡ [] → (of_broken r a ≡ []) × (of_broken r b ≡ [])
none_in_two r a b none =
    let both = sym (ap (of_rule r) (map-append (λ b. b.finding) a b) ∙ filter-append _ (map (λ b. b.finding) a) (map (λ b. b.finding) b)) ∙ none in
    (no_left (of_broken r a) (of_broken r b) both, no_right (of_broken r a) (of_broken r b) both)

none_in_four : (r : Rule) (a b c d : List Broken) → of_broken r (a ++ b ++ c ++ d) ≡ [] → (of_broken r a ≡ []) × (of_broken r b ≡ []) × (of_broken r c ≡ []) × (of_broken r d ≡ [])
none_in_four r a b c d none =
    let last = none_in_two r (a ++ b ++ c) d none in
    let third = none_in_two r (a ++ b) c last.0 in
    let first = none_in_two r a b third.0 in
    (first.0, first.1, third.1, last.1)

-- none is at the first descriptor, and none at those after it
none_on : (r : Rule) (n : ℕ) (here : List Broken) (later : List (List Broken)) → of_found r n (here ∷ later) ≡ [] → (of_broken r here ≡ []) × (of_found r (n + 1) later ≡ [])
none_on r n here later none =
    let both = sym (ap (of_rule r) (findings_on n here later) ∙ filter-append _ (map (λ b. b.finding) here) (map (λ f. f.finding) (found_from (n + 1) later))) ∙ none in
    (no_left (of_broken r here) (of_found r (n + 1) later) both, no_right (of_broken r here) (of_found r (n + 1) later) both)

none_before : (r : Rule) (n : ℕ) (xs ys : List (List Broken)) → of_found r n (xs ++ ys) ≡ [] → of_found r n xs ≡ []
none_before r n [] ys none = refl
none_before r n (x ∷ xs) ys none =
    let both = none_on r n x (xs ++ ys) none in
    ap (of_rule r) (findings_on n x xs) ∙ filter-append _ (map (λ b. b.finding) x) (map (λ f. f.finding) (found_from (n + 1) xs))
    ∙ ap (λ l. l ++ of_found r (n + 1) xs) both.0 ∙ none_before r (n + 1) xs ys both.1

not_when : (r : Rule) (cause : Cause) (part : Part) (holds : Bool) → of_broken r (when holds (broken_by cause part 0 0 0)) ≡ [] → length (of_broken r (broken_by cause part 0 0 0 ∷ [])) ≡ 1 → holds ≡ false
not_when r cause part true none one = cc
not_when r cause part false none one = refl

none_at_device : (r : Rule) (f : DescriptorFile) → of_found r 0 (file_in_order false f) ≡ []
    → (of_broken r (without_sets parts.Main f.sets) ≡ []) × (of_broken r (at_device false f.device) ≡ [])
none_at_device r f none =
    none_in_two r (without_sets parts.Main f.sets) (at_device false f.device)
    (none_on r 0 (without_sets parts.Main f.sets ++ at_device false f.device) (part_in_order parts.Main f.sets ++ other_in_order f.other) none).0

none_in_sets : (r : Rule) (f : DescriptorFile) → of_found r 0 (file_in_order false f) ≡ [] → of_found r 1 (part_in_order parts.Main f.sets) ≡ []
none_in_sets r f none =
    none_before r 1 (part_in_order parts.Main f.sets) (other_in_order f.other)
    (none_on r 0 (without_sets parts.Main f.sets ++ at_device false f.device) (part_in_order parts.Main f.sets ++ other_in_order f.other) none).1

-- a file that breaks no rule has a right device descriptor
pub device_right : (f : DescriptorFile) → findings f ≡ [] → wrong_device f.device ≡ false
device_right f none =
    let all = none_at_device rules.V11 f (no_right _ _ (no_left _ _ (no_left _ _ none))) in
    not_when rules.V11 (device_cause false f.device) parts.Device (wrong_device f.device) all.1 refl

-- there is a first set, and SET_CONFIGURATION can select it
abbrev pub FirstIsRight : List Configuration → Type 0
FirstIsRight [] = ⊥
FirstIsRight (c ∷ cs) = wrong_value [] c ≡ false

-- V10 of a set, whatever is wrong with its value
not_value : (is_zero holds : Bool) → of_broken rules.V10 (when holds (broken_by (if is_zero then causes.ZeroValue else causes.RepeatedValue) parts.Main 0 0 0)) ≡ [] → holds ≡ false
not_value true holds none = not_when rules.V10 causes.ZeroValue parts.Main holds none refl
not_value false holds none = not_when rules.V10 causes.RepeatedValue parts.Main holds none refl

first_of : (sets : List Configuration) → of_broken rules.V10 (without_sets parts.Main sets) ≡ [] → of_found rules.V10 1 (part_in_order parts.Main sets) ≡ [] → FirstIsRight sets
first_of [] none here = cc
first_of (c ∷ cs) none here =
    let settings = at_each_counted setting_associations (setting_in_order parts.Main 0 c.settings) 0 (association_count c.extras) c.settings in
    let later = at_each (λ i d. set_in_order parts.Main (take i (c ∷ cs)) i d) 1 cs in
    let set = none_on rules.V10 1 (at_configuration parts.Main [] 0 c) ((extras_in_order parts.Main 0 c.settings 0 c.extras ++ settings) ++ later) here in
    let value = none_in_four rules.V10 (when (wrong_interface_count c) (broken_by (causes.InterfaceCount c.declared_interfaces (length (interface_numbers c.settings))) parts.Main 0 0 0))
    (when (has_number_gap c) (broken_by causes.NumberGap parts.Main 0 0 0)) (when (wrong_attributes c) (broken_by (attributes_cause c.attributes) parts.Main 0 0 0))
    (when (wrong_value [] c) (broken_by (value_cause c.value) parts.Main 0 0 0)) set.0 in
    not_value (c.value == 0) (wrong_value [] c) value.3

-- so has a file that breaks no rule
pub first_right : (f : DescriptorFile) → findings f ≡ [] → FirstIsRight f.sets
first_right f none =
    let all = no_right _ _ (no_left _ _ (no_left _ _ (no_left _ _ none))) in
    first_of f.sets (none_at_device rules.V10 f all).0 (none_in_sets rules.V10 f all)
