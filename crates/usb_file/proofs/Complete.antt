-- What bytes are, part by part.
use Rattle.std.proofs.Common.{◌≡◌, ℕ, zero, suc, cond, ltb, take, drop, ◌+◌, ◌*◌, ◌%◌, ◌<◌, ◌≤◌, inl, inr, true, false, not, ◌||◌, ◌==◌, List, [], ◌∷◌, ◌++◌, length, Option, Some, None, refl, ap, sym, subst, ◌∙◌, arith, append_assoc, length-append}
use Rattle.std.specs.Prelude.{is_some, slice_index}
use Rattle.std.proofs.lemmas.List.{append-nil, take-append-drop, length-take}
use Rattle.std.proofs.lemmas.Bool.{ltb-false, le-ltb, lt-ltb, ne_eqb, eq-eqb, eqb-true, not-false, not_from_true, or_parts, or_from, cond-true, cond-false, cases_Bool, cases_lt, cases_eq}
use Rattle.usb_fields.specs.declared.device.DeviceDescriptor.{DeviceDescriptor}
use Rattle.usb_fields.specs.declared.fault.FieldFault.{FieldFault}
use Rattle.usb_fields.specs.Device.{device_bytes, device_fault, qualifier_bytes, qualifier_fault}
use Rattle.usb_fields.specs.Units.{units_bytes, unit_fault}
use Rattle.usb_set.specs.declared.tree.SetKind.{SetKind}
use Rattle.usb_set.specs.Faults as sets
use Rattle.usb_file_data.specs.declared.file.DescriptorFile.{DescriptorFile}
use Rattle.usb_file_data.specs.declared.file.Other.{Other}
use Rattle.usb_file_data.specs.declared.file.Strings.{Strings}
use Rattle.usb_file_data.specs.declared.fault.FileWhy.{FileWhy}
use Rattle.usb_file_data.specs.declared.fault.FileWhy.TheVariants as files
use Rattle.usb_file_data.specs.File.{named_indices, File, file_bytes, is_other_kind, are_wrong_strings}
use Rattle.usb_fields.specs.Bytes.{AreBytes}
use Rattle.usb_file_data.proofs.Lists.{bytes_behind}
use Rattle.usb_file.specs.inside.Reading.{PartLaws, next_string, next_part}
use Rattle.usb_file_data.proofs.Fronts.{Grown, string_with, grow_main, grow_other, grow_qualifier, grow_languages, grow_string}
use Rattle.usb_file.proofs.Due.{due_main, due_other, due_qualifier, due_strings}
use Rattle.usb_file_data.proofs.Units.{length-units_bytes}
use Rattle.usb_file_data.proofs.Counts.{all_sets, all_strings}
use Rattle.usb_file.proofs.Next.{follows, is_next, next_end, next_is}
use Rattle.usb_file.proofs.Ends as ends
use Rattle.usb_file.proofs.Unique.{PartIs, IsText, reported_same, part_faults}
use Rattle.usb_file.proofs.Paths.{two_fronts, stuck_by_fault, stuck_at_end, device_first, behind, begun}
use Rattle.usb_file_data.specs.Front.{StringsFollow, IsInOrder, IsFront, Splits, AllSets, with_set, with_qualifier}
use Rattle.usb_file_data.specs.FileFaults.{NextPart, a_set, a_qualifier, the_languages, a_string, the_end, begins_qualifier, is_no_string, string_fault, fixed_fault, EndIsNext, IsNext, PartFaulty, FaultyPart, FileFaulty, FileOrFault, is_file, is_faulty}
use Rattle.usb_fields.proofs.ByteParts.{bytes_front}

-- ---- the next part makes a prefix of a prefix

grow_none : (f g : DescriptorFile) (r p : List ℕ) → IsFront f → AllSets f f.other → f.strings ≡ None → next_part f r ≡ next_string (length (named_indices f)) None → PartIs (next_part f r) f g p → Grown f g p
grow_none f g r p front all none turn is =
    elim (cases_eq (length (named_indices f)) 0) [
      | inl e ↦
          let ended : next_part f r ≡ the_end = turn ∙ cond-true (length (named_indices f) == 0) _ _ (eq-eqb _ 0 e) in
          absurd (subst (λ d. PartIs d f g p) ended is)
      | inr n ↦
          let turned : next_part f r ≡ the_languages = turn ∙ cond-false (length (named_indices f) == 0) _ _ (ne_eqb _ 0 n) in
          let x = subst (λ d. PartIs d f g p) turned is in
          let enough = x.enough in
          subst (λ p. Grown f g p) (sym x.bytes) (subst (λ g. Grown f g (units_bytes x.units)) (sym x.next)
          (grow_languages f x.units front all none (omega arith) (omega arith) x.short))
    ]

grow_some : (f g : DescriptorFile) (r p : List ℕ) (s : Strings) → IsFront f → AllSets f f.other → f.strings ≡ Some s → StringsFollow (length (named_indices f)) s
    → next_part f r ≡ next_string (length (named_indices f)) (Some s) → PartIs (next_part f r) f g p → Grown f g p
grow_some f g r p s front all some follow turn is =
    elim (cases_lt (length s.texts) (length s.languages * length (named_indices f))) [
      | inl below ↦
          let turned : next_part f r ≡ a_string = turn ∙ cond-true (ltb (length s.texts) (length s.languages * length (named_indices f))) _ _ (lt-ltb _ _ below) in
          let x = subst (λ d. PartIs d f g p) turned is in
          let next : g ≡ record f { strings = Some (record s { texts = s.texts ++ x.units ∷ [] }) } = x.next ∙ ap (λ o. record f { strings = string_with x.units o }) some in
          subst (λ p. Grown f g p) (sym x.bytes) (subst (λ g. Grown f g (units_bytes x.units)) (sym next)
          (grow_string f s x.units front all some follow below x.short))
      | inr above ↦
          let ended : next_part f r ≡ the_end = turn ∙ cond-false (ltb (length s.texts) (length s.languages * length (named_indices f))) _ _ (le-ltb _ _ above) in
          absurd (subst (λ d. PartIs d f g p) ended is)
    ]

pub grows : (f g : DescriptorFile) (r p : List ℕ) → IsFront f → PartIs (next_part f r) f g p → Grown f g p
grows f g r p front is = cases f.other f.strings refl refl front.order
  where
    main_set : f.other ≡ None → f.strings ≡ None → length f.sets < f.device.configurations → Grown f g p
    main_set eo es below =
        let x = subst (λ d. PartIs d f g p) (due_main f r below) is in
        subst (λ g. Grown f g p) (sym x.next) (grow_main f x.set p front eo es below x.layout x.kind_is)

    qualifier : f.other ≡ None → f.strings ≡ None → length f.sets ≡ f.device.configurations → begins_qualifier r ≡ true → Grown f g p
    qualifier eo es full begins =
        let x = subst (λ d. PartIs d f g p) (due_qualifier f r full eo es begins) is in
        subst (λ p. Grown f g p) (sym x.bytes) (subst (λ g. Grown f g (qualifier_bytes x.qualifier)) (sym x.next) (grow_qualifier f x.qualifier front full eo es))

    other_set : (o : Other) → f.other ≡ Some o → f.strings ≡ None → length f.sets ≡ f.device.configurations → length o.sets < o.qualifier.configurations → Grown f g p
    other_set o eo es full below =
        let x = subst (λ d. PartIs d f g p) (due_other f r o full eo below) is in
        subst (λ g. Grown f g p) (sym x.next) (grow_other f o x.set p front full eo es below x.layout x.kind_is)

    strings : (o : Option Other) (s : Option Strings) → f.other ≡ o → f.strings ≡ s → AllSets f o → IsInOrder f o s → (o ≡ None → s ≡ None → begins_qualifier r ≡ false) → Grown f g p
    strings o s eo es all order unless =
        let all_of : AllSets f f.other = subst (AllSets f) (sym eo) all in
        let turn : next_part f r ≡ next_string (length (named_indices f)) f.strings = due_strings f r all_of (λ x y. unless (sym eo ∙ x) (sym es ∙ y)) in
        by s es (follows f o s order) all_of turn
      where
        by : (s : Option Strings) → f.strings ≡ s → ((t : Strings) → s ≡ Some t → StringsFollow (length (named_indices f)) t) → AllSets f f.other
            → next_part f r ≡ next_string (length (named_indices f)) f.strings → Grown f g p
        by None es follow all turn = grow_none f g r p front all es (turn ∙ ap (next_string (length (named_indices f))) es) is
        by (Some s) es follow all turn = grow_some f g r p s front all es (follow s refl) (turn ∙ ap (next_string (length (named_indices f))) es) is

    cases : (o : Option Other) (s : Option Strings) → f.other ≡ o → f.strings ≡ s → IsInOrder f o s → Grown f g p
    cases None None eo es order =
        elim (cases_lt (length f.sets) f.device.configurations) [
          | inl below ↦ main_set eo es below
          | inr above ↦
              let full : length f.sets ≡ f.device.configurations = omega (arith, order) in
              elim (cases_Bool (begins_qualifier r)) [
                | inl yes_begins ↦ qualifier eo es full yes_begins
                | inr no_begins ↦ strings None None eo es full order (λ _ _. no_begins)
              ]
        ]
    cases None (Some s) eo es order = strings None (Some s) eo es order.0 order (λ _ e. cc)
    cases (Some o) None eo es order =
        elim (cases_lt (length o.sets) o.qualifier.configurations) [
          | inl below ↦ other_set o eo es order.0 below
          | inr above ↦ strings (Some o) None eo es (order.0, omega (arith, order.1)) order (λ e _. cc)
        ]
    cases (Some o) (Some s) eo es order = strings (Some o) (Some s) eo es (order.0, order.1) order (λ e _. cc)

-- ---- what comes next is a part, a fault or the end

pub data PartOrFault (d : NextPart) (f : DescriptorFile) (r : List ℕ) : Type 0 where
  is_part : (g : DescriptorFile) (p t : List ℕ) → PartIs d f g p → r ≡ p ++ t → 0 < length p → PartOrFault d f r
  is_fault : (place : ℕ) (why : FileWhy) → PartFaulty d r place why → PartOrFault d f r
  is_end : d ≡ the_end → r ≡ [] → PartOrFault d f r

set_or_fault : (kind : SetKind) (f : DescriptorFile) (r : List ℕ) → sets.Judgement r → PartOrFault (a_set kind) f r
set_or_fault kind f r (sets.is_set c n begins) =
    elim (cases_Bool (is_other_kind kind c)) [
      | inl other ↦ is_fault 1 files.SetKind (c, n, begins, other, refl)
      | inr same ↦ is_part (with_set kind c f) begins.front begins.rest (record { set = c; layout = begins.layout; kind_is = same; next = refl }) begins.parts
          (omega (arith, ap length begins.layout.bytes))
    ]
set_or_fault kind f r (sets.is_faulty place why h) = is_fault place (files.Set why) h
set_or_fault kind f r (sets.is_open h) = is_fault (length r) files.Truncated (h, refl)

qualifier_or_fault : (laws : PartLaws) (f : DescriptorFile) (r : List ℕ) → AreBytes r → PartOrFault a_qualifier f r
qualifier_or_fault laws f r fits =
    elim (cases_lt (length r) 10) [
      | inl short ↦ is_fault (length r) files.Truncated (cond-true (ltb (length r) 10) _ _ (lt-ltb _ 10 short))
      | inr long ↦ cases (qualifier_fault (take 10 r)) refl (cond-false (ltb (length r) 10) _ _ (le-ltb _ 10 long))
    ]
  where
    cases : (o : Option FieldFault) → qualifier_fault (take 10 r) ≡ o
        → fixed_fault 10 (is_some (qualifier_fault (take 10 r))) files.Qualifier r ≡ cond (is_some (qualifier_fault (take 10 r))) (Some (0, files.Qualifier)) None → PartOrFault a_qualifier f r
    cases (Some e) is long = is_fault 0 files.Qualifier (long ∙ cond-true (is_some (qualifier_fault (take 10 r))) _ _ (ap is_some is))
    cases None is long =
        let q = laws.qualifier_written (take 10 r) (bytes_front 10 r fits) is in
        is_part (with_qualifier q.0 f) (take 10 r) (drop 10 r) (record { qualifier = q.0; bytes = sym q.1; next = refl }) (sym (take-append-drop 10 r)) (omega (arith, ap length q.1))

units_none : (m kind : ℕ) (rest : List ℕ) → m ≤ length rest → kind ≡ 3 → (suc (suc m) % 2 == 1) ≡ false → unit_fault (take (suc (suc m)) (suc (suc m) ∷ kind ∷ rest)) ≡ None
units_none m kind rest long is_text even =
    let n : length (take m rest) ≡ m = omega (arith, length-take m rest) in
    let size : not (suc (suc m) == suc (suc (length (take m rest)))) ≡ false = not_from_true (suc (suc m) == suc (suc (length (take m rest)))) (eq-eqb _ _ (omega arith)) in
    cond-false (ltb (suc (suc (length (take m rest)))) 2 || not (suc (suc m) == suc (suc (length (take m rest))))) _ _ (or_from _ _ (le-ltb _ 2 (omega arith)) size)
    ∙ cond-false (not (kind == 3)) _ _ (not_from_true (kind == 3) (eq-eqb kind 3 is_text))
    ∙ cond-false (suc (suc m) % 2 == 1) _ _ even

string_or_fault : (laws : PartLaws) (d : NextPart) (least : ℕ) (f : DescriptorFile) (r : List ℕ) (next_of : List ℕ → DescriptorFile) → 2 ≤ least → AreBytes r
    → ((g : DescriptorFile) (p : List ℕ) → IsText least f g p next_of → PartIs d f g p)
    → ((place : ℕ) (why : FileWhy) → string_fault least r ≡ Some (place, why) → PartFaulty d r place why) → PartOrFault d f r
string_or_fault laws d least f r next_of two fits part fault =
    elim (cases_Bool (is_no_string least r)) [
      | inl wrong ↦ is_fault 0 files.Text (fault 0 files.Text (cond-true (is_no_string least r) _ _ wrong))
      | inr right ↦
          elim (cases_Bool (ltb (length r) 2 || ltb (length r) (slice_index r 0))) [
            | inl short ↦ is_fault (length r) files.Truncated (fault (length r) files.Truncated
                (cond-false (is_no_string least r) _ _ right ∙ cond-true (ltb (length r) 2 || ltb (length r) (slice_index r 0)) _ _ short))
            | inr long ↦
                let both = or_parts (ltb (length r) 2) (ltb (length r) (slice_index r 0)) long in
                whole r right (ltb-false (length r) 2 both.0) (ltb-false (length r) (slice_index r 0) both.1) fits
          ]
    ]
  where
    whole : (r : List ℕ) → is_no_string least r ≡ false → 2 ≤ length r → slice_index r 0 ≤ length r → AreBytes r → PartOrFault d f r
    whole [] right there long fits = absurd (omega arith)
    whole (len ∷ []) right there long fits = absurd (omega arith)
    whole (zero ∷ kind ∷ rest) right there long fits =
        let enough : least ≤ 0 = ltb-false 0 least (or_parts _ _ (or_parts _ _ right).0).0 in
        absurd (omega arith)
    whole (suc zero ∷ kind ∷ rest) right there long fits =
        let enough : least ≤ 1 = ltb-false 1 least (or_parts _ _ (or_parts _ _ right).0).0 in
        absurd (omega arith)
    whole (suc (suc m) ∷ kind ∷ rest) right there long fits =
        let tests = or_parts (ltb (suc (suc m)) least || (suc (suc m) % 2 == 1)) (not (kind == 3)) right in
        let lengths = or_parts (ltb (suc (suc m)) least) (suc (suc m) % 2 == 1) tests.0 in
        let r : List ℕ = suc (suc m) ∷ kind ∷ rest in
        let none = units_none m kind rest (omega arith) (eqb-true kind 3 (not-false (kind == 3) tests.1)) lengths.1 in
        let u = laws.units_written (take (suc (suc m)) r) (bytes_front (suc (suc m)) r fits) none in
        let size : 2 + 2 * length u.0 ≡ suc (suc m) = omega (arith, length-units_bytes u.0, ap length u.2, length-take m rest) in
        let enough = ltb-false (suc (suc m)) least lengths.0 in
        is_part (next_of u.0) (take (suc (suc m)) r) (drop (suc (suc m)) r)
        (part (next_of u.0) (take (suc (suc m)) r) (record { units = u.0; bytes = sym u.2; enough = omega arith; short = le-ltb 126 (length u.0) u.1; next = refl }))
        (sym (take-append-drop (suc (suc m)) r)) (omega arith)

end_or_fault : (f : DescriptorFile) (r : List ℕ) → PartOrFault the_end f r
end_or_fault f [] = is_end refl refl
end_or_fault f (x ∷ r) = is_fault 0 files.Trailing (refl, refl)

pub part_or_fault : (laws : PartLaws) (d : NextPart) (f : DescriptorFile) (r : List ℕ) → AreBytes r → PartOrFault d f r
part_or_fault laws (a_set kind) f r fits = set_or_fault kind f r (laws.some r fits)
part_or_fault laws a_qualifier f r fits = qualifier_or_fault laws f r fits
part_or_fault laws the_languages f r fits = string_or_fault laws the_languages 4 f r _ (omega arith) fits (λ g p x. x) (λ place why x. x)
part_or_fault laws a_string f r fits = string_or_fault laws a_string 2 f r _ (omega arith) fits (λ g p x. x) (λ place why x. x)
part_or_fault laws the_end f r fits = end_or_fault f r

-- ---- all bytes are a file or show a fault

splits_more : (b : List ℕ) (f g : DescriptorFile) (r p t : List ℕ) → Splits b f r → Grown f g p → r ≡ p ++ t → Splits b g t
splits_more b f g r p t splits grown e = record {
  is_front = grown.is_front;
  parts = splits.parts ∙ ap (λ x. file_bytes f ++ x) e ∙ sym (append_assoc (file_bytes f) p t) ∙ ap (λ x. x ++ t) (sym grown.bytes);
}

faulty_front : (b : List ℕ) (f : DescriptorFile) (r : List ℕ) (place : ℕ) (why : FileWhy) → Splits b f r → PartFaulty (next_part f r) r place why → FileOrFault b
faulty_front b f r place why splits h =
    is_faulty (length (file_bytes f) + place) why
    (inr (record { front = f; rest = r; splits = splits; part = next_part f r; next = is_next f r splits.is_front; place = place; fault = h; at_is = refl }))

whole_front : (b : List ℕ) (f : DescriptorFile) (r : List ℕ) → AreBytes b → Splits b f r → next_part f r ≡ the_end → r ≡ [] → FileOrFault b
whole_front b f r fits splits e none =
    let next : EndIsNext f r = subst (λ d. IsNext d f r) e (is_next f r splits.is_front) in
    is_file f (ends.is_file f b (subst (EndIsNext f) none next) splits.is_front (subst (λ r. b ≡ file_bytes f ++ r) none splits.parts) fits)

from_front : (laws : PartLaws) (n : ℕ) (b : List ℕ) (f : DescriptorFile) (r : List ℕ) → length r ≤ n → AreBytes b → Splits b f r → FileOrFault b
from_front laws zero b f r le fits splits =
    elim (part_or_fault laws (next_part f r) f r (bytes_behind (file_bytes f) r (subst AreBytes splits.parts fits))) [
      | is_part g p t x e some ↦ absurd (omega (arith, ap length e, length-append p t))
      | is_fault place why h ↦ faulty_front b f r place why splits h
      | is_end e none ↦ whole_front b f r fits splits e none
    ]
from_front laws (suc n) b f r le fits splits =
    elim (part_or_fault laws (next_part f r) f r (bytes_behind (file_bytes f) r (subst AreBytes splits.parts fits))) [
      | is_part g p t x e some ↦
          from_front laws n b g t (omega (arith, ap length e, length-append p t)) fits (splits_more b f g r p t splits (grows f g r p splits.is_front x) e)
      | is_fault place why h ↦ faulty_front b f r place why splits h
      | is_end e none ↦ whole_front b f r fits splits e none
    ]

begun_splits : (b : List ℕ) (d : DeviceDescriptor) → device_bytes d ≡ take 18 b → Splits b (begun d) (drop 18 b)
begun_splits b d h = record {
  is_front = record { kinds = refl; layouts = refl; order = omega arith };
  parts = sym (take-append-drop 18 b) ∙ ap (λ x. x ++ drop 18 b) (sym h);
}

pub file_or_fault : (laws : PartLaws) (b : List ℕ) → AreBytes b → FileOrFault b
file_or_fault laws b fits =
    elim (cases_lt (length b) 18) [
      | inl short ↦ is_faulty (length b) files.Truncated (inl (cond-true (ltb (length b) 18) _ _ (lt-ltb _ 18 short)))
      | inr long ↦ cases (device_fault (take 18 b)) refl (cond-false (ltb (length b) 18) _ _ (le-ltb _ 18 long))
    ]
  where
    cases : (o : Option FieldFault) → device_fault (take 18 b) ≡ o
        → fixed_fault 18 (is_some (device_fault (take 18 b))) files.Device b ≡ cond (is_some (device_fault (take 18 b))) (Some (0, files.Device)) None → FileOrFault b
    cases (Some e) is long = is_faulty 0 files.Device (inl (long ∙ cond-true (is_some (device_fault (take 18 b))) _ _ (ap is_some is)))
    cases None is long =
        let d = laws.device_written (take 18 b) (bytes_front 18 b fits) is in
        from_front laws (length (drop 18 b)) b (begun d.0) (drop 18 b) (omega arith) fits (begun_splits b d.0 d.1)

-- ---- a file is a prefix after which the end comes next

order_of : (f : DescriptorFile) (o : Option Other) (s : Option Strings) → AllSets f o → are_wrong_strings (length (named_indices f)) s ≡ false → IsInOrder f o s
order_of f None None all h = omega (arith, all)
order_of f None (Some s) all h = (all, (all_strings (length (named_indices f)) s h).follow)
order_of f (Some o) None all h = (all.0, omega (arith, all.1))
order_of f (Some o) (Some s) all h = (all.0, all.1, (all_strings (length (named_indices f)) s h).follow)

pub file_splits : (f : DescriptorFile) (b : List ℕ) → File f b → Splits b f []
file_splits f b h = record {
  is_front = record { kinds = h.kinds; layouts = h.layouts; order = order_of f f.other f.strings (all_sets f h.counts) h.texts };
  parts = h.bytes ∙ sym (append-nil (file_bytes f));
}

pub file_ends : (f : DescriptorFile) (b : List ℕ) → File f b → next_part f [] ≡ the_end
file_ends f b h = due_strings f [] (all_sets f h.counts) (λ _ _. refl) ∙ next_end (length (named_indices f)) f.strings h.texts

-- ---- one file, one fault, and not both

pub one_file : (laws : PartLaws) (b : List ℕ) (f g : DescriptorFile) → File f b → File g b → f ≡ g
one_file laws b f g x y =
    (two_fronts laws b f g [] [] x.fits (file_splits f b x) (file_splits g b y) (stuck_at_end f [] (file_ends f b x)) (stuck_at_end g [] (file_ends g b y))).0

device_fine : (d : DeviceDescriptor) (r : List ℕ) → fixed_fault 18 (is_some (device_fault (take 18 (device_bytes d ++ r)))) files.Device (device_bytes d ++ r) ≡ None
device_fine d r = cond-false (ltb (length (device_bytes d ++ r)) 18) _ _ (le-ltb _ 18 (omega arith))

-- the device descriptor of a prefix is one
pub no_device_fault : (b : List ℕ) (f : DescriptorFile) (r : List ℕ) (at : ℕ) (why : FileWhy) → Splits b f r → fixed_fault 18 (is_some (device_fault (take 18 b))) files.Device b ≡ Some (at, why) → ⊥
no_device_fault b f r at why splits h =
    let is : b ≡ device_bytes f.device ++ behind f r = splits.parts ∙ device_first f r in
    let none : Option (ℕ × FileWhy) = None in
    let fine : fixed_fault 18 (is_some (device_fault (take 18 b))) files.Device b ≡ none =
    ap (λ x. fixed_fault 18 (is_some (device_fault (take 18 x))) files.Device x) is ∙ device_fine f.device (behind f r) in
    let no : none ≡ Some (at, why) = sym fine ∙ h in
    cc

-- the part that is at fault is the one that comes next
pub fault_of : (b : List ℕ) (at : ℕ) (why : FileWhy) (y : FaultyPart b at why) → PartFaulty (next_part y.front y.rest) y.rest y.place why
fault_of b at why y = subst (λ d. PartFaulty d y.rest y.place why) (sym (next_is y.part y.front y.rest y.splits.is_front y.next)) y.fault

pub not_both : (laws : PartLaws) (b : List ℕ) (f : DescriptorFile) (at : ℕ) (why : FileWhy) → File f b → FileFaulty b at why → ⊥
not_both laws b f at why x (inl h) = no_device_fault b f [] at why (file_splits f b x) h
not_both laws b f at why x (inr y) =
    let same = two_fronts laws b f y.front [] y.rest x.fits (file_splits f b x) y.splits (stuck_at_end f [] (file_ends f b x)) (stuck_by_fault laws y.front y.rest y.place why (fault_of b at why y)) in
    let fault = subst (λ g. PartFaulty (next_part g []) [] y.place why) (sym same.0) (subst (λ r. PartFaulty (next_part y.front r) r y.place why) (sym same.1) (fault_of b at why y)) in
    subst (λ d. PartFaulty d [] y.place why) (file_ends f b x) fault

pub one_fault : (laws : PartLaws) (b : List ℕ) (p q : ℕ) (v w : FileWhy) → AreBytes b → FileFaulty b p v → FileFaulty b q w → (p ≡ q) × (v ≡ w)
one_fault laws b p q v w fits (inl h) (inl k) = reported_same p q v w _ h k
one_fault laws b p q v w fits (inl h) (inr y) = absurd (no_device_fault b y.front y.rest p v y.splits h)
one_fault laws b p q v w fits (inr x) (inl k) = absurd (no_device_fault b x.front x.rest q w x.splits k)
one_fault laws b p q v w fits (inr x) (inr y) =
    let same = two_fronts laws b x.front y.front x.rest y.rest fits x.splits y.splits
    (stuck_by_fault laws x.front x.rest x.place v (fault_of b p v x)) (stuck_by_fault laws y.front y.rest y.place w (fault_of b q w y)) in
    let fault = subst (λ g. PartFaulty (next_part g x.rest) x.rest y.place w) (sym same.0) (subst (λ r. PartFaulty (next_part y.front r) r y.place w) (sym same.1) (fault_of b q w y)) in
    let one = part_faults laws (next_part x.front x.rest) x.rest x.place y.place v w (fault_of b p v x) fault in
    (x.at_is ∙ ap (λ f. length (file_bytes f) + x.place) same.0 ∙ ap (λ n. length (file_bytes y.front) + n) one.0 ∙ sym y.at_is, one.1)
