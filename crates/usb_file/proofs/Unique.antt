-- The parts of a file, each of which is read in one way.
use Rattle.std.proofs.Common.{◌≡◌, ℕ, ltb, take, ◌+◌, ◌*◌, ◌%◌, ◌≤◌, true, false, ◌||◌, ◌==◌, List, [], ◌∷◌, ◌++◌, length, Option, Some, None, refl, ap, sym, subst, ◌∙◌, arith, length-append}
use Rattle.std.specs.Prelude.{is_some}
use Rattle.std.proofs.lemmas.Bool.{le-ltb, ne_eqb, or_from, cond-false}
use Rattle.usb_fields.specs.declared.qualifier.Qualifier.{Qualifier}
use Rattle.usb_fields.specs.Device.{qualifier_bytes, qualifier_fault}
use Rattle.usb_fields.specs.Units.{units_bytes}
use Rattle.usb_set.specs.declared.tree.SetKind.{SetKind}
use Rattle.usb_set.specs.declared.tree.Configuration.{Configuration}
use Rattle.usb_set.specs.Layout.{Layout}
use Rattle.usb_set.specs.Faults.{Begins}
use Rattle.usb_file_data.specs.declared.file.DescriptorFile.{DescriptorFile}
use Rattle.usb_file_data.specs.declared.fault.FileWhy.{FileWhy}
use Rattle.usb_file_data.specs.declared.fault.FileWhy.TheVariants as files
use Rattle.usb_file_data.specs.File.{is_other_kind, is_long_string}
use Rattle.usb_file_data.proofs.Fronts.{string_with}
use Rattle.usb_file.specs.inside.Reading.{PartLaws}
use Rattle.usb_file_data.proofs.Units.{length-units_bytes}
use Rattle.usb_file_data.specs.FileFaults.{NextPart, a_set, a_qualifier, the_languages, a_string, the_end, is_no_string, string_fault, fixed_fault, SetFaulty, PartFaulty}
use Rattle.usb_file_data.specs.Front.{with_set, with_qualifier, with_strings}

-- ---- parts

pub record IsSet (kind : SetKind) (f g : DescriptorFile) (p : List ℕ) : Type 0 where
  pub set : Configuration
  pub layout : Layout set p
  pub kind_is : is_other_kind kind set ≡ false
  pub next : g ≡ with_set kind set f

pub record IsQualifier (f g : DescriptorFile) (p : List ℕ) : Type 0 where
  pub qualifier : Qualifier
  pub bytes : p ≡ qualifier_bytes qualifier
  pub next : g ≡ with_qualifier qualifier f

pub record IsText (least : ℕ) (f g : DescriptorFile) (p : List ℕ) (next_of : List ℕ → DescriptorFile) : Type 0 where
  pub units : List ℕ
  pub bytes : p ≡ units_bytes units
  pub enough : least ≤ 2 + 2 * length units
  pub short : is_long_string units ≡ false
  pub next : g ≡ next_of units

-- the next part is these bytes, and makes of the first file so far the second
abbrev pub PartIs : NextPart → DescriptorFile → DescriptorFile → List ℕ → Type 0
PartIs (a_set kind) f g p = IsSet kind f g p
PartIs a_qualifier f g p = IsQualifier f g p
PartIs the_languages f g p = IsText 4 f g p (λ u. with_strings (record { languages = u; texts = [] }) f)
PartIs a_string f g p = IsText 2 f g p (λ u. record f { strings = string_with u f.strings })
PartIs the_end f g p = ⊥

pub append_same : (a c r s : List ℕ) → length a ≡ length c → a ++ r ≡ c ++ s → (a ≡ c) × (r ≡ s)
append_same [] [] r s n e = (refl, e)
append_same [] (y ∷ c) r s n e = absurd (omega arith)
append_same (x ∷ a) [] r s n e = absurd (omega arith)
append_same (x ∷ a) (y ∷ c) r s n e =
    let heads : x ≡ y = cc in
    let tails : a ++ r ≡ c ++ s = cc in
    let rest = append_same a c r s (omega arith) tails in
    (ap (λ z. z ∷ a) heads ∙ ap (λ (zs : List ℕ). y ∷ zs) rest.0, rest.1)

begins_with : (p r : List ℕ) (c : Configuration) → Layout c p → Begins (p ++ r) c (length p)
begins_with p r c layout = record { front = p; rest = r; parts = refl; layout = layout; ends = refl }

-- ---- one part

one_set_part : (laws : PartLaws) (kind : SetKind) (f g h : DescriptorFile) (p q r s : List ℕ) → IsSet kind f g p → IsSet kind f h q → p ++ r ≡ q ++ s → (g ≡ h) × (r ≡ s)
one_set_part laws kind f g h p q r s x y e =
    let one = laws.one_set x.set y.set (p ++ r) (length p) (length q) (begins_with p r x.set x.layout)
    (subst (λ b. Begins b y.set (length q)) (sym e) (begins_with q s y.set y.layout)) in
    (x.next ∙ ap (λ c. with_set kind c f) one.0 ∙ sym y.next, (append_same p q r s one.1 e).1)

one_qualifier_part : (laws : PartLaws) (f g h : DescriptorFile) (p q r s : List ℕ) → IsQualifier f g p → IsQualifier f h q → p ++ r ≡ q ++ s → (g ≡ h) × (r ≡ s)
one_qualifier_part laws f g h p q r s x y e =
    let same = append_same p q r s (ap length x.bytes ∙ sym (ap length y.bytes)) e in
    let one = laws.one_qualifier x.qualifier y.qualifier (sym x.bytes ∙ same.0 ∙ y.bytes) in
    (x.next ∙ ap (λ a. with_qualifier a f) one ∙ sym y.next, same.1)

same_length : (u v r s : List ℕ) → units_bytes u ++ r ≡ units_bytes v ++ s → length (units_bytes u) ≡ length (units_bytes v)
same_length u v r s e =
    let heads : 2 + 2 * length u ≡ 2 + 2 * length v = cc in
    length-units_bytes u ∙ heads ∙ sym (length-units_bytes v)

one_text_part : (laws : PartLaws) (least : ℕ) (f g h : DescriptorFile) (p q r s : List ℕ) (next_of : List ℕ → DescriptorFile) → IsText least f g p next_of → IsText least f h q next_of
    → p ++ r ≡ q ++ s → (g ≡ h) × (r ≡ s)
one_text_part laws least f g h p q r s next_of x y e =
    let units : units_bytes x.units ++ r ≡ units_bytes y.units ++ s = ap (λ z. z ++ r) (sym x.bytes) ∙ e ∙ ap (λ z. z ++ s) y.bytes in
    let same = append_same (units_bytes x.units) (units_bytes y.units) r s (same_length x.units y.units r s units) units in
    let one = laws.one_list x.units y.units same.0 in
    (x.next ∙ ap next_of one ∙ sym y.next, same.1)

pub one_part : (laws : PartLaws) (d : NextPart) (f g h : DescriptorFile) (p q r s : List ℕ) → PartIs d f g p → PartIs d f h q → p ++ r ≡ q ++ s → (g ≡ h) × (r ≡ s)
one_part laws (a_set kind) f g h p q r s x y e = one_set_part laws kind f g h p q r s x y e
one_part laws a_qualifier f g h p q r s x y e = one_qualifier_part laws f g h p q r s x y e
one_part laws the_languages f g h p q r s x y e = one_text_part laws 4 f g h p q r s _ x y e
one_part laws a_string f g h p q r s x y e = one_text_part laws 2 f g h p q r s _ x y e
one_part laws the_end f g h p q r s x y e = absurd x

-- ---- no part is at fault

set_or_fault : (laws : PartLaws) (kind : SetKind) (f g : DescriptorFile) (p r : List ℕ) (place : ℕ) (why : FileWhy) → IsSet kind f g p → SetFaulty kind (p ++ r) place why → ⊥
set_or_fault laws kind f g p r place (files.Set why) x h = laws.not_both (p ++ r) x.set (length p) place why (begins_with p r x.set x.layout) h
set_or_fault laws kind f g p r place files.SetKind x h =
    let one = laws.one_set x.set h.0 (p ++ r) (length p) h.1 (begins_with p r x.set x.layout) h.2 in
    let differs : false ≡ true = sym x.kind_is ∙ ap (is_other_kind kind) one.0 ∙ h.3 in
    cc
set_or_fault laws kind f g p r place files.Truncated x h = h.0.no_layout x.set (length p) (begins_with p r x.set x.layout)
set_or_fault laws kind f g p r place why x h = h

qualifier_fine : (q : Qualifier) (r : List ℕ) → fixed_fault 10 (is_some (qualifier_fault (take 10 (qualifier_bytes q ++ r)))) files.Qualifier (qualifier_bytes q ++ r) ≡ None
qualifier_fine q r = cond-false (ltb (length (qualifier_bytes q ++ r)) 10) _ _ (le-ltb _ 10 (omega arith))

even : (n : ℕ) → ((2 + 2 * n) % 2 == 1) ≡ false
even n = ne_eqb ((2 + 2 * n) % 2) 1 (λ e. absurd (omega arith))

text_fine : (least : ℕ) (u r : List ℕ) → least ≤ 2 + 2 * length u → string_fault least (units_bytes u ++ r) ≡ None
text_fine least u r enough =
    let long = length-append (units_bytes u) r in
    let units = length-units_bytes u in
    cond-false (is_no_string least (units_bytes u ++ r)) _ _ (or_from _ _ (or_from (ltb (2 + 2 * length u) least) _ (le-ltb _ least enough) (even (length u))) refl)
    ∙ cond-false (ltb (length (units_bytes u ++ r)) 2 || ltb (length (units_bytes u ++ r)) (2 + 2 * length u)) _ _
    (or_from _ _ (le-ltb _ 2 (omega arith)) (le-ltb _ (2 + 2 * length u) (omega arith)))

text_or_fault : (least : ℕ) (f g : DescriptorFile) (p r : List ℕ) (next_of : List ℕ → DescriptorFile) (place : ℕ) (why : FileWhy) → IsText least f g p next_of
    → string_fault least (p ++ r) ≡ Some (place, why) → ⊥
text_or_fault least f g p r next_of place why x h =
    let fine : string_fault least (p ++ r) ≡ None = ap (λ z. string_fault least (z ++ r)) x.bytes ∙ text_fine least x.units r x.enough in
    let none : Option (ℕ × FileWhy) = None in
    let no : none ≡ Some (place, why) = sym fine ∙ h in
    cc

pub part_or_fault : (laws : PartLaws) (d : NextPart) (f g : DescriptorFile) (p r : List ℕ) (place : ℕ) (why : FileWhy) → PartIs d f g p → PartFaulty d (p ++ r) place why → ⊥
part_or_fault laws (a_set kind) f g p r place why x h = set_or_fault laws kind f g p r place why x h
part_or_fault laws a_qualifier f g p r place why x h =
    let fine : fixed_fault 10 (is_some (qualifier_fault (take 10 (p ++ r)))) files.Qualifier (p ++ r) ≡ None =
    ap (λ z. fixed_fault 10 (is_some (qualifier_fault (take 10 (z ++ r)))) files.Qualifier (z ++ r)) x.bytes ∙ qualifier_fine x.qualifier r in
    let none : Option (ℕ × FileWhy) = None in
    let no : none ≡ Some (place, why) = sym fine ∙ h in
    cc
part_or_fault laws the_languages f g p r place why x h = text_or_fault 4 f g p r _ place why x h
part_or_fault laws a_string f g p r place why x h = text_or_fault 2 f g p r _ place why x h
part_or_fault laws the_end f g p r place why x h = x

-- ---- one fault

set_faults : (laws : PartLaws) (kind : SetKind) (rest : List ℕ) (p q : ℕ) (v w : FileWhy) → SetFaulty kind rest p v → SetFaulty kind rest q w → (p ≡ q) × (v ≡ w)
set_faults laws kind rest p q (files.Set v) (files.Set w) x y = let one = laws.one_fault rest p q v w x y in (one.0, ap files.Set one.1)
set_faults laws kind rest p q (files.Set v) files.SetKind x y = absurd (laws.not_both rest y.0 y.1 p v y.2 x)
set_faults laws kind rest p q (files.Set v) files.Truncated x y = absurd (y.0.no_fault p v x)
set_faults laws kind rest p q (files.Set v) w x y = absurd y
set_faults laws kind rest p q files.SetKind (files.Set w) x y = absurd (laws.not_both rest x.0 x.1 q w x.2 y)
set_faults laws kind rest p q files.SetKind files.SetKind x y = (x.4 ∙ sym y.4, refl)
set_faults laws kind rest p q files.SetKind files.Truncated x y = absurd (y.0.no_layout x.0 x.1 x.2)
set_faults laws kind rest p q files.SetKind w x y = absurd y
set_faults laws kind rest p q files.Truncated (files.Set w) x y = absurd (x.0.no_fault q w y)
set_faults laws kind rest p q files.Truncated files.SetKind x y = absurd (x.0.no_layout y.0 y.1 y.2)
set_faults laws kind rest p q files.Truncated files.Truncated x y = (x.1 ∙ sym y.1, refl)
set_faults laws kind rest p q files.Truncated w x y = absurd y
set_faults laws kind rest p q v w x y = absurd x

pub reported_same : (p q : ℕ) (v w : FileWhy) (o : Option (ℕ × FileWhy)) → o ≡ Some (p, v) → o ≡ Some (q, w) → (p ≡ q) × (v ≡ w)
reported_same p q v w o h k =
    let found : ℕ × FileWhy = (p, v) in
    let report : ℕ × FileWhy = (q, w) in
    let pairs : found ≡ report = cc in
    (ap (λ (x : ℕ × FileWhy). x.0) pairs, ap (λ (x : ℕ × FileWhy). x.1) pairs)

pub part_faults : (laws : PartLaws) (d : NextPart) (rest : List ℕ) (p q : ℕ) (v w : FileWhy) → PartFaulty d rest p v → PartFaulty d rest q w → (p ≡ q) × (v ≡ w)
part_faults laws (a_set kind) rest p q v w x y = set_faults laws kind rest p q v w x y
part_faults laws a_qualifier rest p q v w x y = reported_same p q v w _ x y
part_faults laws the_languages rest p q v w x y = reported_same p q v w _ x y
part_faults laws a_string rest p q v w x y = reported_same p q v w _ x y
part_faults laws the_end [] p q v w x y = absurd x
part_faults laws the_end (z ∷ rest) p q v w x y = (x.0 ∙ sym y.0, x.1 ∙ sym y.1)
