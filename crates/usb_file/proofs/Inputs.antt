-- Of all bytes exactly one holds: they are a set, a file, a dump, or they show one fault.
use Rattle.std.proofs.Common.{◌≡◌, ℕ, ◌≤◌, ◌⊎◌, inl, inr, true, false, List, [], ◌∷◌, ◌++◌, length, take, drop, Option, Some, None, refl, ap, ap₂, sym, subst, ◌∙◌, arith, length-append}
use Rattle.std.proofs.Math.Seq.{take-append_seam}
use Rattle.std.proofs.lemmas.List.{append-nil, take-append-drop, length-take-le}
use Rattle.std.proofs.lemmas.Bool.{cases_Bool, cases_lt}
use Rattle.usb_fields.specs.Bytes.{AreBytes}
use Rattle.usb_set.specs.declared.fault.SetFault.{SetFault}
use Rattle.usb_set.specs.declared.fault.SetWhy.TheVariants.{Truncated}
use Rattle.usb_set.specs.declared.tree.Configuration.{Configuration}
use Rattle.usb_set.specs.Faults.{Begins}
use Rattle.usb_set.specs.Faults as sets
use Rattle.usb_set.specs.Layout.{Layout}
use Rattle.usb_file_data.specs.declared.file.DescriptorFile.{DescriptorFile}
use Rattle.usb_file_data.specs.declared.file.Other.{Other}
use Rattle.usb_file_data.specs.File.{File}
use Rattle.usb_file_data.specs.Front.{Splits}
use Rattle.usb_file_data.specs.declared.fault.FileWhy.{FileWhy}
use Rattle.usb_file_data.specs.declared.fault.FileWhy.TheVariants as files
use Rattle.usb_file_data.specs.declared.file.Input.{Input}
use Rattle.usb_file_data.specs.declared.file.Input.TheVariants as inputs
use Rattle.usb_file_data.specs.declared.fault.InputFault.{InputFault}
use Rattle.usb_file_data.specs.declared.fault.InputFault.TheVariants as faults
use Rattle.usb_file_data.specs.Inputs.{Dump, IsNoDump, InputOrFault, is_input, is_refused, GoesOn, HasFault, InputFaulty, IsInput, is_one_set}
use Rattle.usb_file_data.specs.FileFaults.{FaultyPart, IsNext, LanguagesAreNext, NextPart, a_set, a_qualifier, the_languages, a_string, the_end, is_file, is_faulty}
use Rattle.usb_file.specs.inside.Reading.{PartLaws}
use Rattle.usb_file.proofs.Complete.{file_or_fault, no_device_fault, not_both, one_fault, one_file}
use Rattle.usb_file.proofs.Dumps.{dump_fault, dump_splits, end_apart, is_dump, no_dump, one_dump, qualifier_apart, set_apart, string_apart}
use Rattle.usb_set.proofs.Layouts.{type_again}

-- ---- what the second byte says

-- that of a layout is the type of a set
layout_is_set : (c : Configuration) (b : List ℕ) → Layout c b → is_one_set b ≡ true
layout_is_set c b layout = ap is_one_set layout.bytes ∙ type_again c.kind

file_is_no_set : (f : DescriptorFile) (b : List ℕ) → File f b → is_one_set b ≡ false
file_is_no_set f b file = ap is_one_set file.bytes

dump_is_no_set : (f : DescriptorFile) (b : List ℕ) → Dump f b → is_one_set b ≡ false
dump_is_no_set f b dump = ap is_one_set dump.bytes

not_both_kinds : (b : List ℕ) → is_one_set b ≡ true → is_one_set b ≡ false → ⊥
not_both_kinds b one none = let same : true ≡ false = sym one ∙ none in cc

-- ---- sets

nothing_after : (front rest : List ℕ) → length (front ++ rest) ≤ length front → front ++ rest ≡ front
nothing_after front [] h = append-nil front
nothing_after front (x ∷ xs) h = absurd (omega (arith, length-append front (x ∷ xs)))

-- a layout that ends where the bytes do is that of the bytes
pub begins_whole : (b : List ℕ) (c : Configuration) (place : ℕ) → Begins b c place → length b ≤ place → Layout c b
begins_whole b c place begins h =
    let short : length (begins.front ++ begins.rest) ≤ length begins.front = omega (arith, begins.ends, ap length begins.parts) in
    subst (Layout c) (sym (begins.parts ∙ nothing_after begins.front begins.rest short)) begins.layout

-- the prefix that is a layout, by its length
pub front_of : {b : List ℕ} {c : Configuration} {place : ℕ} (begins : Begins b c place) → begins.front ≡ take place b
front_of begins = sym (ap₂ take (sym begins.ends) begins.parts ∙ take-append_seam begins.front begins.rest)

layout_begins : (c : Configuration) (b : List ℕ) → Layout c b → Begins b c (length b)
layout_begins c b layout = record { front = b; rest = []; parts = sym (append-nil b); layout = layout; ends = refl }

goes_on_begins : (b : List ℕ) (at : ℕ) (h : GoesOn b at) → Begins b h.set at
goes_on_begins b at h =
    let more = h.more in
    record { front = take at b; rest = drop at b; parts = sym (take-append-drop at b); layout = h.layout; ends = length-take-le at b (omega (arith, more)) }

module _ (laws : PartLaws) where
  -- bytes that begin with a set have no fault of one
  begins_without_fault : (b : List ℕ) (c : Configuration) (n : ℕ) (fault : SetFault) → Begins b c n → HasFault b fault → ⊥
  begins_without_fault b c n fault begins (inl shown) = laws.not_both b c n fault.at fault.why begins shown
  begins_without_fault b c n fault begins (inr ended) = ended.1.no_layout c n begins

  one_set_fault : (b : List ℕ) (v w : SetFault) → HasFault b v → HasFault b w → v ≡ w
  one_set_fault b v w (inl x) (inl y) =
      let one = laws.one_fault b v.at w.at v.why w.why x y in
      ap (λ n. record { at = n; why = v.why }) one.0 ∙ ap (λ y. record { at = w.at; why = y }) one.1
  one_set_fault b v w (inl x) (inr y) = absurd (y.1.no_fault v.at v.why x)
  one_set_fault b v w (inr x) (inl y) = absurd (x.1.no_fault w.at w.why y)
  one_set_fault b v w (inr x) (inr y) = x.0 ∙ sym y.0

  ends_or_goes_on : (b : List ℕ) (c : Configuration) (n : ℕ) → is_one_set b ≡ true → Begins b c n → InputOrFault b
  ends_or_goes_on b c n one begins =
      elim (cases_lt n (length b)) [
        | inl more ↦ is_refused (faults.Trailing n) (one, record { set = c; layout = subst (Layout c) (front_of begins) begins.layout; more = more })
        | inr all ↦ is_input (inputs.Set c) (begins_whole b c n begins all)
      ]

  set_or_fault : (b : List ℕ) → AreBytes b → is_one_set b ≡ true → InputOrFault b
  set_or_fault b fits one =
      elim (laws.some b fits) [
        | sets.is_set c n begins ↦ ends_or_goes_on b c n one begins
        | sets.is_faulty place why shown ↦ is_refused (faults.Set (record { at = place; why = why })) (one, inl shown)
        | sets.is_open ended ↦ is_refused (faults.Set (record { at = length b; why = Truncated })) (one, inr (refl, ended))
      ]

  -- ---- files and dumps

  -- the part at fault of bytes that are no file: it says whether they are a dump
  part_or_dump : (b : List ℕ) (at : ℕ) (why : FileWhy) (y : FaultyPart b at why) → AreBytes b → Dump y.front b ⊎ IsNoDump b
  part_or_dump b at why y fits = cases y.part y.rest y.front.other refl refl refl
    where
      cases : (d : NextPart) (r : List ℕ) (o : Option Other) → y.part ≡ d → y.rest ≡ r → y.front.other ≡ o → Dump y.front b ⊎ IsNoDump b
      cases the_languages [] None ed er eo =
          let next : LanguagesAreNext y.front [] = subst (IsNext the_languages y.front) er (subst (λ d. IsNext d y.front y.rest) ed y.next) in
          inl (is_dump y.front b fits (subst (Splits b y.front) er y.splits) next eo)
      cases the_languages [] (Some o) ed er eo = inr (no_dump laws b at why y (λ _ _ none. let no : None ≡ Some o = sym none ∙ eo in cc))
      cases the_languages (x ∷ r) o ed er eo = inr (no_dump laws b at why y (λ _ none _. let no : [] ≡ x ∷ r = sym none ∙ er in cc))
      cases (a_set kind) r o ed er eo = inr (no_dump laws b at why y (λ e _ _. set_apart kind (sym ed ∙ e)))
      cases a_qualifier r o ed er eo = inr (no_dump laws b at why y (λ e _ _. qualifier_apart (sym ed ∙ e)))
      cases a_string r o ed er eo = inr (no_dump laws b at why y (λ e _ _. string_apart (sym ed ∙ e)))
      cases the_end r o ed er eo = inr (no_dump laws b at why y (λ e _ _. end_apart (sym ed ∙ e)))

  device_or_fault : (b : List ℕ) → AreBytes b → is_one_set b ≡ false → InputOrFault b
  device_or_fault b fits none =
      elim (file_or_fault laws b fits) [
        | is_file f file ↦ is_input (inputs.File f) file
        | is_faulty at why (inl h) ↦
            is_refused (faults.File (record { at = at; why = why })) (none, inl h, λ f dump. no_device_fault b f [] at why (dump_splits f b dump) h)
        | is_faulty at why (inr y) ↦
            elim (part_or_dump b at why y fits) [
              | inl dump ↦ is_input (inputs.Dump y.front) dump
              | inr not ↦ is_refused (faults.File (record { at = at; why = why })) (none, inr y, not)
            ]
      ]

  pub input_or_fault : (b : List ℕ) → AreBytes b → InputOrFault b
  input_or_fault b fits =
      elim (cases_Bool (is_one_set b)) [ inl one ↦ set_or_fault b fits one | inr none ↦ device_or_fault b fits none ]

  -- ---- one input, one fault, and not both

  pub no_dump_is_a_file : (b : List ℕ) (f g : DescriptorFile) → Dump f b → File g b → ⊥
  no_dump_is_a_file b f g dump file = not_both laws b g (length b) files.Truncated file (inr (dump_fault f b dump))

  pub one_input : (b : List ℕ) (v w : Input) → IsInput v b → IsInput w b → v ≡ w
  one_input b (inputs.Set c) (inputs.Set d) x y = ap inputs.Set (laws.one_set c d b (length b) (length b) (layout_begins c b x) (layout_begins d b y)).0
  one_input b (inputs.Set c) (inputs.File g) x y = absurd (not_both_kinds b (layout_is_set c b x) (file_is_no_set g b y))
  one_input b (inputs.Set c) (inputs.Dump g) x y = absurd (not_both_kinds b (layout_is_set c b x) (dump_is_no_set g b y))
  one_input b (inputs.File f) (inputs.Set d) x y = absurd (not_both_kinds b (layout_is_set d b y) (file_is_no_set f b x))
  one_input b (inputs.File f) (inputs.File g) x y = ap inputs.File (one_file laws b f g x y)
  one_input b (inputs.File f) (inputs.Dump g) x y = absurd (no_dump_is_a_file b g f y x)
  one_input b (inputs.Dump f) (inputs.Set d) x y = absurd (not_both_kinds b (layout_is_set d b y) (dump_is_no_set f b x))
  one_input b (inputs.Dump f) (inputs.File g) x y = absurd (no_dump_is_a_file b f g x y)
  one_input b (inputs.Dump f) (inputs.Dump g) x y = ap inputs.Dump (one_dump laws b f g x y)

  one_trailing : (b : List ℕ) (m n : ℕ) → GoesOn b m → GoesOn b n → m ≡ n
  one_trailing b m n x y = (laws.one_set x.set y.set b m n (goes_on_begins b m x) (goes_on_begins b n y)).1

  pub one_input_fault : (b : List ℕ) (v w : InputFault) → AreBytes b → InputFaulty b v → InputFaulty b w → v ≡ w
  one_input_fault b (faults.Set v) (faults.Set w) fits x y = ap faults.Set (one_set_fault b v w x.1 y.1)
  one_input_fault b (faults.Set v) (faults.Trailing n) fits x y = absurd (begins_without_fault b y.1.set n v (goes_on_begins b n y.1) x.1)
  one_input_fault b (faults.Set v) (faults.File w) fits x y = absurd (not_both_kinds b x.0 y.0)
  one_input_fault b (faults.Trailing m) (faults.Set w) fits x y = absurd (begins_without_fault b x.1.set m w (goes_on_begins b m x.1) y.1)
  one_input_fault b (faults.Trailing m) (faults.Trailing n) fits x y = ap faults.Trailing (one_trailing b m n x.1 y.1)
  one_input_fault b (faults.Trailing m) (faults.File w) fits x y = absurd (not_both_kinds b x.0 y.0)
  one_input_fault b (faults.File v) (faults.Set w) fits x y = absurd (not_both_kinds b y.0 x.0)
  one_input_fault b (faults.File v) (faults.Trailing n) fits x y = absurd (not_both_kinds b y.0 x.0)
  one_input_fault b (faults.File v) (faults.File w) fits x y =
      let one = one_fault laws b v.at w.at v.why w.why fits x.1 y.1 in
      let same : v ≡ w = ap (λ n. record { at = n; why = v.why }) one.0 ∙ ap (λ y. record { at = w.at; why = y }) one.1 in
      ap faults.File same

  -- the set that all bytes are doesn't end before them
  no_more : (b : List ℕ) (c : Configuration) (n : ℕ) → Layout c b → GoesOn b n → ⊥
  no_more b c n layout h =
      let ends = (laws.one_set c h.set b (length b) n (layout_begins c b layout) (goes_on_begins b n h)).1 in
      let more = h.more in
      absurd (omega (arith, ends, more))

  pub not_input_and_fault : (b : List ℕ) (v : Input) (w : InputFault) → IsInput v b → InputFaulty b w → ⊥
  not_input_and_fault b (inputs.Set c) (faults.Set w) x y = begins_without_fault b c (length b) w (layout_begins c b x) y.1
  not_input_and_fault b (inputs.Set c) (faults.Trailing n) x y = no_more b c n x y.1
  not_input_and_fault b (inputs.Set c) (faults.File w) x y = not_both_kinds b (layout_is_set c b x) y.0
  not_input_and_fault b (inputs.File f) (faults.Set w) x y = not_both_kinds b y.0 (file_is_no_set f b x)
  not_input_and_fault b (inputs.File f) (faults.Trailing n) x y = not_both_kinds b y.0 (file_is_no_set f b x)
  not_input_and_fault b (inputs.File f) (faults.File w) x y = not_both laws b f w.at w.why x y.1
  not_input_and_fault b (inputs.Dump f) (faults.Set w) x y = not_both_kinds b y.0 (dump_is_no_set f b x)
  not_input_and_fault b (inputs.Dump f) (faults.Trailing n) x y = not_both_kinds b y.0 (dump_is_no_set f b x)
  not_input_and_fault b (inputs.Dump f) (faults.File w) x y = y.2 f x
