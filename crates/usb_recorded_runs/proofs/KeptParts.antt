-- What is kept of a device's descriptors stays, unless the device gets another address.
use Rattle.std.proofs.Common.{◌≡◌, ◌==◌, ◌&&◌, ◌||◌, ◌≤◌, ◌/◌, ◌%◌, ℕ, Bool, true, false, not, if◌then◌else◌, List, [], ◌∷◌, ◌++◌, length, refl, sym, ◌∙◌, ap, subst, arith}
use Rattle.std.specs.Prelude.{Option, Some, None, IsSome, is_some, cond, filter}
use Rattle.std.specs.List.{AllByRecursion, find, list_any}
use Rattle.std.specs.Option.{option_or}
use Rattle.std.proofs.lemmas.Bool.Decides.{nat_tests}
use Rattle.std.proofs.lemmas.List.Folds.{find-append}
use Rattle.usb_file_data.specs.declared.file.DescriptorFile.{DescriptorFile}
use Rattle.usb_device.specs.Descriptors.{descriptor}
use Rattle.usb_capture.specs.declared.asked.Asked.{Asked}
use Rattle.usb_capture.specs.declared.control_transfer.ControlTransfer.{ControlTransfer}
use Rattle.usb_capture.specs.DeviceReadings.{current_after, current_with, is_other_descriptor, is_other_device, is_past}
use Rattle.usb_capture.specs.Findings.{asked_of, differ, is_same, sets_address}
use Rattle.usb_capture.specs.Readings.{is_again, is_reading, without_again}
use Rattle.usb_capture.proofs.FilterLemmas.{still_there}
use Rattle.usb_recorded_runs.proofs.DescribedFiles.{Reads, read_whole}

-- a descriptor of the device that has this address
abbrev pub at_address : ℕ → ℕ → ℕ → Asked
at_address address value index = record { bus = 0; device = address; value = value; index = index }

-- a reading of it is kept
abbrev pub Has : List ControlTransfer → Asked → Type 0
Has kept asked = IsSome (find (λ t. is_same (asked_of t) asked) kept)

-- ---- lists

pub current_both : (kept xs ys : List ControlTransfer) → current_after kept (xs ++ ys) ≡ current_after (current_after kept xs) ys
current_both kept [] ys = refl
current_both kept (x ∷ xs) ys = current_both (current_with x kept) xs ys

some_first : {A : Type 0} (o p : Option A) → IsSome o → IsSome (option_or o p)
some_first (Some x) p is = refl
some_first None p is = absurd (let w : ⊥ = cc in w)

some_second : {A : Type 0} (o p : Option A) → IsSome p → IsSome (option_or o p)
some_second (Some x) p is = refl
some_second None p is = is

-- ---- one transfer more

numbers_same : (a b c d a' b' c' d' : ℕ) → (a == a' && b == b' && c == c' && d == d') ≡ true → (a ≡ a') × (b ≡ b') × (c ≡ c') × (d ≡ d')
numbers_same a b c d a' b' c' d' e = (grind (arith, nat_tests), grind (arith, nat_tests), grind (arith, nat_tests), grind (arith, nat_tests))

same_numbers : (a b c d a' b' c' d' : ℕ) → a ≡ a' → b ≡ b' → c ≡ c' → d ≡ d' → (a == a' && b == b' && c == c' && d == d') ≡ true
same_numbers a b c d a' b' c' d' e f g h = grind (arith, nat_tests)

-- the same as another reading that is the same as what is asked for
again_same : (t x : ControlTransfer) (asked : Asked) → is_again t x ≡ true → is_same (asked_of x) asked ≡ true → is_same (asked_of t) asked ≡ true
again_same t x asked again same =
    let a = numbers_same x.bus x.device x.setup.value x.setup.index t.bus t.device t.setup.value t.setup.index again in
    let b = numbers_same x.bus x.device x.setup.value x.setup.index asked.bus asked.device asked.value asked.index same in
    same_numbers t.bus t.device t.setup.value t.setup.index asked.bus asked.device asked.value asked.index (sym a.0 ∙ b.0) (sym a.1 ∙ b.1) (sym a.2 ∙ b.2) (sym a.3 ∙ b.3)

not_past : (other : Bool) (t old : ControlTransfer) → other ≡ false → sets_address t.setup ≡ false → not (is_past other t old) ≡ true
not_past other t old none gives = of (sets_address t.setup) other (t.bus == old.bus) (t.setup.value == old.device) (t.bus == old.bus) (t.device == old.device) gives none
  where
    of : (a o b c d e : Bool) → a ≡ false → o ≡ false → not ((a && b && c) || (o && d && e)) ≡ true
    of false false b c d e x y = refl
    of true o b c d e x y = absurd (let w : ⊥ = cc in w)
    of false true b c d e x y = absurd (let w : ⊥ = cc in w)

module _ (asked : Asked) (t : ControlTransfer) (kept : List ControlTransfer) where
  abbrev is_it : ControlTransfer → Bool
  is_it x = is_same (asked_of x) asked

  abbrev left : List ControlTransfer
  left = filter (λ old. not (is_past (is_other_device t kept) t old)) kept

  abbrev now : Bool → List ControlTransfer
  now reads = if reads then without_again t left ++ t ∷ [] else left

  arrives_so : is_it t ≡ true → IsSome (find is_it (now true))
  arrives_so is =
      subst IsSome (sym (find-append is_it (without_again t left) (t ∷ [])))
      (some_second (find is_it (without_again t left)) (cond (is_it t) (Some t) None) (ap (λ c. is_some (cond c (Some t) None)) is))

  -- A reading is kept.
  pub arrives : is_reading t ≡ true → is_it t ≡ true → Has (current_with t kept) asked
  arrives reads is = subst (λ c. IsSome (find is_it (now c))) (sym reads) (arrives_so is)

  -- and what was kept stays
  pub stays : is_other_device t kept ≡ false → sets_address t.setup ≡ false → Has kept asked → Has (current_with t kept) asked
  stays none gives has = of (is_reading t) (is_it t) refl
    where
      here : IsSome (find is_it left)
      here = subst IsSome (sym (still_there is_it (λ old. not (is_past (is_other_device t kept) t old)) (λ x e. not_past (is_other_device t kept) t x none gives) kept)) has

      another : is_it t ≡ false → (x : ControlTransfer) → is_it x ≡ true → not (is_again t x) ≡ true
      another other x same = by (is_again t x) refl
        where
          by : (again : Bool) → is_again t x ≡ again → not again ≡ true
          by false e = refl
          by true e = absurd (let w : true ≡ false = sym (again_same t x asked e same) ∙ other in let v : ⊥ = cc in v)

      of : (reads same : Bool) → is_it t ≡ same → IsSome (find is_it (now reads))
      of false same e = here
      of true true e = arrives_so e
      of true false e =
          subst IsSome (sym (find-append is_it (without_again t left) (t ∷ [])))
          (some_first (find is_it (without_again t left)) (find is_it (t ∷ []))
          (subst IsSome (sym (still_there is_it (λ old. not (is_again t old)) (another e) left)) here))

-- ---- readings of one description

own_bytes : (b : List ℕ) → differ b b ≡ false
own_bytes [] = refl
own_bytes (x ∷ b) = ap (λ c. c || differ b b) (same x) ∙ own_bytes b
  where
    same : (n : ℕ) → not (n == n) ≡ false
    same n = grind (arith, nat_tests)

module _ (f : DescriptorFile) (size : 8 ≤ f.device.packet) (t : ControlTransfer) where
  same_data : (old : ControlTransfer) → Reads f t → Reads f old → is_again t old ≡ true → t.data ≡ old.data
  same_data old new before again =
      let a = numbers_same old.bus old.device old.setup.value old.setup.index t.bus t.device t.setup.value t.setup.index again in
      some_same t.data old.data
      (sym (read_whole f t new size)
      ∙ ap (λ v. descriptor f (v / 256) (v % 256) t.setup.index) (sym a.2)
      ∙ ap (λ i. descriptor f (old.setup.value / 256) (old.setup.value % 256) i) (sym a.3)
      ∙ read_whole f old before size)
    where
      some_same : (a b : List ℕ) → Some a ≡ Some b → a ≡ b
      some_same a b e = cc

  none_other : (old : ControlTransfer) → Reads f t → Reads f old → is_other_descriptor t old ≡ false
  none_other old new before = of (is_again t old) refl
    where
      own_length : (n : ℕ) → not (n == n) ≡ false
      own_length n = grind (arith, nat_tests)

      of : (again : Bool) → is_again t old ≡ again → (again && (not (length t.data == length old.data) || differ t.data old.data)) ≡ false
      of false e = refl
      of true e =
          let same = same_data old new before e in
          ap (λ b. not (length t.data == length b) || differ t.data b) (sym same)
          ∙ ap (λ c. c || differ t.data t.data) (own_length (length t.data))
          ∙ own_bytes t.data

  all_same : (kept : List ControlTransfer) → Reads f t → AllByRecursion (Reads f) kept → list_any (is_other_descriptor t) kept ≡ false
  all_same [] new each = refl
  all_same (old ∷ kept) new each = ap (λ c. c || list_any (is_other_descriptor t) kept) (none_other old new each.0) ∙ all_same kept new each.1

  pub same_device : (kept : List ControlTransfer) → (is_reading t ≡ true → Reads f t) → AllByRecursion (Reads f) kept → is_other_device t kept ≡ false
  same_device kept new each = of (is_reading t) (t.setup.value == 256) refl
    where
      of : (reads device : Bool) → is_reading t ≡ reads → ((reads && device) && list_any (is_other_descriptor t) kept) ≡ false
      of false device e = refl
      of true false e = refl
      of true true e = all_same kept (new e) each
