-- What a recording of a run has of a device is its description.
use Rattle.std.proofs.Common.{◌≡◌, ◌⊎◌, inl, inr, ◌==◌, ◌&&◌, ◌||◌, ◌<◌, ◌≤◌, ◌+◌, ◌*◌, ◌/◌, ◌%◌, ℕ, zero, suc, Bool, true, false, not, if◌then◌else◌, List, [], ◌∷◌, ◌++◌, length, map, take, drop, append_assoc, refl, sym, ◌∙◌, ap, ap₂, subst, arith}
use Rattle.std.specs.Prelude.{Option, Some, None, filter, cond, is_some, unwrap_or, option_and_then, slice_index}
use Rattle.std.specs.List.{All, AllByRecursion, find, flat_map, list_any, range_with_len}
use Rattle.std.specs.Option.{option_map}
use Rattle.std.proofs.lemmas.Bool.Decides.{nat_tests}
use Rattle.std.proofs.lemmas.Grind.{flat_map-append}
use Rattle.std.proofs.lemmas.List.{length-take}
use Rattle.std.proofs.lemmas.List.Elements.{All-filter, All-nil, recursion_from_All}
use Rattle.usb_fields.specs.Bytes.{AreBytes, little_endian}
use Rattle.usb_fields.specs.Device.{device_bytes, qualifier_bytes}
use Rattle.usb_fields.specs.Units.{units_bytes}
use Rattle.usb_fields.specs.declared.packet.Speed.{Speed}
use Rattle.usb_set.specs.declared.tree.Configuration.{Configuration}
use Rattle.usb_file_data.specs.declared.file.DescriptorFile.{DescriptorFile}
use Rattle.usb_file_data.specs.declared.file.Other.{Other}
use Rattle.usb_file_data.specs.declared.file.Strings.{Strings}
use Rattle.usb_file_data.specs.File.{each_string_bytes, file_bytes, has_no_layout, has_wrong_count, has_wrong_kind, has_wrong_layout, is_other_miscounted, named_among, named_indices, other_bytes, other_sets, sets_bytes, string_indices, strings_bytes, units_at, units_of, whole_set}
use Rattle.usb_file_data.specs.Findings.{findings}
use Rattle.usb_file_data.proofs.Sorting.{device_right}
use Rattle.usb_host.proofs.ReadLemmas.{byte_at}
use Rattle.usb_device.specs.Accepted.{Accepted, has_wrong_sets}
use Rattle.usb_device.specs.Descriptors.{descriptor, other_set_at, qualifier_of, set_at, string_at}
use Rattle.usb_bus.specs.Asked.{asked_of as asked_file, strings_of, texts_of, without_strings}
use Rattle.usb_bus.proofs.AskedTexts.{all_asked, at_drop, drop_next}
use Rattle.usb_capture.specs.declared.asked.Asked.{Asked}
use Rattle.usb_capture.specs.declared.control_transfer.ControlTransfer.{ControlTransfer}
use Rattle.usb_capture.specs.DeviceFiles as made
use Rattle.usb_capture.specs.DeviceFiles.{IsDescriptor, codes_in, configurations, data_of, dump_parts, named_by, other_parts, part, parts, string_bytes, string_parts, strings_in}
use Rattle.usb_capture.specs.DeviceReadings.{current_after, current_with, is_other_device, is_past}
use Rattle.usb_capture.specs.Findings.{asked_of, beside, is_same}
use Rattle.usb_capture.specs.Readings.{is_done, is_reading, is_whole, reads_descriptor}
use Rattle.usb_capture.proofs.ReadingLaws.{one_more}
use Rattle.usb_recorded_runs.specs.Files.{all_with, has_qualifier}
use Rattle.usb_recorded_runs.proofs.AnswerLemmas.{described_by}
use Rattle.usb_recorded_runs.proofs.FullLengths.{whole_front}
use Rattle.usb_recorded_runs.proofs.NamedParts.{front_bytes, named_same}
use Rattle.usb_recorded_runs.proofs.RequestRuns.{IsAskedAt}
use Rattle.usb_recorded_runs.proofs.RequestedLemmas.{HasRequest}
use Rattle.usb_recorded_runs.proofs.SizeLemmas.{IsSound}

or_parts : (a b : Bool) → (a || b) ≡ false → (a ≡ false) × (b ≡ false)
or_parts false false e = (refl, refl)
or_parts a b e = absurd (let w : ⊥ = cc in w)

same_number : (m n : ℕ) → (m == n) ≡ true → m ≡ n
same_number m n e = grind (arith, nat_tests)

pub packet_eight : (f : DescriptorFile) → findings f ≡ [] → 8 ≤ f.device.packet
packet_eight f none = let d = device_right f none in grind (arith, nat_tests)

-- ---- the file that is asked for

abbrev asked_with : DescriptorFile → Option Other → DescriptorFile
asked_with f o =
    let g : DescriptorFile = record { device = f.device; sets = f.sets; other = o; strings = None } in
    record g { strings = strings_of f (named_indices g) f.strings }

-- With the other speed, if there is one, it is the whole.
pub whole_file : (f : DescriptorFile) (speed : Speed) (came : Bool) → Accepted f speed → (if came then f.other else None) ≡ f.other → asked_file (all_with came) f ≡ f
whole_file f speed came accepted same = ap (asked_with f) same ∙ all_asked f speed accepted

-- ---- readings

record ReadingParts (reads done kept whole : Bool) : Type 0 where
  is_read : reads ≡ true
  is_ended : done ≡ true
  is_kept : kept ≡ true
  has_all : whole ≡ true

reading_parts : (reads done kept whole : Bool) → (reads && done && kept && whole) ≡ true → ReadingParts reads done kept whole
reading_parts true true true true e = record { is_read = refl; is_ended = refl; is_kept = refl; has_all = refl }
reading_parts reads done kept whole e = absurd (let w : ⊥ = cc in w)

take_all : (n : ℕ) (xs : List ℕ) → length xs ≤ n → take n xs ≡ xs
take_all zero [] e = refl
take_all zero (x ∷ xs) e = absurd (let w : ⊥ = omega (arith, e) in w)
take_all (suc n) [] e = refl
take_all (suc n) (x ∷ xs) e = ap (λ ys. x ∷ ys) (take_all n xs (omega (arith, e)))

record SameParts (bus device value index : Bool) : Type 0 where
  of_value : value ≡ true
  of_index : index ≡ true

same_parts : (bus device value index : Bool) → (bus && device && value && index) ≡ true → SameParts bus device value index
same_parts true true true true e = record { of_value = refl; of_index = refl }
same_parts bus device value index e = absurd (let w : ⊥ = cc in w)

module _ (f : DescriptorFile) where
  -- a transfer by which all of a descriptor came
  pub record Reads (t : ControlTransfer) : Type 0 where
    pub is_read : is_reading t ≡ true
    pub sound : IsSound f.device.packet (described_by f) t
    pub asked : IsAskedAt t.device t.setup

  pub read_whole : (t : ControlTransfer) → Reads t → 8 ≤ f.device.packet → descriptor f (t.setup.value / 256) (t.setup.value % 256) t.setup.index ≡ Some t.data
  read_whole t reads size =
      whole_front f (t.setup.value / 256) (t.setup.value % 256) t.setup.index t.data (reads.sound.front is.is_read is.is_ended is.is_kept) few is.has_all
    where
      is : ReadingParts (reads_descriptor t.setup) (is_done t.ending) (not t.is_cut) (is_whole (t.setup.value / 256) t.data)
      is = reading_parts (reads_descriptor t.setup) (is_done t.ending) (not t.is_cut) (is_whole (t.setup.value / 256) t.data) reads.is_read

      few : length t.data < 8 → (length t.data ≡ 0) ⊎ (t.data ≡ described_by f t.setup)
      few less = of (reads.sound.short is.is_read is.is_ended is.is_kept size less)
        where
          of : (length t.data ≡ 0) ⊎ (t.data ≡ take t.setup.length (described_by f t.setup)) → (length t.data ≡ 0) ⊎ (t.data ≡ described_by f t.setup)
          of (inl none) = inl none
          of (inr all) =
              let within : length (described_by f t.setup) ≤ t.setup.length =
              omega (arith, less, reads.asked.long is.is_read, ap length all, length-take t.setup.length (described_by f t.setup)) in
              inr (all ∙ take_all t.setup.length (described_by f t.setup) within)

-- what holds of readings holds of those that are kept
current_all : (P : ControlTransfer → Type 0) (kept ts : List ControlTransfer) → All P kept → AllByRecursion (λ t. is_reading t ≡ true → P t) ts → All P (current_after kept ts)
current_all P kept [] each later = each
current_all P kept (t ∷ ts) each later =
    let left = λ (old : ControlTransfer). not (is_past (is_other_device t kept) t old) in
    current_all P (current_with t kept) ts (one_more P t (filter left kept) (All-filter left P kept each) later.0) later.1

module _ (f : DescriptorFile) where
  all_read : (ts : List ControlTransfer) → AllByRecursion (IsSound f.device.packet (described_by f)) ts → AllByRecursion (HasRequest IsAskedAt) ts
      → AllByRecursion (λ t. is_reading t ≡ true → Reads f t) ts
  all_read [] sound asked = tt
  all_read (t ∷ ts) sound asked = (λ read. record { is_read = read; sound = sound.0; asked = asked.0 }, all_read ts sound.1 asked.1)

  -- All that is kept of such transfers are readings.
  pub reads_kept : (ts : List ControlTransfer) → AllByRecursion (IsSound f.device.packet (described_by f)) ts → AllByRecursion (HasRequest IsAskedAt) ts
      → AllByRecursion (Reads f) (current_after [] ts)
  reads_kept ts sound asked = recursion_from_All (Reads f) (current_after [] ts) (current_all (Reads f) [] ts (All-nil (Reads f)) (all_read ts sound asked))

find_holds : (P : ControlTransfer → Type 0) (test : ControlTransfer → Bool) (xs : List ControlTransfer) (t : ControlTransfer) → AllByRecursion P xs → find test xs ≡ Some t
    → P t × (test t ≡ true)
find_holds P test [] t each e = absurd (let w : ⊥ = cc in w)
find_holds P test (x ∷ xs) t each e = of (test x) refl e (find_holds P test xs t each.1)
  where
    of : (here : Bool) → test x ≡ here → cond here (Some x) (find test xs) ≡ Some t → (find test xs ≡ Some t → P t × (test t ≡ true)) → P t × (test t ≡ true)
    of true is e later = let same : x ≡ t = cc in (subst P same each.0, subst (λ y. test y ≡ true) same is)
    of false is e later = later e

-- ---- parts one after another

module _ (kept : List ControlTransfer) where
  pub record Begins (asked : Asked) (more : List Asked) (b : List ℕ) : Type 0 where
    pub one : List ℕ
    pub rest : List ℕ
    pub one_is : part kept asked ≡ Some one
    pub rest_is : parts kept more ≡ Some rest
    pub joins : b ≡ one ++ rest

  begins : (asked : Asked) (more : List Asked) (b : List ℕ) → parts kept (asked ∷ more) ≡ Some b → Begins asked more b
  begins asked more b e = of (part kept asked) (parts kept more) refl refl e
    where
      of : (o p : Option (List ℕ)) → part kept asked ≡ o → parts kept more ≡ p → option_and_then (λ b. option_map (λ rest. b ++ rest) p) o ≡ Some b → Begins asked more b
      of None p is so e = absurd (let w : ⊥ = cc in w)
      of (Some one) None is so e = absurd (let w : ⊥ = cc in w)
      of (Some one) (Some rest) is so e = record { one = one; rest = rest; one_is = is; rest_is = so; joins = (let same : one ++ rest ≡ b = cc in sym same) }

  pub record Joins (xs ys : List Asked) (b : List ℕ) : Type 0 where
    pub front : List ℕ
    pub rest : List ℕ
    pub front_is : parts kept xs ≡ Some front
    pub rest_is : parts kept ys ≡ Some rest
    pub joins : b ≡ front ++ rest

  joins : (xs ys : List Asked) (b : List ℕ) → parts kept (xs ++ ys) ≡ Some b → Joins xs ys b
  joins [] ys b e = record { front = []; rest = b; front_is = refl; rest_is = e; joins = refl }
  joins (x ∷ xs) ys b e =
      let first = begins x (xs ++ ys) b e in
      let later = joins xs ys first.rest first.rest_is in
      record {
        front = first.one ++ later.front;
        rest = later.rest;
        front_is = ap (λ o. option_and_then (λ b. option_map (λ rest. b ++ rest) (parts kept xs)) o) first.one_is ∙ ap (option_map (λ rest. first.one ++ rest)) later.front_is;
        rest_is = later.rest_is;
        joins = first.joins ∙ ap (λ r. first.one ++ r) later.joins ∙ sym (append_assoc first.one later.front later.rest);
      }

  -- ---- those of a device

  module _ (f : DescriptorFile) (each : AllByRecursion (Reads f) kept) (size : 8 ≤ f.device.packet) where
    abbrev pub is_of : Asked → Option (List ℕ)
    is_of asked = descriptor f (asked.value / 256) (asked.value % 256) asked.index

    pub part_is : (asked : Asked) (b : List ℕ) → part kept asked ≡ Some b → is_of asked ≡ Some b
    part_is asked b e = of (find (λ t. is_same (asked_of t) asked) kept) refl e
      where
        of : (o : Option ControlTransfer) → find (λ t. is_same (asked_of t) asked) kept ≡ o → option_map data_of o ≡ Some b → is_of asked ≡ Some b
        of None is e = absurd (let w : ⊥ = cc in w)
        of (Some t) is e =
            let found = find_holds (Reads f) (λ t. is_same (asked_of t) asked) kept t each is in
            let same = same_parts (t.bus == asked.bus) (t.device == asked.device) (t.setup.value == asked.value) (t.setup.index == asked.index) found.1 in
            let bytes : t.data ≡ b = cc in
            ap (λ v. descriptor f (v / 256) (v % 256) asked.index) (sym (same_number t.setup.value asked.value same.of_value))
            ∙ ap (λ i. descriptor f (t.setup.value / 256) (t.setup.value % 256) i) (sym (same_number t.setup.index asked.index same.of_index))
            ∙ read_whole f t found.0 size
            ∙ ap Some bytes

    pub some_same : (a b : List ℕ) → Some a ≡ Some b → b ≡ a
    some_same a b e = cc

    -- sets, by the wValue of the first
    module _ (device : Asked) (base : ℕ) (all : List Configuration) (at : (i : ℕ) → i < 256 → is_of (beside device (base + i)) ≡ set_at all i) where
      sets_come : (from : ℕ) (sets : List Configuration) (b : List ℕ) → from + length sets < 257 → drop from all ≡ sets
          → parts kept (map (λ i. beside device (base + i)) (range_with_len from (length sets))) ≡ Some b → b ≡ sets_bytes sets
      sets_come from [] b small is e = some_same [] b e
      sets_come from (c ∷ cs) b small is e =
          let first = begins (beside device (base + from)) (map (λ i. beside device (base + i)) (range_with_len (from + 1) (length cs))) b e in
          let here : set_at all from ≡ Some (whole_set c) = ap (option_map whole_set) (at_drop from all c cs is) in
          let one : first.one ≡ whole_set c =
          some_same (whole_set c) first.one (sym here ∙ sym (at from (omega (arith, small))) ∙ part_is (beside device (base + from)) first.one first.one_is) in
          let next : suc from ≡ from + 1 = omega arith in
          let later : drop (from + 1) all ≡ cs = ap (λ n. drop n all) (sym next) ∙ drop_next from all c cs is in
          first.joins ∙ ap₂ ◌++◌ one (sets_come (from + 1) cs first.rest (omega (arith, small)) later first.rest_is)

    own_at : (device : Asked) (i : ℕ) → i < 256 → is_of (beside device (512 + i)) ≡ set_at f.sets i
    own_at device i small =
        let kind : (512 + i) / 256 ≡ 2 = omega (arith, small) in
        let index : (512 + i) % 256 ≡ i = omega (arith, small) in
        ap (λ k. descriptor f k ((512 + i) % 256) 0) kind ∙ ap (λ j. descriptor f 2 j 0) index

    other_at : (device : Asked) (o : Other) → f.other ≡ Some o → (i : ℕ) → i < 256 → is_of (beside device (1792 + i)) ≡ set_at o.sets i
    other_at device o is i small =
        let kind : (1792 + i) / 256 ≡ 7 = omega (arith, small) in
        let index : (1792 + i) % 256 ≡ i = omega (arith, small) in
        ap (λ k. descriptor f k ((1792 + i) % 256) 0) kind ∙ ap (λ j. descriptor f 7 j 0) index ∙ ap (λ x. other_set_at x i) is

    -- ---- strings

    abbrev pub IsIndex : ℕ → Type 0
    IsIndex n = (0 < n) × (n < 256)

    abbrev pub string_asked : Asked → ℕ → ℕ → Asked
    string_asked device language n = record device { value = 768 + n % 256; index = language }

    module _ (device : Asked) (s : Strings) (is : f.strings ≡ Some s) where
      not_zero : (n : ℕ) → 0 < n → (n == 0) ≡ false
      not_zero n some = grind (arith, nat_tests)

      text_at : (n language : ℕ) → IsIndex n → (b : List ℕ) → is_of (string_asked device language n) ≡ Some b → b ≡ units_bytes (unwrap_or (units_of f n language) [])
      text_at n language small b e = of (units_at s (named_indices f) n language) refl there
        where
          kind : (768 + n % 256) / 256 ≡ 3
          kind = omega arith

          index : (768 + n % 256) % 256 ≡ n
          index = omega (arith, small.1)

          there : option_map units_bytes (units_at s (named_indices f) n language) ≡ Some b
          there =
              sym (ap (λ k. descriptor f k ((768 + n % 256) % 256) language) kind
              ∙ ap (λ j. descriptor f 3 j language) index
              ∙ ap (λ x. string_at x (named_indices f) n language) is
              ∙ ap (λ c. if c then Some (units_bytes s.languages) else option_map units_bytes (units_at s (named_indices f) n language)) (not_zero n small.0))
              ∙ e

          units : units_of f n language ≡ units_at s (named_indices f) n language
          units = ap (λ x. option_and_then (λ s. units_at s (named_indices f) n language) x) is

          of : (o : Option (List ℕ)) → units_at s (named_indices f) n language ≡ o → option_map units_bytes o ≡ Some b → b ≡ units_bytes (unwrap_or (units_of f n language) [])
          of None same e = absurd (let w : ⊥ = cc in w)
          of (Some u) same e = some_same (units_bytes u) b e ∙ sym (ap (λ o. units_bytes (unwrap_or o [])) (units ∙ same))

      texts_come : (language : ℕ) (ns : List ℕ) (b : List ℕ) → AllByRecursion IsIndex ns → parts kept (map (string_asked device language) ns) ≡ Some b
          → b ≡ each_string_bytes (map (λ n. unwrap_or (units_of f n language) []) ns)
      texts_come language [] b small e = some_same [] b e
      texts_come language (n ∷ ns) b small e =
          let first = begins (string_asked device language n) (map (string_asked device language) ns) b e in
          first.joins
          ∙ ap₂ ◌++◌ (text_at n language small.0 first.one (part_is (string_asked device language n) first.one first.one_is)) (texts_come language ns first.rest small.1 first.rest_is)

      languages_come : (named ls : List ℕ) (b : List ℕ) → AllByRecursion IsIndex named → parts kept (flat_map (strings_in device named) ls) ≡ Some b → b ≡ each_string_bytes (texts_of f named ls)
      languages_come named [] b small e = some_same [] b e
      languages_come named (l ∷ ls) b small e =
          let both = joins (strings_in device named l) (flat_map (strings_in device named) ls) b e in
          both.joins
          ∙ ap₂ ◌++◌ (texts_come l named both.front small both.front_is) (languages_come named ls both.rest small both.rest_is)
          ∙ sym (flat_map-append units_bytes (map (λ n. unwrap_or (units_of f n l) []) named) (texts_of f named ls))

    pub codes_back : (ls : List ℕ) → codes_in (flat_map little_endian ls) ≡ ls
    codes_back [] = refl
    codes_back (l ∷ ls) = let same : l % 256 + 256 * (l / 256) ≡ l = omega arith in ap₂ (λ x xs. x ∷ xs) same (codes_back ls)

    -- the strings of these indices
    strings_come : (device : Asked) (named : List ℕ) (b : List ℕ) → AllByRecursion IsIndex named
        → parts kept (string_parts device named (unwrap_or (part kept (beside device 768)) [])) ≡ Some b → b ≡ strings_bytes (strings_of f named f.strings)
    strings_come device [] b small e = some_same [] b e ∙ of f.strings
      where
        of : (o : Option Strings) → [] ≡ strings_bytes (strings_of f [] o)
        of None = refl
        of (Some s) = refl
    strings_come device (n ∷ named) b small e = of f.strings refl
      where
        all : List ℕ
        all = n ∷ named

        list : List ℕ
        list = unwrap_or (part kept (beside device 768)) []

        first : Begins (beside device 768) (flat_map (strings_in device all) (codes_in (drop 2 list))) b
        first = begins (beside device 768) (flat_map (strings_in device all) (codes_in (drop 2 list))) b e

        there : string_at f.strings (named_indices f) 0 0 ≡ Some first.one
        there = part_is (beside device 768) first.one first.one_is

        of : (o : Option Strings) → f.strings ≡ o → b ≡ strings_bytes (strings_of f all f.strings)
        of None is = absurd (let e : None ≡ Some first.one = sym (ap (λ o. string_at o (named_indices f) 0 0) is) ∙ there in let w : ⊥ = cc in w)
        of (Some s) is =
            let one : first.one ≡ units_bytes s.languages = some_same (units_bytes s.languages) first.one (sym (ap (λ o. string_at o (named_indices f) 0 0) is) ∙ there) in
            let whole : list ≡ units_bytes s.languages = ap (λ o. unwrap_or o []) first.one_is ∙ one in
            let codes : codes_in (drop 2 list) ≡ s.languages = ap (λ l. codes_in (drop 2 l)) whole ∙ codes_back s.languages in
            let rest = languages_come device s is all s.languages first.rest small (ap (λ ls. parts kept (flat_map (strings_in device all) ls)) (sym codes) ∙ first.rest_is) in
            first.joins ∙ ap₂ ◌++◌ one rest ∙ sym (ap (λ o. strings_bytes (strings_of f all o)) is)

    -- ---- the file

    all_left : (xs ys : List ℕ) → AreBytes (xs ++ ys) → AreBytes xs
    all_left [] ys each = tt
    all_left (x ∷ xs) ys each = (each.0, all_left xs ys each.1)

    all_right : (xs ys : List ℕ) → AreBytes (xs ++ ys) → AreBytes ys
    all_right [] ys each = each
    all_right (x ∷ xs) ys each = all_right xs ys each.1

    module _ (fits : AreBytes (file_bytes f)) (right : has_wrong_sets f ≡ false) where
      sets_right : (has_wrong_count f ≡ false) × (has_wrong_layout f ≡ false)
      unfolding has_wrong_sets
      sets_right =
          let both = or_parts (has_wrong_count f || has_wrong_kind f) (has_wrong_layout f) right in ((or_parts (has_wrong_count f) (has_wrong_kind f) both.0).0, both.1)

      counted : (m n : ℕ) → not (m == n) ≡ false → m ≡ n
      counted m n e = grind (arith, nat_tests)

      pub own_count : length f.sets ≡ f.device.configurations
      own_count = counted (length f.sets) f.device.configurations (or_parts (not (length f.sets == f.device.configurations)) (is_other_miscounted f.other) sets_right.0).0

      pub other_count : (o : Other) → f.other ≡ Some o → length o.sets ≡ o.qualifier.configurations
      other_count o is =
          counted (length o.sets) o.qualifier.configurations
          (sym (ap is_other_miscounted is) ∙ (or_parts (not (length f.sets == f.device.configurations)) (is_other_miscounted f.other) sets_right.0).1)

      own_few : f.device.configurations < 256
      own_few = byte_at (file_bytes f) 17 fits

      other_few : (o : Other) → f.other ≡ Some o → o.qualifier.configurations < 256
      other_few o is =
          byte_at (other_bytes (Some o)) 8
          (subst (λ x. AreBytes (other_bytes x)) is
          (all_right (device_bytes f.device ++ sets_bytes f.sets) (other_bytes f.other)
          (all_left ((device_bytes f.device ++ sets_bytes f.sets) ++ other_bytes f.other) (strings_bytes f.strings) fits)))

      module _ (device : Asked) (d : List ℕ) (is : IsDescriptor kept device d) where
        device_is : d ≡ device_bytes f.device
        device_is = some_same (device_bytes f.device) d (part_is (beside device 256) d is.0)

        pub dump_is : (b : List ℕ) → parts kept (dump_parts device d) ≡ Some b → b ≡ device_bytes f.device ++ sets_bytes f.sets
        dump_is b e =
            let count : slice_index d 17 ≡ length f.sets = ap (λ x. slice_index x 17) device_is ∙ sym own_count in
            let first = begins (beside device 256) (configurations device 512 (length f.sets)) b
            (ap (λ n. parts kept (beside device 256 ∷ configurations device 512 n)) (sym count) ∙ e) in
            let one : first.one ≡ device_bytes f.device = some_same (device_bytes f.device) first.one (part_is (beside device 256) first.one first.one_is) in
            first.joins ∙ ap₂ ◌++◌ one (sets_come device 512 f.sets (own_at device) 0 f.sets first.rest (omega (arith, own_few, own_count)) refl first.rest_is)

        abbrev pub other_if : Bool → Option Other
        other_if came = if came then f.other else None

        pub other_is : (b : List ℕ) → parts kept (other_parts device (part kept (beside device 1536))) ≡ Some b → b ≡ other_bytes (other_if (has_qualifier kept device))
        other_is b e = of (part kept (beside device 1536)) refl e
          where
            of : (q : Option (List ℕ)) → part kept (beside device 1536) ≡ q → parts kept (other_parts device q) ≡ Some b → b ≡ other_bytes (other_if (is_some q))
            of None so e = some_same [] b e
            of (Some q) so e = by f.other refl (part_is (beside device 1536) q so)
              where
                first : Begins (beside device 1536) (configurations device 1792 (slice_index q 8)) b
                first = begins (beside device 1536) (configurations device 1792 (slice_index q 8)) b e

                by : (o : Option Other) → f.other ≡ o → qualifier_of f.other 0 ≡ Some q → b ≡ other_bytes f.other
                by None at there = absurd (let e : None ≡ Some q = sym (ap (λ o. qualifier_of o 0) at) ∙ there in let w : ⊥ = cc in w)
                by (Some o) at there =
                    let whole : q ≡ qualifier_bytes o.qualifier = some_same (qualifier_bytes o.qualifier) q (sym (ap (λ o. qualifier_of o 0) at) ∙ there) in
                    let count : slice_index q 8 ≡ length o.sets = ap (λ x. slice_index x 8) whole ∙ sym (other_count o at) in
                    let one : first.one ≡ qualifier_bytes o.qualifier = some_same q first.one (sym so ∙ first.one_is) ∙ whole in
                    let rest : first.rest ≡ sets_bytes o.sets = sets_come device 1792 o.sets (other_at device o at) 0 o.sets first.rest (omega (arith, other_few o at, other_count o at)) refl
                    (ap (λ n. parts kept (configurations device 1792 n)) (sym count) ∙ first.rest_is) in
                    first.joins ∙ ap₂ ◌++◌ one rest ∙ sym (ap other_bytes at)

        -- without strings
        abbrev pub front_file : DescriptorFile
        front_file = without_strings (all_with (has_qualifier kept device)) f

        pub layouts_right : has_wrong_layout front_file ≡ false
        layouts_right = of (has_qualifier kept device) (or_parts (list_any has_no_layout f.sets) (list_any has_no_layout (other_sets f.other)) sets_right.1)
          where
            of : (came : Bool) → (list_any has_no_layout f.sets ≡ false) × (list_any has_no_layout (other_sets f.other) ≡ false)
                → (list_any has_no_layout f.sets || list_any has_no_layout (other_sets (other_if came))) ≡ false
            of true both = ap (λ c. c || list_any has_no_layout (other_sets f.other)) both.0 ∙ both.1
            of false both = ap (λ c. c || false) both.0

        filter_small : (test : ℕ → Bool) (from count : ℕ) → 0 < from → from + count ≤ 256 → AllByRecursion IsIndex (filter test (range_with_len from count))
        filter_small test from zero some few = tt
        filter_small test from (suc count) some few = of (test from) (filter_small test (from + 1) count (omega arith) (omega (arith, few)))
          where
            of : (c : Bool) → AllByRecursion IsIndex (filter test (range_with_len (from + 1) count))
                → AllByRecursion IsIndex (if c then from ∷ filter test (range_with_len (from + 1) count) else filter test (range_with_len (from + 1) count))
            of true later = ((some, omega (arith, few)), later)
            of false later = later

        pub indices_small : (g : DescriptorFile) → AllByRecursion IsIndex (named_indices g)
        unfolding named_among
        indices_small g = filter_small (λ n. list_any (λ index. index == n) (string_indices g)) 1 255 (omega arith) (omega arith)

        pub record FileParts (b : List ℕ) : Type 0 where
          pub dump : List ℕ
          pub other : List ℕ
          pub strings : List ℕ
          pub dump_so : parts kept (dump_parts device d) ≡ Some dump
          pub other_so : parts kept (other_parts device (part kept (beside device 1536))) ≡ Some other
          pub strings_so : string_bytes kept device (dump ++ other) ≡ Some strings
          pub joins : b ≡ (dump ++ other) ++ strings

        file_parts : (b : List ℕ) → made.file_bytes kept device d ≡ Some b → FileParts b
        file_parts b e = of (parts kept (dump_parts device d)) (parts kept (other_parts device (part kept (beside device 1536)))) refl refl e
          where
            of : (x y : Option (List ℕ)) → parts kept (dump_parts device d) ≡ x → parts kept (other_parts device (part kept (beside device 1536))) ≡ y
                → option_and_then (λ sets. option_map (λ strings. sets ++ strings) (string_bytes kept device sets)) (option_and_then (λ main. option_map (λ other. main ++ other) y) x) ≡ Some b
                → FileParts b
            of None y is so e = absurd (let w : ⊥ = cc in w)
            of (Some dump) None is so e = absurd (let w : ⊥ = cc in w)
            of (Some dump) (Some other) is so e = by (string_bytes kept device (dump ++ other)) refl e
              where
                by : (z : Option (List ℕ)) → string_bytes kept device (dump ++ other) ≡ z → option_map (λ strings. (dump ++ other) ++ strings) z ≡ Some b → FileParts b
                by None at e = absurd (let w : ⊥ = cc in w)
                by (Some strings) at e = record {
                  dump = dump;
                  other = other;
                  strings = strings;
                  dump_so = is;
                  other_so = so;
                  strings_so = at;
                  joins = some_same ((dump ++ other) ++ strings) b e;
                }

        pub file_is : (b : List ℕ) → made.file_bytes kept device d ≡ Some b → b ≡ file_bytes (asked_file (all_with (has_qualifier kept device)) f)
        file_is b e =
            let whole = file_parts b e in
            let g = front_file in
            let first : whole.dump ++ whole.other ≡ (device_bytes f.device ++ sets_bytes f.sets) ++ other_bytes g.other =
            ap₂ ◌++◌ (dump_is whole.dump whole.dump_so) (other_is whole.other whole.other_so) in
            let joined : whole.dump ++ whole.other ≡ front_bytes g = first ∙ append_assoc (device_bytes f.device) (sets_bytes f.sets) (other_bytes g.other) in
            let names : named_by (whole.dump ++ whole.other) ≡ named_indices g = ap named_by joined ∙ named_same g layouts_right in
            let texts : whole.strings ≡ strings_bytes (strings_of f (named_indices g) f.strings) =
            strings_come device (named_indices g) whole.strings (indices_small g)
            (ap (λ named. parts kept (string_parts device named (unwrap_or (part kept (beside device 768)) []))) (sym names) ∙ whole.strings_so) in
            whole.joins ∙ ap₂ ◌++◌ first texts
