-- What a host has read at a place of its order is kept in a recording.
use Rattle.std.proofs.Common.{◌≡◌, ◌⊎◌, inl, inr, ◌==◌, ◌&&◌, ◌||◌, ◌<◌, ◌+◌, ◌*◌, ◌/◌, nat_lt, ℕ, Bool, true, false, not, if◌then◌else◌, List, [], ◌∷◌, ◌++◌, length, take, refl, sym, ◌∙◌, ap, subst, arith, length-append}
use Rattle.std.specs.Prelude.{Option, Some, None, slice_index}
use Rattle.std.proofs.lemmas.Bool.Decides.{nat_tests}
use Rattle.std.proofs.lemmas.List.{get_or_append_left}
use Rattle.usb_fields.specs.Bytes.{little_endian_at}
use Rattle.usb_fields.specs.declared.device.DeviceDescriptor.{DeviceDescriptor}
use Rattle.usb_fields.specs.declared.qualifier.Qualifier.{Qualifier}
use Rattle.usb_fields.specs.Units.{units_bytes}
use Rattle.usb_fields.proofs.UnitLemmas.{length-flat_map}
use Rattle.usb_set.specs.declared.tree.Configuration.{Configuration}
use Rattle.usb_set.specs.declared.tree.SetKind.{SetKind}
use Rattle.usb_set.specs.declared.tree.SetKind.TheVariants as kinds
use Rattle.usb_set.specs.Descriptors.{type_number}
use Rattle.usb_file_data.specs.declared.file.DescriptorFile.{DescriptorFile}
use Rattle.usb_file_data.specs.declared.file.Other.{Other}
use Rattle.usb_file_data.specs.declared.file.Strings.{Strings}
use Rattle.usb_file_data.specs.File.{named_indices, other_sets}
use Rattle.usb_file_data.specs.Front.{other_with, with_set, with_qualifier, with_strings}
use Rattle.usb_host.specs.declared.choice.Terms.{Terms}
use Rattle.usb_host.specs.Keeping as kept
use Rattle.usb_host.specs.Keeping.{Kept, set_kept}
use Rattle.usb_host.specs.Order.{after_sets, bytes_lead, declared_sets, device_leads, done_leads, header_leads, index_due, is_first_zero, language_due, languages_lead, qualifier_leads, refused_leads, set_leads, sets_due, sets_of, stopped, strings_due, text_leads, texts_due}
use Rattle.usb_host.specs.declared.why.Why.TheVariants.{Malformed}
use Rattle.usb_host.specs.Place.{Place, First, Address, Device, Header, Set, Qualifier as SecondSpeed, Languages, Text, Configure, Reported, Stopped}
use Rattle.usb_host.specs.Read.{device_of, get_descriptor, is_first, may_have_second, qualifier_of, same_bytes, total_in, total_said, units_of}
use Rattle.usb_host.specs.Steps.{read_leads}
use Rattle.usb_host.specs.Terms.{is_asked}
use Rattle.usb_host.proofs.ReadLemmas.{device_written, qualifier_written, units_written}
use Rattle.usb_capture.specs.declared.control_transfer.ControlTransfer.{ControlTransfer}
use Rattle.usb_capture.specs.Readings.{is_whole}
use Rattle.usb_recorded_runs.proofs.AnswerLemmas.{described_by}
use Rattle.usb_recorded_runs.proofs.FollowLemmas.{SameBytes}
use Rattle.usb_recorded_runs.proofs.KeptParts.{Has, at_address}
use Rattle.usb_recorded_runs.proofs.RequestedLemmas.{IsLong}
use Rattle.usb_recorded_runs.proofs.SizeLemmas.{IsFront}

-- ---- the descriptors of a file

module _ (f : DescriptorFile) (address : ℕ) where
  module _ (K : List ControlTransfer) where
    -- The descriptor of this wValue and this wIndex came.
    abbrev pub Read : ℕ → ℕ → Type 0
    Read value index = Has K (at_address address value index)

    abbrev pub HasOther : Option Other → Type 0
    HasOther None = Unit {0}
    HasOther (Some o) = Read 1536 0 × ((i : ℕ) → i < length o.sets → Read (1792 + i) 0)

    pub record HasFile (g : DescriptorFile) : Type 0 where
      pub device : Read 256 0
      pub sets : (i : ℕ) → i < length g.sets → Read (512 + i) 0
      pub other : HasOther g.other

    pub record HasTexts (named : List ℕ) (s : Strings) : Type 0 where
      pub list : Read 768 0
      pub texts : (k : ℕ) → k < length s.texts → Read (768 + index_due named k) (language_due s.languages named k)

    abbrev pub HasStrings : List ℕ → Option Strings → Type 0
    HasStrings named None = Unit {0}
    HasStrings named (Some s) = HasTexts named s

    abbrev pub Before : DescriptorFile → Type 0
    Before g = HasFile g × (g.strings ≡ None)

    -- the set that is read next, as its header says
    pub record IsSet (kind : SetKind) (index total : ℕ) : Type 0 where
      pub type_is : slice_index (described_by f (get_descriptor (type_number kind) index 0 0)) 1 ≡ type_number kind
      pub total_is : little_endian_at (described_by f (get_descriptor (type_number kind) index 0 0)) 2 ≡ total

    abbrev pub HasParts : Place → Type 0
    HasParts First = Unit {0}
    HasParts (Address early) = Unit {0}
    HasParts (Device early) = Unit {0}
    HasParts (Header kind g) = Before g
    HasParts (Set kind g total) = Before g × IsSet kind (length (sets_of kind g)) total
    HasParts (SecondSpeed g) = Before g
    HasParts (Languages g named) = Before g × (named ≡ named_indices g)
    HasParts (Text g s named) = Before g × (named ≡ named_indices g) × HasTexts named s
    HasParts (Configure g) = HasFile g × HasStrings (named_indices g) g.strings
    HasParts (Reported g) = HasFile g × HasStrings (named_indices g) g.strings
    HasParts (Stopped trouble) = Unit {0}

    either_parts : (c : Bool) (x y : Place) → HasParts x → HasParts y → HasParts (if c then x else y)
    either_parts true x y p q = p
    either_parts false x y p q = q

    texts_parts : (g : DescriptorFile) (s : Strings) (named : List ℕ) → Before g → named ≡ named_indices g → HasTexts named s → HasParts (texts_due g s named)
    texts_parts g s named before same texts =
        either_parts (nat_lt (length s.texts) (length s.languages * length named)) (Text g s named) (Configure (with_strings s g)) (before, same, texts)
        (record { device = before.0.device; sets = before.0.sets; other = before.0.other }, subst (λ n. HasTexts n s) same texts)

    strings_parts : (terms : Terms) (g : DescriptorFile) → Before g → HasParts (strings_due terms g)
    strings_parts terms g before =
        either_parts (not (is_asked terms.choice.strings) || (length (named_indices g) == 0)) (Configure g) (Languages g (named_indices g))
        (before.0, subst (HasStrings (named_indices g)) (sym before.1) tt) (before, refl)

    after_parts : (terms : Terms) (kind : SetKind) (g : DescriptorFile) → Before g → HasParts (after_sets terms kind g)
    after_parts terms kinds.Configuration g before =
        either_parts (terms.choice.other_speed && may_have_second terms.speed g.device) (SecondSpeed g) (strings_due terms g) before (strings_parts terms g before)
    after_parts terms kinds.OtherSpeed g before = strings_parts terms g before

    sets_parts : (terms : Terms) (kind : SetKind) (g : DescriptorFile) → Before g → HasParts (sets_due terms kind g)
    sets_parts terms kind g before =
        either_parts (nat_lt (length (sets_of kind g)) (declared_sets kind g)) (Header kind g) (after_sets terms kind g) before (after_parts terms kind g before)

    -- one set more
    last_or_before : (i n : ℕ) → i < n + 1 → (i < n) ⊎ (i ≡ n)
    last_or_before i n less = by (nat_lt i n) refl
      where
        by : (c : Bool) → nat_lt i n ≡ c → (i < n) ⊎ (i ≡ n)
        by true e = inl (let w : i < n = grind (arith, nat_tests) in w)
        by false e = inr (let w : i ≡ n = grind (arith, nat_tests, less) in w)

    one_more : (base : ℕ) (sets : List Configuration) (c : Configuration) → ((i : ℕ) → i < length sets → Read (base + i) 0) → Read (base + length sets) 0
        → (i : ℕ) → i < length (sets ++ c ∷ []) → Read (base + i) 0
    one_more base sets c before new i less = of (last_or_before i (length sets) (omega (arith, less, length-append sets (c ∷ []))))
      where
        of : (i < length sets) ⊎ (i ≡ length sets) → Read (base + i) 0
        of (inl old) = before i old
        of (inr last) = subst (λ n. Read (base + n) 0) (sym last) new

    with_set_parts : (kind : SetKind) (c : Configuration) (g : DescriptorFile) → Before g → Read (type_number kind * 256 + length (sets_of kind g)) 0 → Before (with_set kind c g)
    with_set_parts kinds.Configuration c g before new =
        (record { device = before.0.device; sets = one_more 512 g.sets c before.0.sets new; other = before.0.other }, before.1)
    with_set_parts kinds.OtherSpeed c g before new = (record { device = before.0.device; sets = before.0.sets; other = of g.other refl before.0.other }, before.1)
      where
        of : (o : Option Other) → g.other ≡ o → HasOther o → HasOther (other_with c o)
        of None e has = tt
        of (Some o) e has = (has.0, one_more 1792 o.sets c has.1 (subst (λ x. Read (1792 + length (other_sets x)) 0) e new))

  -- ---- what was kept stays

  module _ (K L : List ControlTransfer) (stays : (value index : ℕ) → Read K value index → Read L value index) where
    file_stays : (g : DescriptorFile) → HasFile K g → HasFile L g
    file_stays g has = record { device = stays 256 0 has.device; sets = λ i less. stays (512 + i) 0 (has.sets i less); other = of g.other has.other }
      where
        of : (o : Option Other) → HasOther K o → HasOther L o
        of None other = tt
        of (Some o) other = (stays 1536 0 other.0, λ i less. stays (1792 + i) 0 (other.1 i less))

    texts_stay : (named : List ℕ) (s : Strings) → HasTexts K named s → HasTexts L named s
    texts_stay named s has = record { list = stays 768 0 has.list; texts = λ k less. stays (768 + index_due named k) (language_due s.languages named k) (has.texts k less) }

    strings_stay : (named : List ℕ) (o : Option Strings) → HasStrings K named o → HasStrings L named o
    strings_stay named None has = tt
    strings_stay named (Some s) has = texts_stay named s has

    before_stays : (g : DescriptorFile) → Before K g → Before L g
    before_stays g before = (file_stays g before.0, before.1)

    pub parts_stay : (place : Place) → HasParts K place → HasParts L place
    parts_stay First has = tt
    parts_stay (Address early) has = tt
    parts_stay (Device early) has = tt
    parts_stay (Header kind g) has = before_stays g has
    parts_stay (Set kind g total) has = (before_stays g has.0, record { type_is = has.1.type_is; total_is = has.1.total_is })
    parts_stay (SecondSpeed g) has = before_stays g has
    parts_stay (Languages g named) has = (before_stays g has.0, has.1)
    parts_stay (Text g s named) has = (before_stays g has.0, has.1, texts_stay named s has.2)
    parts_stay (Configure g) has = (file_stays g has.0, strings_stay (named_indices g) g.strings has.1)
    parts_stay (Reported g) has = (file_stays g has.0, strings_stay (named_indices g) g.strings has.1)
    parts_stay (Stopped trouble) has = tt

  pub done_parts : (K : List ControlTransfer) (place : Place) → HasParts K place → HasParts K (done_leads place)
  done_parts K (Address early) has = tt
  done_parts K (Configure g) has = has
  done_parts K First has = tt
  done_parts K (Device early) has = tt
  done_parts K (Header kind g) has = tt
  done_parts K (Set kind g total) has = tt
  done_parts K (SecondSpeed g) has = tt
  done_parts K (Languages g named) has = tt
  done_parts K (Text g s named) has = tt
  done_parts K (Reported g) has = tt
  done_parts K (Stopped trouble) has = tt

  pub refused_parts : (K : List ControlTransfer) (terms : Terms) (place : Place) → HasParts K place → HasParts K (refused_leads terms place)
  refused_parts K terms (SecondSpeed g) has = strings_parts K terms g has
  refused_parts K terms First has = tt
  refused_parts K terms (Address early) has = tt
  refused_parts K terms (Device early) has = tt
  refused_parts K terms (Header kind g) has = tt
  refused_parts K terms (Set kind g total) has = tt
  refused_parts K terms (Languages g named) has = tt
  refused_parts K terms (Text g s named) has = tt
  refused_parts K terms (Configure g) has = tt
  refused_parts K terms (Reported g) has = tt
  refused_parts K terms (Stopped trouble) has = tt

  -- ---- a read that has completed with these bytes

  -- what a place asks for
  abbrev pub asks_for : Place → ℕ × ℕ
  asks_for First = (256, 0)
  asks_for (Address early) = (0, 0)
  asks_for (Device early) = (256, 0)
  asks_for (Header kind g) = (type_number kind * 256 + length (sets_of kind g), 0)
  asks_for (Set kind g total) = (type_number kind * 256 + length (sets_of kind g), 0)
  asks_for (SecondSpeed g) = (1536, 0)
  asks_for (Languages g named) = (768, 0)
  asks_for (Text g s named) = (768 + index_due named (length s.texts), language_due s.languages named (length s.texts))
  asks_for (Configure g) = (0, 0)
  asks_for (Reported g) = (0, 0)
  asks_for (Stopped trouble) = (0, 0)

  -- It is a descriptor of the device at its address.
  abbrev pub IsOfDevice : Place → Type 0
  IsOfDevice First = ⊥
  IsOfDevice (Address early) = ⊥
  IsOfDevice (Configure g) = ⊥
  IsOfDevice (Reported g) = ⊥
  IsOfDevice (Stopped trouble) = ⊥
  IsOfDevice place = Unit {0}

  module _ (L : List ControlTransfer) (terms : Terms) where
    and_all : (a b c : Bool) → a ≡ true → b ≡ true → c ≡ true → (a && b && c) ≡ true
    and_all true true true x y z = refl
    and_all false b c x y z = absurd (let w : ⊥ = cc in w)
    and_all true false c x y z = absurd (let w : ⊥ = cc in w)
    and_all true true false x y z = absurd (let w : ⊥ = cc in w)

    above : (least n : ℕ) → least < n → nat_lt least n ≡ true
    above least n more = grind (arith, nat_tests)

    same_so : (m n : ℕ) → m ≡ n → (m == n) ≡ true
    same_so m n e = grind (arith, nat_tests)

    whole_units : (u : List ℕ) → is_whole 3 (units_bytes u) ≡ true
    whole_units u =
        and_all (nat_lt 1 (length (units_bytes u))) true (length (units_bytes u) == 2 + 2 * length u) (above 1 (length (units_bytes u)) (omega arith)) refl
        (same_so (length (units_bytes u)) (2 + 2 * length u) (omega (arith, length-flat_map u)))

    device_parts : (early b : List ℕ) (o : Option DeviceDescriptor) → device_of b ≡ o → (is_whole 1 b ≡ true → Read L 256 0) → HasParts L (device_leads terms (Device early) early b o)
    device_parts early b None e came = tt
    device_parts early b (Some d) e came =
        let g : DescriptorFile = record { device = d; sets = []; other = None; strings = None } in
        either_parts L (same_bytes (take 8 b) early && not (d.configurations == 0)) (sets_due terms kinds.Configuration g) _
        (sets_parts L terms kinds.Configuration g
        (record { device = came (ap (is_whole 1) (device_written b d e)); sets = λ i less. absurd (let w : ⊥ = omega (arith, less) in w); other = tt }, refl)) tt

    said_type : (kind count length_said kind_said total n : ℕ) → total_said kind count length_said kind_said total ≡ Some n → (count ≡ 9) × (kind_said ≡ kind) × (total ≡ n)
    said_type kind count length_said kind_said total n e = of (count == 9) (nat_lt 8 length_said) (kind_said == kind) (nat_lt total length_said) refl refl e
      where
        same : (a b : ℕ) → (a == b) ≡ true → a ≡ b
        same a b e = grind (arith, nat_tests)

        of : (nine long type less : Bool) → (count == 9) ≡ nine → (kind_said == kind) ≡ type → (if nine && long && type && not less then Some total else None) ≡ Some n
            → (count ≡ 9) × (kind_said ≡ kind) × (total ≡ n)
        of true true true false a b e = (same count 9 a, same kind_said kind b, (let w : total ≡ n = cc in w))
        of nine long type less a b e = absurd (let w : ⊥ = cc in w)

    front_at : (front all : List ℕ) → IsFront front all → (i : ℕ) → i < length front → slice_index front i ≡ slice_index all i
    front_at front all is i low = sym (get_or_append_left front is.0 0 i low) ∙ ap (λ z. slice_index z i) is.1

    header_parts : (kind : SetKind) (g : DescriptorFile) (b : List ℕ) (o : Option ℕ) → total_in (type_number kind) b ≡ o → Before L g
        → IsFront b (described_by f (get_descriptor (type_number kind) (length (sets_of kind g)) 0 0)) → HasParts L (header_leads (Header kind g) kind g o)
    header_parts kind g b None e before front = tt
    header_parts kind g b (Some total) e before front =
        let said = said_type (type_number kind) (length b) (slice_index b 0) (slice_index b 1) (little_endian_at b 2) total e in
        let all = described_by f (get_descriptor (type_number kind) (length (sets_of kind g)) 0 0) in
        let at = front_at b all front in (
          before,
          record {
            type_is = sym (at 1 (omega (arith, said.0))) ∙ said.1;
            total_is = omega (arith, at 2 (omega (arith, said.0)), at 3 (omega (arith, said.0)), said.2);
          },
        )

    set_parts : (kind : SetKind) (g : DescriptorFile) (total count : ℕ) (o : Option Configuration) (b : List ℕ) → length b ≡ count → Before L g → IsSet L kind (length (sets_of kind g)) total → 8 < total
        → IsFront b (described_by f (get_descriptor (type_number kind) (length (sets_of kind g)) 0 0)) → (is_whole (type_number kind) b ≡ true → Read L (type_number kind * 256 + length (sets_of kind g)) 0)
        → HasParts L (set_leads terms (Set kind g total) kind g total count o)
    set_parts kind g total count None b is before known long front came = tt
    set_parts kind g total count (Some c) b is before known long front came =
        of (count == total) (type_number c.kind == type_number kind) (not (is_first_zero kind (sets_of kind g) c)) refl
      where
        all : List ℕ
        all = described_by f (get_descriptor (type_number kind) (length (sets_of kind g)) 0 0)

        same : (a b : ℕ) → (a == b) ≡ true → a ≡ b
        same a b e = grind (arith, nat_tests)

        full : (kind : SetKind) → length b ≡ little_endian_at b 2 → slice_index b 1 ≡ type_number kind → 3 < length b → is_whole (type_number kind) b ≡ true
        full kinds.Configuration size type some = and_all (nat_lt 3 (length b)) (slice_index b 1 == 2) (length b == little_endian_at b 2) (above 3 (length b) some) (same_so (slice_index b 1) 2 type) (same_so (length b) (little_endian_at b 2) size)
        full kinds.OtherSpeed size type some = and_all (nat_lt 3 (length b)) (slice_index b 1 == 7) (length b == little_endian_at b 2) (above 3 (length b) some) (same_so (slice_index b 1) 7 type) (same_so (length b) (little_endian_at b 2) size)

        whole : count ≡ total → is_whole (type_number kind) b ≡ true
        whole e =
            let at = front_at b all front in
            full kind (omega (arith, is, e, known.total_is, at 2 (omega (arith, is, e, long)), at 3 (omega (arith, is, e, long)))) (at 1 (omega (arith, is, e, long)) ∙ known.type_is) (omega (arith, is, e, long))

        of : (all_there type some : Bool) → (count == total) ≡ all_there
            → HasParts L (if all_there && type && some then sets_due terms kind (with_set kind c g) else stopped (Set kind g total) Malformed)
        of true true true e = sets_parts L terms kind (with_set kind c g) (with_set_parts L kind c g before (came (whole (same count total e))))
        of true true false e = tt
        of true false some e = tt
        of false type some e = tt

    qualifier_parts : (g : DescriptorFile) (b : List ℕ) (o : Option Qualifier) → qualifier_of b ≡ o → Before L g → (is_whole 6 b ≡ true → Read L 1536 0)
        → HasParts L (qualifier_leads terms (SecondSpeed g) g o)
    qualifier_parts g b None e before came = tt
    qualifier_parts g b (Some q) e before came =
        sets_parts L terms kinds.OtherSpeed (with_qualifier q g) (
          record {
            device = before.0.device;
            sets = before.0.sets;
            other = (came (ap (is_whole 6) (qualifier_written b q e)), λ i less. absurd (let w : ⊥ = omega (arith, less) in w));
          },
          before.1,
        )

    languages_parts : (g : DescriptorFile) (named b : List ℕ) (o : Option (List ℕ)) → units_of b ≡ o → Before L g → named ≡ named_indices g → (is_whole 3 b ≡ true → Read L 768 0)
        → HasParts L (languages_lead (Languages g named) g named o)
    languages_parts g named b None e before same came = tt
    languages_parts g named b (Some []) e before same came = tt
    languages_parts g named b (Some (l ∷ ls)) e before same came =
        texts_parts L g (record { languages = l ∷ ls; texts = [] }) named before same
        (record { list = came (ap (is_whole 3) (units_written b (l ∷ ls) e).0 ∙ whole_units (l ∷ ls)); texts = λ k less. absurd (let w : ⊥ = omega (arith, less) in w) })

    text_parts : (g : DescriptorFile) (s : Strings) (named b : List ℕ) (o : Option (List ℕ)) → units_of b ≡ o → Before L g → named ≡ named_indices g → HasTexts L named s
        → (is_whole 3 b ≡ true → Read L (768 + index_due named (length s.texts)) (language_due s.languages named (length s.texts))) → HasParts L (text_leads (Text g s named) g s named o)
    text_parts g s named b None e before same texts came = tt
    text_parts g s named b (Some u) e before same texts came =
        texts_parts L g (record s { texts = s.texts ++ u ∷ [] }) named before same (record { list = texts.list; texts = λ k less. of k (last_or_before L k (length s.texts) (omega (arith, less, length-append s.texts (u ∷ [])))) })
      where
        of : (k : ℕ) → (k < length s.texts) ⊎ (k ≡ length s.texts) → Read L (768 + index_due named k) (language_due s.languages named k)
        of k (inl old) = texts.texts k old
        of k (inr last) = subst (λ n. Read L (768 + index_due named n) (language_due s.languages named n)) (sym last) (came (ap (is_whole 3) (units_written b u e).0 ∙ whole_units u))

    -- what came is a front of the descriptor that the place asks for, and is kept if it is all of it
    abbrev pub Fits : Place → List ℕ → Type 0
    Fits (Header kind g) b = IsFront b (described_by f (get_descriptor (type_number kind) (length (sets_of kind g)) 0 0))
    Fits (Set kind g total) b = IsFront b (described_by f (get_descriptor (type_number kind) (length (sets_of kind g)) 0 0))
    Fits place b = Unit {0}

    abbrev pub IsKept : Place → List ℕ → Type 0
    IsKept place b = IsOfDevice place → is_whole ((asks_for place).0 / 256) b ≡ true → Read L (asks_for place).0 (asks_for place).1

    -- The second byte is the type that was asked for.
    abbrev pub HasType : Place → List ℕ → Type 0
    HasType place b = IsOfDevice place → 1 < length b → slice_index b 1 ≡ (asks_for place).0 / 256

    record WholeParts (some type all : Bool) : Type 0 where
      has_some : some ≡ true
      of_type : type ≡ true

    whole_parts : (some type all : Bool) → (some && type && all) ≡ true → WholeParts some type all
    whole_parts true true true e = record { has_some = refl; of_type = refl }
    whole_parts some type all e = absurd (let w : ⊥ = cc in w)

    kept_as : (place : Place) (b : List ℕ) (type : ℕ) (set all : Bool) → IsOfDevice place → HasType place b → IsKept place b
        → is_whole type b ≡ (nat_lt (if set then 3 else 1) (length b) && slice_index b 1 == type && all)
        → is_whole type b ≡ true → Read L (asks_for place).0 (asks_for place).1
    kept_as place b type set all of typed came is whole =
        let known = whole_parts (nat_lt (if set then 3 else 1) (length b)) (slice_index b 1 == type) all (sym is ∙ whole) in
        let same : (asks_for place).0 / 256 ≡ type = sym (typed of (more set (length b) known.has_some)) ∙ so (slice_index b 1) type known.of_type in
        came of (ap (λ k. is_whole k b) same ∙ whole)
      where
        more : (set : Bool) (n : ℕ) → nat_lt (if set then 3 else 1) n ≡ true → 1 < n
        more true n e = grind (arith, nat_tests)
        more false n e = grind (arith, nat_tests)

        so : (m n : ℕ) → (m == n) ≡ true → m ≡ n
        so m n e = grind (arith, nat_tests)

    bytes_parts : (place : Place) (b : List ℕ) → HasParts L place → Fits place b → HasType place b → IsKept place b → HasParts L (bytes_lead terms place b)
    bytes_parts First b has fits typed came = either_parts L (is_first terms.speed b) (Address b) _ tt tt
    bytes_parts (Address early) b has fits typed came = tt
    bytes_parts (Device early) b has fits typed came = device_parts early b (device_of b) refl (kept_as (Device early) b 1 false _ tt typed came refl)
    bytes_parts (Header kind g) b has fits typed came = header_parts kind g b (total_in (type_number kind) b) refl has fits
    bytes_parts (Set kind g total) b has fits typed came = tt
    bytes_parts (SecondSpeed g) b has fits typed came = qualifier_parts g b (qualifier_of b) refl has (kept_as (SecondSpeed g) b 6 false _ tt typed came refl)
    bytes_parts (Languages g named) b has fits typed came = languages_parts g named b (units_of b) refl has.0 has.1 (kept_as (Languages g named) b 3 false _ tt typed came refl)
    bytes_parts (Text g s named) b has fits typed came = text_parts g s named b (units_of b) refl has.0 has.1 has.2 (kept_as (Text g s named) b 3 false _ tt typed came refl)
    bytes_parts (Configure g) b has fits typed came = tt
    bytes_parts (Reported g) b has fits typed came = tt
    bytes_parts (Stopped trouble) b has fits typed came = tt

    set_read_parts : (kind : SetKind) (g : DescriptorFile) (total count : ℕ) (o : Option Configuration) (b : List ℕ) → length b ≡ count → HasParts L (Set kind g total) → 8 < total
        → Fits (Set kind g total) b → HasType (Set kind g total) b → IsKept (Set kind g total) b → HasParts L (set_leads terms (Set kind g total) kind g total count o)
    set_read_parts kinds.Configuration g total count o b is has long fits typed came =
        set_parts kinds.Configuration g total count o b is has.0 has.1 long fits (kept_as (Set kinds.Configuration g total) b 2 true _ tt typed came refl)
    set_read_parts kinds.OtherSpeed g total count o b is has long fits typed came =
        set_parts kinds.OtherSpeed g total count o b is has.0 has.1 long fits (kept_as (Set kinds.OtherSpeed g total) b 7 true _ tt typed came refl)

    -- Where a read leads to, what it has read is kept.
    pub read_parts : (place : Place) (count : ℕ) (k : Kept) (b : List ℕ) → SameBytes k b → length b ≡ count → IsLong place → HasParts L place → Fits place b → HasType place b → IsKept place b
        → HasParts L (read_leads terms place count k)
    read_parts place count (kept.Bytes c) b same is long has fits typed came = subst (λ x. HasParts L (bytes_lead terms place x)) (sym same) (bytes_parts place b has fits typed came)
    read_parts (Set kind g total) count (kept.Set d over) b same is long has fits typed came = set_read_parts kind g total count (set_kept d over) b is has long fits typed came
    read_parts First count (kept.Set d over) b same is long has fits typed came = tt
    read_parts (Address early) count (kept.Set d over) b same is long has fits typed came = tt
    read_parts (Device early) count (kept.Set d over) b same is long has fits typed came = tt
    read_parts (Header kind g) count (kept.Set d over) b same is long has fits typed came = tt
    read_parts (SecondSpeed g) count (kept.Set d over) b same is long has fits typed came = tt
    read_parts (Languages g named) count (kept.Set d over) b same is long has fits typed came = tt
    read_parts (Text g s named) count (kept.Set d over) b same is long has fits typed came = tt
    read_parts (Configure g) count (kept.Set d over) b same is long has fits typed came = tt
    read_parts (Reported g) count (kept.Set d over) b same is long has fits typed came = tt
    read_parts (Stopped trouble) count (kept.Set d over) b same is long has fits typed came = tt
