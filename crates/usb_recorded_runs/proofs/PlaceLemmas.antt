-- A host that has read a device's packet size knows it at each later place.
use Rattle.std.proofs.Common.{◌≡◌, ◌==◌, ◌&&◌, ◌||◌, ◌*◌, not, nat_lt, ℕ, Bool, true, false, if◌then◌else◌, List, [], ◌∷◌, ◌++◌, length, take, refl, sym, ◌∙◌, ap, arith}
use Rattle.std.specs.Prelude.{Option, Some, None, slice_index}
use Rattle.std.proofs.lemmas.Bool.Decides.{nat_tests}
use Rattle.std.proofs.lemmas.List.{get_or-take}
use Rattle.usb_fields.specs.declared.device.DeviceDescriptor.{DeviceDescriptor}
use Rattle.usb_fields.specs.declared.qualifier.Qualifier.{Qualifier}
use Rattle.usb_fields.specs.Device.{device_bytes, device_of_bytes}
use Rattle.usb_set.specs.declared.tree.Configuration.{Configuration}
use Rattle.usb_set.specs.declared.tree.SetKind.{SetKind}
use Rattle.usb_set.specs.declared.tree.SetKind.TheVariants as kinds
use Rattle.usb_set.specs.Descriptors.{type_number}
use Rattle.usb_file_data.specs.declared.file.DescriptorFile.{DescriptorFile}
use Rattle.usb_file_data.specs.declared.file.Strings.{Strings}
use Rattle.usb_file_data.specs.File.{named_indices}
use Rattle.usb_file_data.specs.Front.{with_set, with_qualifier, with_strings}
use Rattle.usb_host.specs.declared.choice.NamedStrings.{NamedStrings}
use Rattle.usb_host.specs.declared.choice.Terms.{Terms}
use Rattle.usb_host.specs.Keeping as kept
use Rattle.usb_host.specs.Keeping.{Kept, set_kept}
use Rattle.usb_host.specs.Order.{after_sets, bytes_lead, declared_sets, device_leads, done_leads, header_leads, is_first_zero, is_spared, languages_lead, qualifier_leads, refused_leads, set_leads, sets_due, sets_of, spared, stand_in, strings_due, text_leads, texts_due}
use Rattle.usb_host.specs.Place.{Place, First, Address, Device, Header, Set, Qualifier as SecondSpeed, Languages, Text, Configure, Reported, Stopped}
use Rattle.usb_host.specs.Read.{device_of, may_have_second, packet_fits, qualifier_of, same_bytes, total_in, units_of}
use Rattle.usb_host.specs.Steps.{completed_leads, read_leads}
use Rattle.usb_host.specs.Terms.{is_asked}
use Rattle.usb_host.specs.Transfer.{TransferView}

module _ (size : ℕ) where
  -- what a place says of it
  abbrev pub KnowsSize : Place → Type 0
  KnowsSize First = Unit {0}
  KnowsSize (Address first) = slice_index first 7 ≡ size
  KnowsSize (Device first) = slice_index first 7 ≡ size
  KnowsSize (Header kind f) = f.device.packet ≡ size
  KnowsSize (Set kind f total) = f.device.packet ≡ size
  KnowsSize (SecondSpeed f) = f.device.packet ≡ size
  KnowsSize (Languages f named) = f.device.packet ≡ size
  KnowsSize (Text f s named) = f.device.packet ≡ size
  KnowsSize (Configure f) = f.device.packet ≡ size
  KnowsSize (Reported f) = Unit {0}
  KnowsSize (Stopped trouble) = Unit {0}

  either_knows : (c : Bool) (x y : Place) → KnowsSize x → KnowsSize y → KnowsSize (if c then x else y)
  either_knows true x y p q = p
  either_knows false x y p q = q

  texts_know : (f : DescriptorFile) (s : Strings) (named : List ℕ) → f.device.packet ≡ size → KnowsSize (texts_due f s named)
  texts_know f s named is = either_knows (nat_lt (length s.texts) (length s.languages * length named)) (Text f s named) (Configure (with_strings s f)) is is

  strings_know : (terms : Terms) (f : DescriptorFile) → f.device.packet ≡ size → KnowsSize (strings_due terms f)
  strings_know terms f is =
      either_knows (not (is_asked terms.choice.strings) || (length (named_indices f) == 0)) (Configure f) (Languages f (named_indices f)) is is

  after_know : (terms : Terms) (kind : SetKind) (f : DescriptorFile) → f.device.packet ≡ size → KnowsSize (after_sets terms kind f)
  after_know terms kinds.Configuration f is =
      either_knows (terms.choice.other_speed && may_have_second terms.speed f.device) (SecondSpeed f) (strings_due terms f) is (strings_know terms f is)
  after_know terms kinds.OtherSpeed f is = strings_know terms f is

  sets_know : (terms : Terms) (kind : SetKind) (f : DescriptorFile) → f.device.packet ≡ size → KnowsSize (sets_due terms kind f)
  sets_know terms kind f is =
      either_knows (nat_lt (length (sets_of kind f)) (declared_sets kind f)) (Header kind f) (after_sets terms kind f) is (after_know terms kind f is)

  -- the device descriptor begins with the bytes that were read first
  same_lists : (xs ys : List ℕ) → same_bytes xs ys ≡ true → xs ≡ ys
  same_lists [] [] e = refl
  same_lists [] (y ∷ ys) e = absurd (let w : ⊥ = cc in w)
  same_lists (x ∷ xs) [] e = absurd (let w : ⊥ = cc in w)
  same_lists (x ∷ xs) (y ∷ ys) e = of (x == y) refl e (same_lists xs ys)
    where
      same : (m n : ℕ) → (m == n) ≡ true → m ≡ n
      same m n is = grind (arith, nat_tests)

      of : (c : Bool) → (x == y) ≡ c → (c && same_bytes xs ys) ≡ true → (same_bytes xs ys ≡ true → xs ≡ ys) → x ∷ xs ≡ y ∷ ys
      of true is more later = ap (λ z. z ∷ xs) (same x y is) ∙ ap (λ zs. y ∷ zs) (later more)
      of false is more later = absurd (let w : ⊥ = cc in w)

  first_same : (first b : List ℕ) → same_bytes (take 8 b) first ≡ true → slice_index first 7 ≡ size → slice_index b 7 ≡ size
  first_same first b same is =
      sym (get_or-take 8 b 7 0 (omega arith)) ∙ ap (λ x. slice_index x 7) (same_lists (take 8 b) first same) ∙ is

  device_know : (terms : Terms) (first b : List ℕ) → slice_index first 7 ≡ size → KnowsSize (device_leads terms (Device first) first b (device_of b))
  device_know terms first b is = of (same_bytes (device_bytes (device_of_bytes b)) b)
    where
      d : DeviceDescriptor
      d = device_of_bytes b

      leads : (same some : Bool) (other : Place) → same_bytes (take 8 b) first ≡ same → KnowsSize other
          → KnowsSize (if same && some then sets_due terms kinds.Configuration (record { device = d; sets = []; other = None; strings = None }) else other)
      leads true true other e p = sets_know terms kinds.Configuration (record { device = d; sets = []; other = None; strings = None }) (first_same first b e is)
      leads true false other e p = p
      leads false some other e p = p

      of : (written : Bool) → KnowsSize (device_leads terms (Device first) first b (if written then Some d else None))
      of false = tt
      of true = leads (same_bytes (take 8 b) first) (not (d.configurations == 0)) _ refl tt

  header_know : (kind : SetKind) (f : DescriptorFile) (o : Option ℕ) → f.device.packet ≡ size → KnowsSize (header_leads (Header kind f) kind f o)
  header_know kind f None is = tt
  header_know kind f (Some total) is = is

  with_set_same : (kind : SetKind) (c : Configuration) (f : DescriptorFile) → (with_set kind c f).device.packet ≡ f.device.packet
  with_set_same kinds.Configuration c f = refl
  with_set_same kinds.OtherSpeed c f = refl

  set_know : (terms : Terms) (kind : SetKind) (f : DescriptorFile) (total count : ℕ) (o : Option Configuration) → f.device.packet ≡ size
      → KnowsSize (set_leads terms (Set kind f total) kind f total count o)
  set_know terms kind f total count None is = tt
  set_know terms kind f total count (Some c) is =
      either_knows ((count == total) && (type_number c.kind == type_number kind) && not (is_first_zero kind (sets_of kind f) c))
      (sets_due terms kind (with_set kind c f)) _ (sets_know terms kind (with_set kind c f) (with_set_same kind c f ∙ is)) tt

  with_qualifier_same : (q : Qualifier) (f : DescriptorFile) → (with_qualifier q f).device.packet ≡ f.device.packet
  with_qualifier_same q f = refl

  qualifier_know : (terms : Terms) (f : DescriptorFile) (o : Option Qualifier) → f.device.packet ≡ size → KnowsSize (qualifier_leads terms (SecondSpeed f) f o)
  qualifier_know terms f None is = tt
  qualifier_know terms f (Some q) is = sets_know terms kinds.OtherSpeed (with_qualifier q f) (with_qualifier_same q f ∙ is)

  languages_know : (f : DescriptorFile) (named : List ℕ) (o : Option (List ℕ)) → f.device.packet ≡ size → KnowsSize (languages_lead (Languages f named) f named o)
  languages_know f named None is = tt
  languages_know f named (Some []) is = tt
  languages_know f named (Some (l ∷ ls)) is = texts_know f (record { languages = l ∷ ls; texts = [] }) named is

  text_know : (f : DescriptorFile) (s : Strings) (named : List ℕ) (o : Option (List ℕ)) → f.device.packet ≡ size → KnowsSize (text_leads (Text f s named) f s named o)
  text_know f s named None is = tt
  text_know f s named (Some u) is = texts_know f (record s { texts = s.texts ++ u ∷ [] }) named is

  -- These bytes have it, if they are the first eight.
  abbrev pub FirstTells : List ℕ → Type 0
  FirstTells b = length b ≡ 8 → slice_index b 7 ≡ size

  first_know : (long id type fits : Bool) (b : List ℕ) (other : Place) → (long ≡ true → slice_index b 7 ≡ size) → KnowsSize other
      → KnowsSize (if long && id && type && fits then Address b else other)
  first_know true true true true b other is p = is refl
  first_know true true true false b other is p = p
  first_know true true false fits b other is p = p
  first_know true false type fits b other is p = p
  first_know false id type fits b other is p = p

  long_first : (n : ℕ) → (n == 8) ≡ true → n ≡ 8
  long_first n e = grind (arith, nat_tests)

  bytes_know : (terms : Terms) (place : Place) (b : List ℕ) → KnowsSize place → (place ≡ First → FirstTells b) → KnowsSize (bytes_lead terms place b)
  bytes_know terms First b is first =
      first_know (length b == 8) (slice_index b 0 == 18) (slice_index b 1 == 1) (packet_fits terms.speed (slice_index b 7)) b _
      (λ e. first refl (long_first (length b) e)) tt
  bytes_know terms (Address early) b is first = tt
  bytes_know terms (Device early) b is first = device_know terms early b is
  bytes_know terms (Header kind f) b is first = header_know kind f (total_in (type_number kind) b) is
  bytes_know terms (Set kind f total) b is first = tt
  bytes_know terms (SecondSpeed f) b is first = qualifier_know terms f (qualifier_of b) is
  bytes_know terms (Languages f named) b is first = languages_know f named (units_of b) is
  bytes_know terms (Text f s named) b is first = text_know f s named (units_of b) is
  bytes_know terms (Configure f) b is first = tt
  bytes_know terms (Reported f) b is first = tt
  bytes_know terms (Stopped trouble) b is first = tt

  read_know : (terms : Terms) (place : Place) (count : ℕ) (k : Kept) → KnowsSize place → (place ≡ First → (b : List ℕ) → k ≡ kept.Bytes b → FirstTells b)
      → KnowsSize (read_leads terms place count k)
  read_know terms place count (kept.Bytes b) is first = bytes_know terms place b is (λ at. first at b refl)
  read_know terms (Set kind f total) count (kept.Set d over) is first = set_know terms kind f total count (set_kept d over) is
  read_know terms First count (kept.Set d over) is first = tt
  read_know terms (Address early) count (kept.Set d over) is first = tt
  read_know terms (Device early) count (kept.Set d over) is first = tt
  read_know terms (Header kind f) count (kept.Set d over) is first = tt
  read_know terms (SecondSpeed f) count (kept.Set d over) is first = tt
  read_know terms (Languages f named) count (kept.Set d over) is first = tt
  read_know terms (Text f s named) count (kept.Set d over) is first = tt
  read_know terms (Configure f) count (kept.Set d over) is first = tt
  read_know terms (Reported f) count (kept.Set d over) is first = tt
  read_know terms (Stopped trouble) count (kept.Set d over) is first = tt

  done_know : (place : Place) → KnowsSize place → KnowsSize (done_leads place)
  done_know (Address early) is = is
  done_know (Configure f) is = tt
  done_know First is = tt
  done_know (Device early) is = tt
  done_know (Header kind f) is = tt
  done_know (Set kind f total) is = tt
  done_know (SecondSpeed f) is = tt
  done_know (Languages f named) is = tt
  done_know (Text f s named) is = tt
  done_know (Reported f) is = tt
  done_know (Stopped trouble) is = tt

  stand_know : (place : Place) → KnowsSize place → KnowsSize (stand_in place)
  stand_know (Languages f named) is = texts_know f (record { languages = 0x0409 ∷ []; texts = [] }) named is
  stand_know (Text f s named) is = texts_know f (record s { texts = s.texts ++ [] ∷ [] }) named is
  stand_know First is = is
  stand_know (Address early) is = is
  stand_know (Device early) is = is
  stand_know (Header kind f) is = is
  stand_know (Set kind f total) is = is
  stand_know (SecondSpeed f) is = is
  stand_know (Configure f) is = is
  stand_know (Reported f) is = is
  stand_know (Stopped trouble) is = is

  spared_know : (texts : NamedStrings) (here there : Place) → KnowsSize here → KnowsSize there → KnowsSize (spared texts here there)
  spared_know texts here there is next = either_knows (is_spared texts here there) (stand_in here) there (stand_know here is) next

  pub completed_know : (terms : Terms) (place : Place) (t : TransferView) (k : Kept) → KnowsSize place
      → (place ≡ First → (b : List ℕ) → k ≡ kept.Bytes b → FirstTells b) → KnowsSize (spared terms.choice.strings place (completed_leads terms place t k))
  completed_know terms place t k is first =
      spared_know terms.choice.strings place (completed_leads terms place t k) is
      (either_knows (t.request.length == 0) (done_leads place) (read_leads terms place t.kept k) (done_know place is) (read_know terms place t.kept k is first))

  refused_know : (terms : Terms) (place : Place) → KnowsSize place → KnowsSize (refused_leads terms place)
  refused_know terms (SecondSpeed f) is = strings_know terms f is
  refused_know terms First is = tt
  refused_know terms (Address early) is = tt
  refused_know terms (Device early) is = tt
  refused_know terms (Header kind f) is = tt
  refused_know terms (Set kind f total) is = tt
  refused_know terms (Languages f named) is = tt
  refused_know terms (Text f s named) is = tt
  refused_know terms (Configure f) is = tt
  refused_know terms (Reported f) is = tt
  refused_know terms (Stopped trouble) is = tt

  pub stalled_know : (terms : Terms) (place : Place) → KnowsSize place → KnowsSize (spared terms.choice.strings place (refused_leads terms place))
  stalled_know terms place is = spared_know terms.choice.strings place (refused_leads terms place) is (refused_know terms place is)
