-- A set that is built descriptor by descriptor.
use Rattle.std.specs.Prelude.{◌≡◌, ℕ, ◌≤◌, List, [], ◌∷◌, ◌++◌, length, Bool, true, false, None, ◌==◌, if◌then◌else◌}
use Rattle.usb_set.specs.declared.tree.Configuration.{Configuration}
use Rattle.usb_set.specs.Descriptors.{Descriptor, configuration_descriptor, descriptor_bytes}
use Rattle.usb_set.specs.Faults.{is_set_type, item_fault}
use Rattle.usb_set.specs.Layout.{has_typed_raw, later_descriptors}

-- whether the set has a setting that an endpoint can belong to (9.6.6)
abbrev pub has_setting : Configuration → Bool
has_setting c = if length c.settings == 0 then false else true

-- The set begins with this first descriptor, whatever its wTotalLength is, and has no other.
pub record BeginsWith (header : List ℕ) (c : Configuration) : Type 0 where
  pub total : ℕ
  pub head : descriptor_bytes (configuration_descriptor c total) ≡ header
  pub later : later_descriptors c ≡ []

-- The set with one more descriptor has its descriptors, and this one after them.
pub record Adds (old : Configuration) (b : List ℕ) (new : Configuration) : Type 0 where
  pub item : Descriptor
  pub bytes : descriptor_bytes item ≡ b
  pub head : (total : ℕ) → configuration_descriptor new total ≡ configuration_descriptor old total
  pub later : later_descriptors new ≡ later_descriptors old ++ item ∷ []

-- The set without the last of its descriptors: a set that is this one with it.
pub record IsOneMore (c : Configuration) (ds : List Descriptor) (d : Descriptor) : Type 0 where
  pub before : Configuration
  pub head : (total : ℕ) → configuration_descriptor before total ≡ configuration_descriptor c total
  pub later : later_descriptors before ≡ ds
  pub raws : has_typed_raw before ≡ false

-- what `begin_set` gives of a first descriptor
pub record IsBegun (header : Descriptor) (c : Configuration) : Type 0 where
  pub kind : is_set_type header.kind ≡ true
  pub long : 9 ≤ length (descriptor_bytes header)
  pub begins : BeginsWith (descriptor_bytes header) c
  pub raws : has_typed_raw c ≡ false

-- the next descriptor shows no fault, and the new set is what `add_descriptor` gives of it
pub record Accepts (old : Configuration) (item : Descriptor) (new : Configuration) : Type 0 where
  pub fine : item_fault (length (descriptor_bytes item)) (has_setting old) (descriptor_bytes item) ≡ None
  pub adds : Adds old (descriptor_bytes item) new
  pub raws : has_typed_raw new ≡ false

-- these descriptors are accepted one after another
abbrev pub AcceptsAll : Configuration → List Descriptor → Configuration → Type 0
AcceptsAll old [] new = new ≡ old
AcceptsAll old (item ∷ items) new = (next : Configuration) × Accepts old item next × AcceptsAll next items new

-- the set is built of these descriptors: begun with the first, and the others are accepted
abbrev pub IsBuiltOf : List Descriptor → Configuration → Type 0
IsBuiltOf [] c = ⊥
IsBuiltOf (header ∷ items) c = (begun : Configuration) × IsBegun header begun × AcceptsAll begun items c
