-- The fields of a descriptor: what each is called, how wide it is, and its number (USB 2.0, 9.6).
use Rattle.std.specs.Prelude.{ℕ, List, [], ◌∷◌, map, ◌≡◌, suc, ◌≤◌, length, Bool, true, false}
use Rattle.std.specs.List.{flat_map}
use Rattle.usb_fields.specs.Bytes.{little_endian, big_endian}
use Rattle.usb_fields.specs.declared.field.Width.{Width}
use Rattle.usb_fields.specs.declared.field.Width.TheVariants.{One, Two}

-- A field of the descriptors that are values of this type, of one byte or of two: its name in the standard, and the
-- number that it has in such a value.
pub data Field (Descriptor : Type 0) : Type 0 where
  byte : (name : List ℕ) → (number : Descriptor → ℕ) → Field Descriptor
  word : (name : List ℕ) → (number : Descriptor → ℕ) → Field Descriptor

module _ {Descriptor : Type 0} where
  -- its width
  abbrev pub field_width : Field Descriptor → Width
  field_width (byte name number) = One
  field_width (word name number) = Two

  -- its bytes in a descriptor, the low one first (8.1)
  abbrev pub field_bytes : Descriptor → Field Descriptor → List ℕ
  field_bytes d (byte name number) = number d ∷ []
  field_bytes d (word name number) = little_endian (number d)

  -- its bytes as they are written out, the high one first
  abbrev pub field_text : Descriptor → Field Descriptor → List ℕ
  field_text d (byte name number) = number d ∷ []
  field_text d (word name number) = big_endian (number d)

  -- the widths of fields
  abbrev pub widths : List (Field Descriptor) → List Width
  widths fields = map field_width fields

  -- the bytes of a descriptor's fields, one field after another
  abbrev pub fields_bytes : List (Field Descriptor) → Descriptor → List ℕ
  fields_bytes fields d = flat_map (field_bytes d) fields

-- The fields of a descriptor by their widths alone.

-- how many bytes fields of these widths have
abbrev pub size_of : List Width → ℕ
size_of [] = 0
size_of (One ∷ widths) = suc (size_of widths)
size_of (Two ∷ widths) = suc (suc (size_of widths))

-- The fields of a body as they are written out: those of these widths, the high byte first, and then the tail, where
-- there may be one.
abbrev pub cells : List Width → Bool → List ℕ → List (List ℕ)
cells [] true body = body ∷ []
cells [] false body = []
cells (One ∷ widths) tail (x ∷ body) = (x ∷ []) ∷ cells widths tail body
cells (Two ∷ widths) tail (low ∷ high ∷ body) = (high ∷ low ∷ []) ∷ cells widths tail body
cells widths tail body = []

-- the body has bytes for each of these fields, and more only where there may be a tail
abbrev pub Fills : List Width → Bool → List ℕ → Type 0
Fills widths true body = size_of widths ≤ length body
Fills widths false body = length body ≡ size_of widths
