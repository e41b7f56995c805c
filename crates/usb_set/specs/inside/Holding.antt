-- What a decoder holds: the bytes taken are a function of it.
use Rattle.std.specs.Prelude.{◌≡◌, ℕ, List, [], ◌++◌, Option, Some, None}
use Rattle.usb_fields.specs.Bytes.{AreBytes}
use Rattle.usb_set.specs.declared.fault.SetFault.{SetFault}
use Rattle.usb_set.specs.Decoding.{Decoding, gathers, has, refused}
use Rattle.usb_set.specs.Layout.{set_bytes}
use Rattle.usb_set.specs.inside.Reading.{Reading, first, later, whole, faulty, reading_of}

-- the bytes taken: those of the tree so far with the first descriptor's total, then those of the
-- current descriptor
abbrev pub bytes_in : Reading → List ℕ
bytes_in (first b) = b
bytes_in (later c total place b) = set_bytes c total ++ b
bytes_in (whole c place) = []
bytes_in (faulty place why) = []

-- the decoding that a reading is
abbrev pub decoding_in : Reading → Decoding
decoding_in (first b) = gathers b
decoding_in (later c total place b) = gathers (set_bytes c total ++ b)
decoding_in (whole c place) = has c
decoding_in (faulty place why) = refused (record { at = place; why = why })

-- the same of a decoder's fields: a fault goes first
abbrev pub decoding_of : Option SetFault → Reading → Decoding
decoding_of (Some fault) r = refused fault
decoding_of None r = decoding_in r

-- the bytes taken lead to this reading
pub record IsReadFrom (b : List ℕ) (r : Reading) : Type 0 where
  pub fits : AreBytes b
  pub same : reading_of b ≡ r

abbrev pub IsSound : Reading → Type 0
IsSound (first b) = IsReadFrom b (first b)
IsSound (later c total place b) = IsReadFrom (set_bytes c total ++ b) (later c total place b)
IsSound (whole c place) = Unit {0}
IsSound (faulty place why) = ⊥

-- the same where no fault was shown; after a fault nothing is held
abbrev pub HoldsSound : Option SetFault → Reading → Type 0
HoldsSound (Some fault) r = r ≡ first []
HoldsSound None r = IsSound r
