-- Reading a set descriptor by descriptor.
use Rattle.std.specs.Prelude.{◌≡◌, ℕ, ◌+◌, ◌-◌, ◌<◌, ◌≤◌, List, [], ◌++◌, length, take, drop, slice_index, Bool, true, false, Option, Some, None, Result, Ok, Err, ◌==◌, if◌then◌else◌, ◌⊎◌}
use Rattle.usb_set.specs.declared.tree.Configuration.{Configuration}
use Rattle.usb_set.specs.declared.fault.SetFault.{SetFault}
use Rattle.usb_set.specs.declared.fault.SetWhy.{SetWhy}
use Rattle.usb_set.specs.declared.fault.SetWhy.TheVariants.{Memory, Truncated}
use Rattle.usb_set.specs.declared.decoder.Progress.{Progress}
use Rattle.usb_set.specs.declared.decoder.Progress.TheVariants.{More, Done}
use Rattle.usb_set.specs.declared.reader.Step.{Step}
use Rattle.usb_set.specs.declared.reader.Step.TheVariants.{Took, Cut, Refused}
use Rattle.usb_set.specs.Faults.{Fault, is_whole, header_fault, item_fault, total_of}
use Rattle.usb_set.specs.Building.{has_setting}
use Rattle.usb_set.specs.inside.Reading.{Reading, first, later, whole, faulty, reads, goes_on, configuration_of, attach, first_byte}

-- the set is not read to its end, and shows no fault
abbrev pub InWork : Reading → Type 0
InWork (first b) = Unit {0}
InWork (later c total place b) = Unit {0}
InWork (whole c place) = ⊥
InWork (faulty place why) = ⊥

-- whether the set is read to its end
abbrev pub is_done : Reading → Bool
is_done (first b) = false
is_done (later c total place b) = false
is_done (whole c place) = true
is_done (faulty place why) = false

-- where the current descriptor starts
abbrev pub place_of : Reading → ℕ
place_of (first b) = 0
place_of (later c total place b) = place
place_of (whole c place) = place
place_of (faulty place why) = place

-- the bytes of the current descriptor
abbrev pub current_of : Reading → List ℕ
current_of (first b) = b
current_of (later c total place b) = b
current_of (whole c place) = []
current_of (faulty place why) = []

-- how many bytes were read
abbrev pub taken : Reading → ℕ
taken r = place_of r + length (current_of r)

-- the same reading with these bytes of the current descriptor
abbrev pub with_current : Reading → List ℕ → Reading
with_current (first b) current = first current
with_current (later c total place b) current = later c total place current
with_current (whole c place) current = whole c place
with_current (faulty place why) current = faulty place why

-- between two descriptors
abbrev pub partial_of : Option Configuration → ℕ → ℕ → Reading
partial_of None total place = first []
partial_of (Some c) total place = if place == total then whole c place else later c total place []

-- no byte of the current descriptor is there
abbrev pub IsStart : Reading → Type 0
IsStart (first b) = b ≡ []
IsStart (later c total place b) = (b ≡ []) × (place < total) × (total ≤ 65535)
IsStart (whole c place) = place ≤ 65535
IsStart (faulty place why) = ⊥

-- the bytes of the current descriptor show no fault, and there are too few
abbrev pub GoesOn : Reading → Type 0
GoesOn (first b) = (header_fault b ≡ None) × (length b < first_byte b) × (length b < 255)
GoesOn (later c total place b) = (item_fault (total - place) (has_setting c) b ≡ None) × (length b < first_byte b) × (length b < 255)
GoesOn (whole c place) = Unit {0}
GoesOn (faulty place why) = ⊥

-- a fault of the first descriptor, and of a later one at its place
abbrev pub header_at : Option Fault → Option SetFault
header_at None = None
header_at (Some fault) = Some (record { at = fault.0; why = fault.1 })

abbrev pub item_at : ℕ → Option SetWhy → Option SetFault
item_at place None = None
item_at place (Some why) = Some (record { at = place; why = why })

-- the fault that these bytes show as those of the current descriptor
abbrev pub fault_at : Reading → List ℕ → Option SetFault
fault_at (first b) bytes = header_at (header_fault bytes)
fault_at (later c total place b) bytes = item_at place (item_fault (total - place) (has_setting c) bytes)
fault_at (whole c place) bytes = None
fault_at (faulty place why) bytes = None

-- past this descriptor
abbrev pub past : Reading → List ℕ → Reading
past (first b) item = goes_on (configuration_of item) (total_of item) (length item)
past (later c total place b) item = goes_on (attach c (record { kind = slice_index item 1; body = drop 2 item })) total (place + length item)
past (whole c place) item = whole c place
past (faulty place why) item = faulty place why

-- out of memory at this place
abbrev pub IsWanting : ℕ → SetFault → Type 0
IsWanting place fault = (fault.at ≡ place) × (fault.why ≡ Memory)

-- the current descriptor ends in these bytes
pub record EndsIn (current bytes : List ℕ) : Type 0 where
  pub count : ℕ
  pub within : count ≤ length bytes
  pub some : 0 < count
  pub whole : is_whole (current ++ take count bytes) ≡ true

-- out of memory for the current descriptor, which ends in these bytes
abbrev pub WantsHere : Reading → List ℕ → SetFault → Type 0
WantsHere r bytes fault = InWork r × IsWanting (place_of r) fault × EndsIn (current_of r) bytes

-- what a step answers
abbrev pub Steps : Reading → List ℕ → Step → Reading → Type 0
Steps old bytes (Took count) new =
    (count ≤ length bytes) × (0 < count) × (reads old (take count bytes) ≡ new) × (taken new ≡ taken old + count) × GoesOn new
Steps old bytes Cut new = (reads old bytes ≡ new) × InWork new
Steps old bytes (Refused fault) new = WantsHere old bytes fault ⊎ (reads old bytes ≡ faulty fault.at fault.why)

-- all of the bytes are taken, where some of their descriptor were there, or none
abbrev pub Keeps : Reading → List ℕ → Bool → Reading → Type 0
Keeps old bytes true new = (reads old bytes ≡ new) × InWork new × (0 < length (current_of old))
Keeps old bytes false new = new ≡ old

-- out of memory after some of these bytes
pub record WantsIn (old : Reading) (bytes : List ℕ) (fault : SetFault) : Type 0 where
  pub count : ℕ
  pub here : WantsHere (reads old (take count bytes)) (drop count bytes) fault

-- what reading a piece answers
abbrev pub Reads : Reading → List ℕ → Result Progress SetFault → Reading → Type 0
Reads old bytes (Ok More) new = (reads old bytes ≡ new) × InWork new
Reads old bytes (Ok (Done used)) new =
    (used ≤ length bytes) × (reads old (take used bytes) ≡ new) × (taken new ≡ taken old + used) × (is_done new ≡ true)
Reads old bytes (Err fault) new = WantsIn old bytes fault ⊎ (reads old bytes ≡ faulty fault.at fault.why)

-- the tree that is read to its end
abbrev pub whole_tree : Reading → Option Configuration
whole_tree (first b) = None
whole_tree (later c total place b) = None
whole_tree (whole c place) = Some c
whole_tree (faulty place why) = None

-- what a reading is where no more bytes come
abbrev pub ends_as : Reading → Result Configuration SetFault
ends_as (first b) = Err (record { at = length b; why = Truncated })
ends_as (later c total place b) = Err (record { at = place + length b; why = Truncated })
ends_as (whole c place) = Ok c
ends_as (faulty place why) = Err (record { at = place; why = why })
