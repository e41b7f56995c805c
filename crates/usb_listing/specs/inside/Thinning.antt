-- A set that was written, and what a draft keeps of it.
use Rattle.std.specs.Prelude.{◌≡◌, ◌≢◌, ◌⊎◌, true, ℕ, ◌==◌, List, [], ◌∷◌, ◌++◌, filter, length, map, not, Option, Some, None}
use Rattle.std.specs.List.{list_any}
use Rattle.usb_fields.specs.Device.{device_bytes, qualifier_bytes}
use Rattle.usb_set.specs.declared.tree.Configuration.{Configuration}
use Rattle.usb_set.specs.declared.tree.Setting.{Setting}
use Rattle.usb_file_data.specs.declared.file.DescriptorFile.{DescriptorFile}
use Rattle.usb_file_data.specs.declared.file.Other.{Other}
use Rattle.usb_file_data.specs.File.{named_indices, strings_bytes, whole_set}
use Rattle.usb_listing.specs.declared.byte_assembly.Part.{Part}
use Rattle.usb_listing.specs.declared.byte_assembly.Part.TheVariants as parts
use Rattle.usb_listing.specs.declared.draft.Draft.{Draft}
use Rattle.usb_listing.specs.declared.assembly.Form.{Form}
use Rattle.usb_listing.specs.Listings.{is_whole}
use Rattle.usb_listing.specs.inside.Drafts.{TakesLine, so_far}
use Rattle.usb_listing.specs.inside.Growing.{last_of, open_sets, with_sets}

-- the file with one more set of the speed that the last lines are of
abbrev pub with_open : Configuration → DescriptorFile → DescriptorFile
with_open c f = with_sets (open_sets f f.other ++ c ∷ []) f f.other

-- a setting that names a string, and says nothing else
abbrev pub naming : ℕ → Setting
naming n = record { number = 0; alternate = 0; declared_endpoints = 0; class = 0; subclass = 0; protocol = 0; text = n; tail = []; extras = []; endpoints = [] }

-- the numbers that are none of the others
abbrev pub without : List ℕ → List ℕ → List ℕ
without all others = filter (λ n. not (list_any (λ m. m == n) others)) all

-- what is kept of a set: its first descriptor, and settings that name these strings
abbrev pub thin : List ℕ → Configuration → Configuration
thin ns c = record c { extras = []; settings = map naming ns }

-- of the last set this is kept: what it alone names stays named
pub record ThinsLast (old new : DescriptorFile) : Type 0 where
  pub front : DescriptorFile
  pub set : Configuration
  pub old_is : old ≡ with_open set front
  pub new_is : new ≡ with_open (thin (without (named_indices old) (named_indices front)) set) front

-- the same, where there is one
abbrev pub Thins : DescriptorFile → DescriptorFile → Type 0
Thins old new = (new ≡ old) ⊎ ThinsLast old new

-- the bytes of the last set, if there is one
abbrev pub whole_or : Option Configuration → List ℕ
whole_or None = []
whole_or (Some c) = whole_set c

abbrev pub last_bytes : List Configuration → List ℕ
last_bytes cs = whole_or (last_of cs)

-- the bytes of the descriptor that begins the file, or its other speed, after those of the set before it
abbrev pub head_bytes : DescriptorFile → Option Other → List ℕ
head_bytes f None = device_bytes f.device
head_bytes f (Some o) = last_bytes f.sets ++ qualifier_bytes o.qualifier

-- the last line began the file, or its other speed
pub record WritesHead (old new : DescriptorFile) (was is : List ℕ) : Type 0 where
  pub none : open_sets old old.other ≡ []
  pub same : new ≡ old
  pub bytes : is ≡ was ++ head_bytes old old.other

-- the last line began a set: the one before it is written, and let go
pub record WritesSet (old new : DescriptorFile) (was is : List ℕ) : Type 0 where
  pub front : DescriptorFile
  pub set : Configuration
  pub old_is : old ≡ with_open set front
  pub thinned : DescriptorFile
  pub thins : Thins front thinned
  pub new_is : new ≡ with_open set thinned
  pub bytes : is ≡ was ++ last_bytes (open_sets front front.other)

abbrev pub Writes : DescriptorFile → DescriptorFile → List ℕ → List ℕ → Type 0
Writes old new was is = WritesHead old new was is ⊎ WritesSet old new was is

-- the part that the last line is of, strings apart
abbrev pub file_part : Option Other → Part
file_part None = parts.Device
file_part (Some o) = parts.OtherSpeed

abbrev pub part_of : Option Draft → Part
part_of None = parts.Nothing
part_of (Some d) = file_part d.file.other

-- how many sets that part has
abbrev pub open_count : Option Draft → ℕ
open_count None = 0
open_count (Some d) = length (open_sets d.file d.file.other)

-- that is written of a draft: nothing else in it changes
abbrev pub WritesDraft : Option Draft → Option Draft → List ℕ → List ℕ → Type 0
WritesDraft None new was is = (new ≡ None) × (is ≡ was)
WritesDraft (Some d) new was is = (f : DescriptorFile) × (new ≡ Some (record d { file = f })) × Writes d.file f was is

-- it is written only where the line began a part: before it, this was the part, with `sets` sets
pub record WritesIf (part : Part) (sets : ℕ) (old new : Option Draft) (was is : List ℕ) : Type 0 where
  pub same : part_of old ≡ part → open_count old ≡ sets → (new ≡ old) × (is ≡ was)
  pub begun : (part_of old ≢ part) ⊎ (open_count old ≢ sets) → WritesDraft old new was is

-- the first line was read and taken into the draft, and what is whole since then was written
pub record ReadsOn (form : Form) (old : Option Draft) (rest : List ℕ) (new : Option Draft) (more was is : List ℕ) : Type 0 where
  pub middle : Option Draft
  pub takes : TakesLine form old rest middle more
  pub writes : WritesIf (part_of old) (open_count old) middle new was is

-- the bytes of the draft's file, of which all but the last set and the strings were written
pub record Finished (draft : Option Draft) (was is : List ℕ) : Type 0 where
  pub file : DescriptorFile
  pub draft_is : so_far draft ≡ Some file
  pub whole : is_whole (Some file) ≡ true
  pub bytes : is ≡ was ++ last_bytes (open_sets file file.other) ++ strings_bytes file.strings
