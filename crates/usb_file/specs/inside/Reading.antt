-- The parts of a file, read one after another.
use Rattle.std.specs.Prelude.{ℕ, ◌*◌, List, length, nat_lt, ◌==◌, Option, Some, None, if◌then◌else◌, ◌≡◌, ◌≤◌, ◌+◌, ◌<◌, [], ◌∷◌, ◌++◌, drop, take, Bool, true, false, is_some}
use Rattle.usb_set.specs.declared.tree.SetKind.TheVariants as kinds
use Rattle.usb_file_data.specs.declared.file.DescriptorFile.{DescriptorFile}
use Rattle.usb_file_data.specs.declared.file.Other.{Other}
use Rattle.usb_file_data.specs.declared.file.Strings.{Strings}
use Rattle.usb_file_data.specs.File.{named_indices, file_bytes, whole_set, has_no_layout, is_other_kind, is_long_string, File}
use Rattle.usb_file_data.specs.FileFaults.{NextPart, a_set, a_qualifier, the_languages, a_string, the_end, begins_qualifier, NoQualifierIsNext, SetFaulty, fixed_fault, string_fault}
use Rattle.usb_fields.specs.declared.device.DeviceDescriptor.{DeviceDescriptor}
use Rattle.usb_fields.specs.declared.qualifier.Qualifier.{Qualifier}
use Rattle.usb_fields.specs.Device.{device_bytes, device_fault, qualifier_bytes, qualifier_fault}
use Rattle.usb_fields.specs.Units.{units_bytes, unit_fault}
use Rattle.usb_set.specs.declared.tree.Configuration.{Configuration}
use Rattle.usb_set.specs.declared.fault.SetWhy.{SetWhy}
use Rattle.usb_fields.specs.Bytes.{AreBytes}
use Rattle.usb_set.specs.Faults.{Begins, Faulty, Judgement}
use Rattle.std.specs.List.{flat_map, list_any}
use Rattle.usb_set.specs.declared.tree.SetKind.{SetKind}
use Rattle.usb_set.specs.declared.fault.SetWhy.TheVariants as sets
use Rattle.usb_file_data.specs.declared.fault.FileWhy.{FileWhy}
use Rattle.usb_file_data.specs.declared.fault.FileWhy.TheVariants as files
use Rattle.usb_file_data.specs.declared.fault.FileFault.{FileFault}
use Rattle.usb_file_data.specs.Front.{AllSets, Splits}
use Rattle.usb_file.specs.declared.file_reader.Form.{Form}
use Rattle.usb_file.specs.declared.file_reader.Form.TheVariants as forms
use Rattle.usb_file_data.specs.Inputs.{Dump}

-- What comes next after a prefix of a file, as a function of it and of the bytes that are left.

-- after all sets, where `count` indices are named
abbrev pub next_string : ℕ → Option Strings → NextPart
next_string count None = if count == 0 then the_end else the_languages
next_string count (Some s) = if nat_lt (length s.texts) (length s.languages * count) then a_string else the_end

-- after the sets of the device
abbrev pub next_after_main : DescriptorFile → Option Other → Option Strings → List ℕ → NextPart
next_after_main f None None rest = if begins_qualifier rest then a_qualifier else next_string (length (named_indices f)) None
next_after_main f None (Some s) rest = next_string (length (named_indices f)) (Some s)
next_after_main f (Some o) strings rest =
    if nat_lt (length o.sets) o.qualifier.configurations then a_set kinds.OtherSpeed
    else next_string (length (named_indices f)) strings

-- after what is there
abbrev pub next_part : DescriptorFile → List ℕ → NextPart
next_part f rest =
    if nat_lt (length f.sets) f.device.configurations then a_set kinds.Configuration
    else next_after_main f f.other f.strings rest

-- What the laws of usb_fields and usb_set say of the parts of a file.

-- The bytes of a part are those of one part, and bytes without a fault are those of some part. Of bytes where
-- a set comes next exactly one holds: a set begins them, they show one fault, or they are open.
pub record PartLaws : Type 0 where
  pub one_device : (d e : DeviceDescriptor) → device_bytes d ≡ device_bytes e → d ≡ e
  pub device_written : (b : List ℕ) → AreBytes b → device_fault b ≡ None → (d : DeviceDescriptor) × (device_bytes d ≡ b)
  pub one_qualifier : (q r : Qualifier) → qualifier_bytes q ≡ qualifier_bytes r → q ≡ r
  pub qualifier_written : (b : List ℕ) → AreBytes b → qualifier_fault b ≡ None → (q : Qualifier) × (qualifier_bytes q ≡ b)
  pub one_list : (u v : List ℕ) → units_bytes u ≡ units_bytes v → u ≡ v
  pub units_written : (b : List ℕ) → AreBytes b → unit_fault b ≡ None → (u : List ℕ) × (length u ≤ 126) × (units_bytes u ≡ b)
  pub one_set : (c d : Configuration) (b : List ℕ) (m n : ℕ) → Begins b c m → Begins b d n → (c ≡ d) × (m ≡ n)
  pub one_fault : (b : List ℕ) (p q : ℕ) (v w : SetWhy) → Faulty b p v → Faulty b q w → (p ≡ q) × (v ≡ w)
  pub not_both : (b : List ℕ) (c : Configuration) (n p : ℕ) (w : SetWhy) → Begins b c n → Faulty b p w → ⊥
  pub some : (b : List ℕ) → AreBytes b → Judgement b

-- the bytes up to this place are those of the file so far
pub record ReadSoFar (b : List ℕ) (f : DescriptorFile) (place : ℕ) : Type 0 where
  pub splits : Splits b f (drop place b)
  pub ends : place ≡ length (file_bytes f)
  pub within : place ≤ length b
  pub fits : AreBytes b

-- it holds `count` bytes after a place
pub record Behind (place : ℕ) (P : ℕ → Type 0) (at : ℕ) : Type 0 where
  pub count : ℕ
  pub holds : P count
  pub at_is : at ≡ place + count

-- between these places are these elements, one after another
pub record ReadsAll {A : Type 0} (bytes_of : A → List ℕ) (b : List ℕ) (start : ℕ) (items : List A) (end : ℕ) : Type 0 where
  pub parts : drop start b ≡ flat_map bytes_of items ++ drop end b
  pub ends : end ≡ start + length (flat_map bytes_of items)
  pub within : end ≤ length b

-- ---- sets

-- the bytes begin with a set of this kind, of `used` bytes
pub record ReadsSet (kind : SetKind) (rest : List ℕ) (c : Configuration) (used : ℕ) : Type 0 where
  pub begins : Begins rest c used
  pub kind_is : is_other_kind kind c ≡ false

-- The fault of a set as one of the file, from the set's start: *out of memory* is reported there, and bytes that
-- end too early end the file.
abbrev pub set_refusal : SetWhy → ℕ → FileFault
set_refusal sets.Memory at = record { at = 0; why = files.Memory }
set_refusal sets.Truncated at = record { at = at; why = files.Truncated }
set_refusal why at = record { at = at; why = files.Set why }

-- out of memory at the start, or the fault of a set of this kind
abbrev pub SetRefused : SetKind → List ℕ → ℕ → FileWhy → Type 0
SetRefused kind rest at files.Memory = at ≡ 0
SetRefused kind rest at why = SetFaulty kind rest at why

-- one more set of this kind was read
pub record ReadsNextSet (kind : SetKind) (b : List ℕ) (place : ℕ) (old new : List Configuration) (end : ℕ) : Type 0 where
  pub set : Configuration
  pub reads : Behind place (ReadsSet kind (drop place b) set) end
  pub grown : new ≡ old ++ set ∷ []

-- between these places are these sets, all of this kind
pub record ReadsSets (kind : SetKind) (b : List ℕ) (start : ℕ) (sets : List Configuration) (end : ℕ) : Type 0 where
  pub all : ReadsAll whole_set b start sets end
  pub kinds : list_any (is_other_kind kind) sets ≡ false
  pub layouts : list_any has_no_layout sets ≡ false

-- Of the declared sets the next one after these was refused: *out of memory* is reported where it
-- starts.
pub record SetsRefused (kind : SetKind) (declared : ℕ) (b : List ℕ) (start : ℕ) (sets : List Configuration) (at : ℕ) (why : FileWhy) : Type 0 where
  pub end : ℕ
  pub reads : ReadsSets kind b start sets end
  pub few : length sets < declared
  pub refused : Behind end (λ n. SetRefused kind (drop end b) n why) at

-- ---- the other speed

-- a qualifier is at this place
pub record ReadsQualifier (b : List ℕ) (place : ℕ) (q : Qualifier) : Type 0 where
  pub bytes : take 10 (drop place b) ≡ qualifier_bytes q
  pub long : 10 ≤ length (drop place b)

-- the bytes at this place are no qualifier
abbrev pub QualifierRefused : List ℕ → ℕ → ℕ → FileWhy → Type 0
QualifierRefused b place at why =
    Behind place (λ n. fixed_fault 10 (is_some (qualifier_fault (take 10 (drop place b)))) files.Qualifier (drop place b) ≡ Some (n, why)) at

-- between these places is the other speed: the qualifier and all its sets
pub record ReadsSpeed (b : List ℕ) (place : ℕ) (o : Other) (end : ℕ) : Type 0 where
  pub begins : begins_qualifier (drop place b) ≡ true
  pub qualifier : ReadsQualifier b place o.qualifier
  pub sets : ReadsSets kinds.OtherSpeed b (place + 10) o.sets end
  pub all : length o.sets ≡ o.qualifier.configurations

-- the other speed, if a qualifier begins at this place
abbrev pub ReadsOther : List ℕ → ℕ → Option Other → ℕ → Type 0
ReadsOther b place None end = (begins_qualifier (drop place b) ≡ false) × (end ≡ place)
ReadsOther b place (Some o) end = ReadsSpeed b place o end

-- a qualifier begins at this place, and it or one of its sets was refused
pub data OtherRefused (b : List ℕ) (place at : ℕ) (why : FileWhy) : Type 0 where
  no_qualifier : begins_qualifier (drop place b) ≡ true → QualifierRefused b place at why → OtherRefused b place at why
  no_set : (q : Qualifier) (ss : List Configuration) → begins_qualifier (drop place b) ≡ true → ReadsQualifier b place q
      → SetsRefused kinds.OtherSpeed q.configurations b (place + 10) ss at why → OtherRefused b place at why

-- all sets of either speed were read, and what is left begins no further one
pub record SetsRead (b : List ℕ) (f : DescriptorFile) (place : ℕ) : Type 0 where
  pub so_far : ReadSoFar b f place
  pub all : AllSets f f.other
  pub no_strings : f.strings ≡ None
  pub no_qualifier : NoQualifierIsNext f (drop place b)

-- ---- strings

-- the bytes begin with a string descriptor of at least `least` bytes, which has these units
pub record ReadsString (least : ℕ) (rest : List ℕ) (units : List ℕ) (used : ℕ) : Type 0 where
  pub parts : rest ≡ units_bytes units ++ drop used rest
  pub ends : used ≡ 2 + 2 * length units
  pub within : used ≤ length rest
  pub enough : least ≤ used
  pub short : is_long_string units ≡ false

-- out of memory at the start, or the fault of a string descriptor of at least `least` bytes
abbrev pub StringRefused : ℕ → List ℕ → ℕ → FileWhy → Type 0
StringRefused least rest at files.Memory = at ≡ 0
StringRefused least rest at why = string_fault least rest ≡ Some (at, why)

-- one more string was read
pub record ReadsNextString (b : List ℕ) (place : ℕ) (old new : List (List ℕ)) (end : ℕ) : Type 0 where
  pub units : List ℕ
  pub reads : Behind place (ReadsString 2 (drop place b) units) end
  pub grown : new ≡ old ++ units ∷ []

-- between these places are these strings
pub record ReadsDueStrings (b : List ℕ) (start : ℕ) (strings : List (List ℕ)) (end : ℕ) : Type 0 where
  pub all : ReadsAll units_bytes b start strings end
  pub short : list_any is_long_string strings ≡ false

-- Of the strings that are due the next one after these was refused: *out of memory* is reported where it
-- starts.
pub record DueStringsRefused (due : ℕ) (b : List ℕ) (start : ℕ) (strings : List (List ℕ)) (at : ℕ) (why : FileWhy) : Type 0 where
  pub end : ℕ
  pub reads : ReadsDueStrings b start strings end
  pub few : length strings < due
  pub refused : Behind end (λ n. StringRefused 2 (drop end b) n why) at

-- between these places are the language list and one string for each language and each of `count` indices
pub record ReadsLanguages (count : ℕ) (b : List ℕ) (place : ℕ) (s : Strings) (end : ℕ) : Type 0 where
  pub named : 0 < count
  pub start : ℕ
  pub languages : Behind place (ReadsString 4 (drop place b) s.languages) start
  pub texts : ReadsDueStrings b start s.texts end
  pub all : length s.texts ≡ length s.languages * count

-- the strings, if any of `count` indices is named
abbrev pub ReadsStrings : ℕ → List ℕ → ℕ → Option Strings → ℕ → Type 0
ReadsStrings count b place None end = (count ≡ 0) × (end ≡ place)
ReadsStrings count b place (Some s) end = ReadsLanguages count b place s end

-- an index is named, and the language list or a string was refused
pub data StringsRefused (count : ℕ) (b : List ℕ) (place at : ℕ) (why : FileWhy) : Type 0 where
  no_languages : 0 < count → Behind place (λ n. StringRefused 4 (drop place b) n why) at → StringsRefused count b place at why
  no_string : (languages : List ℕ) (start : ℕ) (texts : List (List ℕ)) → 0 < count → Behind place (ReadsString 4 (drop place b) languages) start
      → DueStringsRefused (length languages * count) b start texts at why → StringsRefused count b place at why

-- ---- all of it

-- whether a device that names `count` indices and has this other speed is a dump, where these bytes are left
abbrev pub ends_as_dump : ℕ → Option Other → List ℕ → Bool
ends_as_dump count None [] = nat_lt 0 count
ends_as_dump count other rest = false

-- the bytes are what was read, in this form
abbrev pub IsOfForm : Form → DescriptorFile → List ℕ → Type 0
IsOfForm forms.File f b = File f b
IsOfForm forms.Dump f b = Dump f b
