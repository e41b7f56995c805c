-- What holds of a place after the bytes that count.
use Rattle.std.specs.Prelude.{◌*◌, ◌<◌, ◌≤◌, length, slice_index, ◌≡◌, ℕ, List, [], Some, None, IsTrue}
use Rattle.usb_fields.specs.Bytes.{AreBytes}
use Rattle.usb_host.specs.declared.choice.NamedStrings.{NamedStrings}
use Rattle.usb_host.specs.declared.choice.Choice.{Choice}
use Rattle.usb_host.specs.Terms.{IsReport, is_asked}
use Rattle.usb_host.specs.Place.{Place, First, Address, Device, Header, Set, Qualifier, Languages, Text, Configure, Reported, Stopped}
use Rattle.usb_host.specs.Keeping.{Kept}
use Rattle.usb_host.specs.Keeping as kept
use Rattle.usb_host.specs.Order.{sets_of, declared_sets}
use Rattle.usb_host.specs.Steps.{HostPhase, ResetDue, Reading, Ended, HostView, chosen_host, reset, Takes}
use Rattle.usb_set.specs.declared.tree.SetKind.{SetKind}
use Rattle.usb_set.specs.declared.tree.SetKind.TheVariants as kinds
use Rattle.usb_file_data.specs.declared.file.DescriptorFile.{DescriptorFile}
use Rattle.usb_file_data.specs.declared.file.Other.{Other}
use Rattle.usb_file_data.specs.declared.file.Strings.{Strings}
use Rattle.usb_file_data.specs.File.{file_bytes, named_indices}
use Rattle.usb_file_data.specs.Front.{IsFront, AllSets, StringsFollow, with_strings}
use Rattle.usb_fields.specs.declared.packet.Speed.{Speed}
use Rattle.usb_fields.specs.Packets.{Reply as Answer}
use Rattle.usb_host.specs.Limits.{LimitView}
use Rattle.usb_host.specs.Transfer.{TransferView, taken, left}
use Rattle.usb_host.specs.Cost.{most, left_to_ask, BringsBytes}

-- What every host keeps that has received bytes.

-- what every place keeps, whatever was replied: packets have 8 bytes at least, and what is read was declared
abbrev pub IsGood : Place → Type 0
IsGood First = Unit {0}
IsGood (Address first) = 8 ≤ slice_index first 7
IsGood (Device first) = 8 ≤ slice_index first 7
IsGood (Header kind f) = (8 ≤ f.device.packet) × (length (sets_of kind f) < declared_sets kind f)
IsGood (Set kind f total) = (8 ≤ f.device.packet) × (length (sets_of kind f) < declared_sets kind f) × (total < 65536)
IsGood (Qualifier f) = 8 ≤ f.device.packet
IsGood (Languages f named) = (8 ≤ f.device.packet) × (length named ≤ 255)
IsGood (Text f s named) =
    (8 ≤ f.device.packet) × (length s.texts < length s.languages * length named) × (length named ≤ 255) × (length s.languages ≤ 126)
IsGood (Configure f) = 8 ≤ f.device.packet
IsGood (Reported f) = Unit {0}
IsGood (Stopped trouble) = Unit {0}

-- a set is being decoded, and the bytes of any other read are kept
abbrev pub FitsPlace : Place → Kept → Type 0
FitsPlace (Set kind f total) (kept.Bytes bytes) = ⊥
FitsPlace (Set kind f total) (kept.Set d over) = Unit {0}
FitsPlace place (kept.Bytes bytes) = Unit {0}
FitsPlace place (kept.Set d over) = ⊥

-- what is kept are bytes
abbrev pub KeepsBytes : Kept → Type 0
KeepsBytes (kept.Bytes bytes) = AreBytes bytes
KeepsBytes (kept.Set d over) = Unit {0}

-- what holds of every host that has received bytes
abbrev pub IsSteady : HostPhase → Type 0
IsSteady ResetDue = Unit {0}
IsSteady (Reading place t k) = IsGood place × FitsPlace place k × KeepsBytes k
IsSteady (Ended place) = Unit {0}

-- the bytes so far are a prefix of a file
pub record IsRead (f : DescriptorFile) (b : List ℕ) : Type 0 where
  pub is_front : IsFront f
  pub bytes : b ≡ file_bytes f

-- all sets of the device were read, and nothing after them
pub record MainDone (f : DescriptorFile) (b : List ℕ) : Type 0 where
  pub read : IsRead f b
  pub all : length f.sets ≡ f.device.configurations
  pub no_other : f.other ≡ None
  pub no_strings : f.strings ≡ None

-- sets of the device are being read
pub record InMain (f : DescriptorFile) (b : List ℕ) : Type 0 where
  pub read : IsRead f b
  pub no_other : f.other ≡ None
  pub no_strings : f.strings ≡ None
  pub few : length f.sets ≤ f.device.configurations

-- sets of the other speed are being read
pub record InOther (f : DescriptorFile) (b : List ℕ) : Type 0 where
  pub read : IsRead f b
  pub all : length f.sets ≡ f.device.configurations
  pub other : Other
  pub is_other : f.other ≡ Some other
  pub no_strings : f.strings ≡ None
  pub few : length other.sets ≤ other.qualifier.configurations

-- sets of this kind are
abbrev pub InSets : SetKind → DescriptorFile → List ℕ → Type 0
InSets kinds.Configuration f b = InMain f b
InSets kinds.OtherSpeed f b = InOther f b

-- all sets were read, and no string
pub record SetsDone (f : DescriptorFile) (b : List ℕ) : Type 0 where
  pub read : IsRead f b
  pub all : AllSets f f.other
  pub no_strings : f.strings ≡ None

-- strings are being read
pub record InStrings (f : DescriptorFile) (s : Strings) (named b : List ℕ) : Type 0 where
  pub read : IsRead (with_strings s f) b
  pub all : AllSets f f.other
  pub follow : StringsFollow (length (named_indices f)) s
  pub is_named : named ≡ named_indices f

-- what holds at a place after these bytes: strings are read only where they are asked for
abbrev pub Holds : NamedStrings → Place → List ℕ → Type 0
Holds texts First b = b ≡ []
Holds texts (Address first) b = b ≡ []
Holds texts (Device first) b = b ≡ []
Holds texts (Header kind f) b = InSets kind f b × (length (sets_of kind f) < declared_sets kind f)
Holds texts (Set kind f total) b = InSets kind f b × (length (sets_of kind f) < declared_sets kind f)
Holds texts (Qualifier f) b = MainDone f b
Holds texts (Languages f named) b = SetsDone f b × (0 < length (named_indices f)) × (named ≡ named_indices f) × IsTrue (is_asked texts)
Holds texts (Text f s named) b = InStrings f s named b × (length s.texts < length s.languages * length named) × IsTrue (is_asked texts)
Holds texts (Configure f) b = IsRead f b × (AreBytes b → IsReport texts f b)
Holds texts (Reported f) b = IsRead f b × (AreBytes b → IsReport texts f b)
Holds texts (Stopped trouble) b = Unit {0}

-- What may still be asked for falls with each answer.

-- A new host asks for at most `most` transactions, a reset adds none, and each answer that a current read takes lowers
-- what is left, whatever it is. The premise on `left` is what one transfer promises.
pub record AsksLess : Type 0 where
  pub at_most : (limits : LimitView) (speed : Speed) (choice : Choice) → left_to_ask (chosen_host limits speed choice) ≡ most limits
  pub resets : (v : HostView) → v.phase ≡ ResetDue → v.resets < v.limits.attempts →
      IsSteady (reset v).phase × (left_to_ask (reset v) ≤ left_to_ask v)
  pub takes : (v w : HostView) (place : Place) (t : TransferView) (k : Kept) (answer : Answer) → v.phase ≡ Reading place t k → IsSteady v.phase →
      BringsBytes answer → left (taken t answer).transfer < left t → Takes v answer w → IsSteady w.phase × (left_to_ask w < left_to_ask v)
