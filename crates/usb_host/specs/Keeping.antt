-- What a host keeps of the bytes of a read.
use Rattle.std.specs.Prelude.{◌≡◌, ℕ, ◌||◌, nat_lt, Bool, true, false, List, [], ◌++◌, length, Option, Some, None, Result, Ok, Err}
use Rattle.usb_set.specs.declared.tree.Configuration.{Configuration}
use Rattle.usb_set.specs.declared.fault.SetFault.{SetFault}
use Rattle.usb_set.specs.declared.fault.SetWhy.TheVariants.{Memory}
use Rattle.usb_set.specs.declared.decoder.Progress.{Progress}
use Rattle.usb_set.specs.declared.decoder.Progress.TheVariants.{More, Done}
use Rattle.usb_set.specs.Decoding.{Decoding, gathers, has, refused, Answers}
use Rattle.usb_host.specs.Place.{Place}
use Rattle.usb_host.specs.Place as places

-- what is kept of the current read: the bytes, or of a set its decoder and whether bytes came after the set's last
pub data Kept : Type 0 where
  Bytes : (bytes : List ℕ) → Kept
  Set : (decoder : Decoding) (over : Bool) → Kept

-- what a read begins with: a set has a decoder, and any other read an empty list
abbrev pub nothing_kept : Place → Kept
nothing_kept (places.Set kind f total) = Set (gathers []) false
nothing_kept _ = Bytes []

-- a decoder was refused memory
abbrev pub WantsMemory : Result Progress SetFault → Type 0
WantsMemory (Ok progress) = ⊥
WantsMemory (Err fault) = fault.why ≡ Memory

-- whether bytes came after the set's last, after a piece of this many
abbrev pub is_over : Bool → Result Progress SetFault → ℕ → Bool
is_over over (Ok More) count = over
is_over over (Ok (Done used)) count = over || nat_lt used count
is_over over (Err fault) count = over

-- New bytes are kept: those of a set go to its decoder as they came, which answers so.
abbrev pub Keeps : Kept → List ℕ → Result Progress SetFault → Kept → Type 0
Keeps (Bytes bytes) piece result (Bytes new) = new ≡ bytes ++ piece
Keeps (Bytes bytes) piece result (Set d over) = ⊥
Keeps (Set d over) piece result (Bytes new) = ⊥
Keeps (Set d over) piece result (Set new now) = Answers d piece result new × (now ≡ is_over over result (length piece))

-- the set that a decoder has, where no byte came after its end
abbrev pub set_kept : Decoding → Bool → Option Configuration
set_kept (has c) false = Some c
set_kept (has c) true = None
set_kept (gathers s) over = None
set_kept (refused fault) over = None
