-- What calls do to a decoder that C holds, or to none.
use Rattle.std.specs.Prelude.{◌≡◌, ℕ, List, [], length, Option, Some, None, Result, Ok, Err}
use Rattle.usb_set.specs.declared.tree.Configuration.{Configuration}
use Rattle.usb_set.specs.declared.fault.SetFault.{SetFault}
use Rattle.usb_set.specs.declared.decoder.Progress.{Progress}
use Rattle.usb_set.specs.declared.decoder.Progress.TheVariants.{More, Done}
use Rattle.usb_set.specs.Decoding.{Decoding, gathers, Answers, Finishes}
use Rattle.usb_listing.specs.Listing.{set_lines}
use Rattle.usb_c.specs.declared.answer.Verdict.{Verdict}
use Rattle.usb_c.specs.declared.answer.Verdict.TheVariants as verdicts
use Rattle.usb_c.specs.Answers.{Fills, refused_set}

-- a new decoder is held, or none when out of memory
abbrev pub OpensNew : Option Decoding → Verdict → Type 0
OpensNew new (verdicts.Done length) = (length ≡ 0) × (new ≡ Some (gathers []))
OpensNew new verdicts.NoMemory = new ≡ None
OpensNew new verdict = ⊥

-- what a decoder answers to a piece, as a verdict
abbrev pub report : List ℕ → Result Progress SetFault → Verdict
report piece (Ok More) = verdicts.Open (length piece)
report piece (Ok (Done used)) = verdicts.Done used
report piece (Err fault) = refused_set fault

-- a decoder that is held answers to the piece, and what it becomes is held
pub record FeedsHeld (old : Decoding) (piece : List ℕ) (new : Option Decoding) (verdict : Verdict) : Type 0 where
  pub after : Decoding
  pub result : Result Progress SetFault
  pub answers : Answers old piece result after
  pub holds : new ≡ Some after
  pub says : verdict ≡ report piece result

-- and none does nothing
abbrev pub Feeds : Option Decoding → List ℕ → Option Decoding → Verdict → Type 0
Feeds None piece new verdict = (new ≡ None) × (verdict ≡ verdicts.Closed)
Feeds (Some old) piece new verdict = FeedsHeld old piece new verdict

-- the set's listing is in the buffer, or there is no set and this is its fault
abbrev pub ListsSet : Result Configuration SetFault → List ℕ → List ℕ → Verdict → Type 0
ListsSet (Ok set) old new verdict = Fills verdicts.Done (set_lines set) old new verdict
ListsSet (Err fault) old new verdict = (verdict ≡ refused_set fault) × (new ≡ old)

-- the set that a decoder ends with
pub record ListsHeld (held : Decoding) (old new : List ℕ) (verdict : Verdict) : Type 0 where
  pub result : Result Configuration SetFault
  pub finishes : Finishes held result
  pub lists : ListsSet result old new verdict

abbrev pub Lists : Option Decoding → List ℕ → List ℕ → Verdict → Type 0
Lists None old new verdict = (verdict ≡ verdicts.Closed) × (new ≡ old)
Lists (Some held) old new verdict = ListsHeld held old new verdict
