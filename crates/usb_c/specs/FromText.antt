-- The bytes of hexadecimal text.
use Rattle.std.specs.Prelude.{◌≡◌, ℕ, ◌⊎◌, List, Option}
use Rattle.usb_hex.specs.Hexadecimal.{HexFaulty, HexText}
use Rattle.usb_hex.specs.declared.hex_text.HexFault.TheVariants as hexes
use Rattle.usb_c.specs.declared.answer.Verdict.{Verdict}
use Rattle.usb_c.specs.declared.answer.Verdict.TheVariants as verdicts
use Rattle.usb_c.specs.Answers.{Fills}

-- the bytes that a text has are in the buffer
pub record TellsText (text old new : List ℕ) (verdict : Verdict) : Type 0 where
  pub bytes : List ℕ
  pub is : HexText text bytes
  pub fills : Fills verdicts.Done bytes old new verdict

-- the text isn't hexadecimal from this line and column on, or out of memory
abbrev pub RefusesText : List ℕ → Verdict → Type 0
RefusesText text (verdicts.Text line column) = (found : Option ℕ) × HexFaulty text (hexes.Text line column found)
RefusesText text verdicts.NoMemory = Unit {0}
RefusesText text verdict = ⊥

-- its bytes, or it is refused, and the buffer is as it was
abbrev pub ReadsText : List ℕ → List ℕ → List ℕ → Verdict → Type 0
ReadsText text old new verdict = TellsText text old new verdict ⊎ (RefusesText text verdict × (new ≡ old))
