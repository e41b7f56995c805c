-- What `nzg_explain` does with bytes by its options.
use Rattle.std.specs.Prelude.{◌≡◌, ℕ, ◌/◌, ◌%◌, ◌==◌, ◌⊎◌, Bool, true, false, List}
use Rattle.usb_text.specs.Shown.{ends}
use Rattle.usb_text.specs.Written.{AreLines}
use Rattle.usb_hex.specs.Hexadecimal.{HexText}
use Rattle.usb_explain.specs.Fragments.{fragment_lines}
use Rattle.usb_explain.specs.declared.manner.Manner.{Manner}
use Rattle.usb_c.specs.declared.answer.Verdict.{Verdict}
use Rattle.usb_c.specs.declared.answer.Verdict.TheVariants as verdicts
use Rattle.usb_c.specs.Answers.{Fills}
use Rattle.usb_c.specs.FromText.{RefusesText}
use Rattle.usb_c.specs.Texts.{Explains}

-- bit 4: the bytes are a fragment
abbrev pub is_loose : ℕ → Bool
is_loose options = (options / 16) % 2 == 1

-- bit 5: they are hexadecimal text
abbrev pub is_hex : ℕ → Bool
is_hex options = (options / 32) % 2 == 1

-- the explanation of a fragment is in the buffer
pub record TellsFragment (m : Manner) (b old new : List ℕ) (verdict : Verdict) : Type 0 where
  pub text : List ℕ
  pub is : AreLines m.look.utf8 (ends (fragment_lines m b)) text
  pub fills : Fills verdicts.Done text old new verdict

-- the bytes are explained as a fragment, or else as an input
abbrev pub ExplainsAs : Bool → Manner → List ℕ → List ℕ → List ℕ → Verdict → Type 0
ExplainsAs true m b old new verdict = TellsFragment m b old new verdict ⊎ ((verdict ≡ verdicts.NoMemory) × (new ≡ old))
ExplainsAs false m b old new verdict = Explains m b old new verdict

-- the bytes that a text has are explained, and not called text
pub record ExplainsRead (loose : Bool) (m : Manner) (text old new : List ℕ) (verdict : Verdict) : Type 0 where
  pub bytes : List ℕ
  pub is : HexText text bytes
  pub explains : ExplainsAs loose (record m { decoded = true }) bytes old new verdict

-- the bytes are explained, or those of which they are the hexadecimal text, or it is refused, and the buffer is as it was
abbrev pub ExplainsBy : Bool → Bool → Manner → List ℕ → List ℕ → List ℕ → Verdict → Type 0
ExplainsBy true loose m b old new verdict = ExplainsRead loose m b old new verdict ⊎ (RefusesText b verdict × (new ≡ old))
ExplainsBy false loose m b old new verdict = ExplainsAs loose m b old new verdict
