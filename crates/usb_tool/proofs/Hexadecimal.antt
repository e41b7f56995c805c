-- On bytes that are explained as what their hexadecimal text says, or as they are.
use Rattle.std.proofs.Common.{◌≡◌, ℕ, Bool, true, false, List, length, Option, Result, Ok, Err, refl, inl, inr}
use Rattle.std.specs.Prelude.{IfErr, IfOk}
use Rattle.std.specs.Io.KnownBytes.{Appends}
use Rattle.usb_hex.specs.Hexadecimal.{HexFaulty, HexRefused, HexText}
use Rattle.usb_hex.specs.declared.hex_text.HexFault.{HexFault}
use Rattle.usb_hex.specs.declared.hex_text.HexFault.TheVariants as hexes
use Rattle.usb_explain.specs.declared.manner.Manner.{Manner}
use Rattle.usb_text.specs.Output.{Held}
use Rattle.usb_hex.specs.Stops.{stop_line}
use Rattle.usb_text.proofs.Pages.{keeps_refl}
use Rattle.usb_tool.specs.Endings.{Writes}
use Rattle.usb_tool.specs.Explains.{RefusesAs, RefusesText, ReportsAs, ReportsText, decoded_manner, hexadecimal_words}
use Rattle.usb_tool.specs.declared.fault.ToolFault.{ToolFault}
use Rattle.usb_tool.specs.declared.fault.ToolFault.TheVariants as faults

-- a fault at a place is no want of memory
pub no_text : (b : List ℕ) (line column : ℕ) (found : Option ℕ) → HexRefused b (hexes.Text line column found)
    → HexFaulty b (hexes.Text line column found)
no_text b line column found (inl memory) = cc
no_text b line column found (inr faulty) = faulty

module _ (loose hex : Bool) (m : Manner) (b : List ℕ) (held holds : Held) where
  -- hexadecimal text is explained as its bytes
  pub reported_of_text : (bytes : List ℕ) (r : Result ℕ ToolFault) → HexText b bytes
      → IfOk r (Writes Appends (ReportsAs loose (decoded_manner m) (hexadecimal_words (length bytes))) bytes held holds)
      → IfOk r (Writes Appends (ReportsText loose hex m) b held holds)
  reported_of_text bytes (Ok status) text written = record {
    text = written.text;
    report = record { manner = decoded_manner m; bytes = bytes; heading = hexadecimal_words (length bytes); is = inl (text, refl, refl); done = written.report };
    written = written.written;
  }
  reported_of_text bytes (Err fault) text written = tt

  pub refused_of_text : (bytes : List ℕ) (r : Result ℕ ToolFault) → HexText b bytes
      → IfErr r (RefusesAs loose (decoded_manner m) (hexadecimal_words (length bytes)) bytes held holds) → IfErr r (RefusesText loose hex m b held holds)
  refused_of_text bytes (Ok status) text refused = tt
  refused_of_text bytes (Err fault) text refused =
      inl (record { manner = decoded_manner m; bytes = bytes; heading = hexadecimal_words (length bytes); is = inl (text, refl, refl); done = refused })

  -- and other bytes as they are
  pub reported_as_is : (fault : HexFault) (r : Result ℕ ToolFault) → hex ≡ false → HexFaulty b fault
      → IfOk r (Writes Appends (ReportsAs loose m (stop_line b fault)) b held holds) → IfOk r (Writes Appends (ReportsText loose hex m) b held holds)
  reported_as_is fault (Ok status) free faulty written = record {
    text = written.text;
    report = record { manner = m; bytes = b; heading = stop_line b fault; is = inr (free, (fault, faulty, refl), refl, refl); done = written.report };
    written = written.written;
  }
  reported_as_is fault (Err e) free faulty written = tt

  pub refused_as_is : (fault : HexFault) (r : Result ℕ ToolFault) → hex ≡ false → HexFaulty b fault
      → IfErr r (RefusesAs loose m (stop_line b fault) b held holds) → IfErr r (RefusesText loose hex m b held holds)
  refused_as_is fault (Ok status) free faulty refused = tt
  refused_as_is fault (Err e) free faulty refused =
      inl (record { manner = m; bytes = b; heading = stop_line b fault; is = inr (free, (fault, faulty, refl), refl, refl); done = refused })

-- where hexadecimal text has to be, other bytes are refused
pub text_refused : (loose hex : Bool) (m : Manner) (b : List ℕ) (held : Held) (line column : ℕ) (found : Option ℕ) → hex ≡ true
    → HexFaulty b (hexes.Text line column found) → RefusesText loose hex m b held held (faults.Hex line column)
text_refused loose hex m b held line column found demanded faulty = inr ((demanded, (found, faulty)), keeps_refl held)

pub text_unread : (loose hex : Bool) (m : Manner) (b : List ℕ) (held : Held) → RefusesText loose hex m b held held faults.Memory
text_unread loose hex m b held = inr (tt, keeps_refl held)
