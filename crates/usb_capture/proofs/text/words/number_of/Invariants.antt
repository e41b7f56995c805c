use Rattle.std.proofs.Common.{◌≡◌, drop}
use Rattle.usb_capture.specs.Words.{number_after}
use Rattle.usb_capture.proofs.text.words.number_of.Given as goal

abbrev pub invariant-loop-character : goal.invariant-loop-character
invariant-loop-character l = number_after l.fn.base l.number (drop l.character-index l.fn.text) ≡ number_after l.fn.base 0 l.fn.text
