use Rattle.std.proofs.Common.{◌≡◌, ◌<◌, drop}
use Rattle.usb_tool.specs.OptionValues.{BeginsWithFate, fates_of}
use Rattle.usb_tool.proofs.FateLemmas.{with_rest}
use Rattle.usb_tool.proofs.settings.read_fates.Given as goal

abbrev pub invariant-loop-letter : goal.invariant-loop-letter
invariant-loop-letter l =
    record {
      read : fates_of l.text ≡ with_rest l.fates.items (fates_of (drop l.letter-index l.text));
      begun : 0 < l.letter-index → BeginsWithFate l.text;
    }
