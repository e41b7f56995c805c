use Rattle.std.proofs.Common.{◌∙◌, ap, sym}
use Rattle.usb_tool.specs.Settings.{word_said}
use Rattle.usb_tool.proofs.NumberLemmas.{parses_number}
use Rattle.usb_tool.proofs.settings.word_of.Goals as goal

pub returns-in-Some : goal.returns-in-Some
returns-in-Some c =
    c.ok.ensures.value ∙ (parses_number 16 c.in-Some.text.now c.parse.result c.parse.ensures.value.0 ∙ ap (word_said c.args.absent) (sym c.in-Some.is))
