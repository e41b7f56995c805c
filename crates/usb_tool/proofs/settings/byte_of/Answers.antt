use Rattle.std.proofs.Common.{◌∙◌, ap, sym}
use Rattle.usb_tool.specs.Settings.{byte_said}
use Rattle.usb_tool.proofs.NumberLemmas.{parses_number}
use Rattle.usb_tool.proofs.settings.byte_of.Goals as goal

pub returns-in-Some : goal.returns-in-Some
returns-in-Some c =
    c.ok.ensures.value ∙ (parses_number 8 c.in-Some.text.now c.parse.result c.parse.ensures.value.0 ∙ ap (byte_said c.args.absent) (sym c.in-Some.is))
