use Rattle.std.proofs.Common.{◌∙◌}
use Rattle.usb_tool.proofs.NumberLemmas.{parses_number}
use Rattle.usb_tool.proofs.capture_options.short_number.Goals as goal

pub returns : goal.returns
returns c = c.ok.ensures.value ∙ parses_number 16 c.args.text.now c.parse.result c.parse.ensures.value.0
