use Rattle.usb_tool.proofs.PointLemmas.{around}
use Rattle.usb_tool.proofs.capture_options.around_point.Goals as goal

pub returns : goal.returns
returns c = around c.args.text.now c.split_once.result c.split_once.ensures.cases
