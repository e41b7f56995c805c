use Rattle.usb_capture.proofs.PartLemmas.{others_step}
use Rattle.usb_capture.proofs.device_file.other_parts.Goals as goal

pub loop-index-preserved : goal.loop-index-preserved
loop-index-preserved c =
    others_step c.args.device c.beside-in-loop-index.result c.loop-index.index c.byte_at-index-end.result c.from.result c.loop-index.asked.items c.push-in-loop-index.new.self.items _
    c.loop-index-test.true c.loop-index.invariant c.beside-in-loop-index.ensures c.from.ensures c.in_ok-push-2.ensures.items
