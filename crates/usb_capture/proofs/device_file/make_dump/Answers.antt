use Rattle.usb_capture.proofs.PartLemmas.{dump_step}
use Rattle.usb_capture.proofs.device_file.make_dump.Goals as goal

pub loop-index-preserved : goal.loop-index-preserved
loop-index-preserved c =
    dump_step c.args.kept.now c.args.device c.beside.result c.loop-index.index c.byte_at-index-end.result c.from.result c.loop-index.dump.items c.extend_from_slice.new.self.items c.in-Some.set.now _
    c.loop-index-test.true c.loop-index.invariant c.beside.ensures c.from.ensures c.in-Some.ensures c.in_ok-extend_from_slice.ensures.items
