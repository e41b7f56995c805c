use Rattle.usb_capture_lines.proofs.TellingLemmas.{met_next}
use Rattle.usb_capture_lines.proofs.seen_device.meet_all.Goals as goal

pub loop-finding-preserved : goal.loop-finding-preserved
loop-finding-preserved c =
    met_next c.args.found.now c.loop-finding.finding-index _ c.device.result _ _ _ c.loop-finding-test.true c.device.ensures c.loop-finding.invariant c.in_ok-meet.ensures
