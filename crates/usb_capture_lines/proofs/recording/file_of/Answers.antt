use Rattle.std.proofs.Common.{sym, subst}
use Rattle.usb_capture_lines.specs.RecordingRuns.{HasNoFile}
use Rattle.usb_capture_lines.proofs.RunLemmas.{made_of, none_of}
use Rattle.usb_capture_lines.proofs.recording.file_of.Goals as goal

pub returns-in-Ok-clause-ok : goal.returns-in-Ok-clause-ok
returns-in-Ok-clause-ok c s first bytes held holds report =
    made_of c.args.device c.in-Ok.file c.args.recording.now s first bytes held holds c.in-Ok.ensures.ok report

pub returns-in-Err-clause-err : goal.returns-in-Err-clause-err
returns-in-Err-clause-err c s first bytes held holds to report ended =
    subst (HasNoFile c.args.device to bytes) (sym c.device_fault_of.ensures)
    (none_of c.args.device c.in-Err.lack c.args.recording.now s first bytes held holds to c.in-Err.ensures.err report ended)
