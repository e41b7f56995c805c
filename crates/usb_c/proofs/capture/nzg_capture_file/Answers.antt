use Rattle.std.proofs.Common.{rules, ◌≡◌, None, Option, refl, subst}
use Rattle.usb_capture_lines.specs.declared.recording_reader.RecordingReader.{RecordingReader}
use Rattle.usb_c.specs.declared.answer.Verdict.TheVariants as verdicts
use Rattle.usb_c.specs.Captures.{TellsDevice}
use Rattle.usb_c.proofs.capture.nzg_capture_file.Goals as goal

pub returns-in_default-clause-answer : goal.returns-in_default-clause-answer
returns-in_default-clause-answer c =
    let none : None ≡ c.args.capture.now.held = search rules in
    record {
      verdict = verdicts.Closed;
      says = subst (λ (h : Option RecordingReader). TellsDevice h (record { bus = c.args.bus; device = c.args.device }) c.args.bytes.now c.args.bytes.now verdicts.Closed) none (refl, refl);
      numbers = c.answer.ensures;
    }
