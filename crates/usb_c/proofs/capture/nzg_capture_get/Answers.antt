use Rattle.std.proofs.Common.{rules, ◌≡◌, None, Option, refl, subst}
use Rattle.usb_capture_lines.specs.declared.recording_reader.RecordingReader.{RecordingReader}
use Rattle.usb_c.specs.declared.answer.Verdict.TheVariants as verdicts
use Rattle.usb_c.specs.Captures.{TellsHeld}
use Rattle.usb_c.proofs.capture.nzg_capture_get.Goals as goal

pub returns-in_default-clause-answer : goal.returns-in_default-clause-answer
returns-in_default-clause-answer c =
    let none : None ≡ c.args.capture.now.held = search rules in
    record {
      verdict = verdicts.Closed;
      says =
          subst
          (λ (h : Option RecordingReader). TellsHeld h c.args.kind c.args.number c.args.recorded.now c.args.recorded.now c.args.out.now c.args.out.now verdicts.Closed)
          none
          (refl, refl, refl);
      numbers = c.answer.ensures;
    }
