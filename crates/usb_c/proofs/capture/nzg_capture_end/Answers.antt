use Rattle.std.proofs.Common.{rules, ◌≡◌, ◌∙◌, ℕ, List, None, Option, Some, ap, length, refl, subst}
use Rattle.usb_capture.specs.declared.frame.Frame.{Frame}
use Rattle.usb_capture_lines.specs.Following.{HasRead}
use Rattle.usb_capture_lines.specs.Observations.{Observed}
use Rattle.usb_capture_lines.specs.declared.recording_reader.RecordingReader.{RecordingReader}
use Rattle.usb_c.specs.declared.answer.Verdict.TheVariants as verdicts
use Rattle.usb_c.specs.Captures.{EndsAt}
use Rattle.usb_c.proofs.capture.nzg_capture_end.Goals as goal

pub returns-in_default-clause-answer : goal.returns-in_default-clause-answer
returns-in_default-clause-answer c =
    let none : None ≡ c.args.capture.now.held = search rules in
    record { verdict = verdicts.Closed; says = subst (λ (h : Option RecordingReader). EndsAt h verdicts.Closed) none refl; numbers = c.answer.ensures }

pub returns-clause-answer : goal.returns-clause-answer
returns-clause-answer c =
    let held : Some c.in-Some.held.value ≡ c.args.capture.now.held = c.in-Some.ensures ∙ ap (λ d. d.held) c.replace.ensures.value in
    record {
      verdict = verdicts.Due c.place.result c.pending.result;
      says =
          subst (λ (h : Option RecordingReader). EndsAt h (verdicts.Due c.place.result c.pending.result)) held
          (record {
            left = c.pending.result;
            says = ap (λ p. verdicts.Due p c.pending.result) (c.place.ensures ∙ ap (λ (r : RecordingReader). r.reader.place) c.deref.ensures);
            part =
                subst
                (λ (r : RecordingReader). (bytes : List ℕ) (frames : List Frame) (observed : List Observed) (read : HasRead bytes frames observed r) → c.pending.result ≡ length read.read.1)
                c.deref-2.ensures c.pending.ensures;
          });
      numbers = c.answer-2.ensures;
    }
