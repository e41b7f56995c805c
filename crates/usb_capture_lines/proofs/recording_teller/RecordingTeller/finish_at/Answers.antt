use Rattle.std.proofs.Common.{[], ◌≡◌, true, false, ◌∙◌, sym}
use Rattle.std.specs.Prelude.{is_some}
use Rattle.std.proofs.lemmas.Result.{on_ok_weaker}
use Rattle.usb_text.proofs.Pages.{appends_nothing, keeps_refl}
use Rattle.usb_capture_lines.proofs.RecordingLemmas.{ends_begun, ends_unbegun, reported_broken}
use Rattle.usb_capture_lines.proofs.recording_teller.RecordingTeller.finish_at.Goals as goal

pub returns-then-has_begun : goal.returns-then-has_begun
returns-then-has_begun g c =
    on_ok_weaker c.finish.result (λ appended s first bytes why held report.
    let some : is_some c.args.self.now.teller.tally.link ≡ true = sym c.has_begun.ensures ∙ c.if-has_begun.true in
    reported_broken s first bytes why c.args.at c.args.self.now held _ _ _ report (ends_begun s first report.frames c.args.self.now.teller held _ report.report c.args.at some) appended) c.finish.ensures

pub returns-else-has_begun : goal.returns-else-has_begun
returns-else-has_begun g c s first bytes why held report =
    let none : is_some c.args.self.now.teller.tally.link ≡ false = sym c.has_begun.ensures ∙ c.if-has_begun.false in
    reported_broken s first bytes why c.args.at c.args.self.now held _ _ [] report (ends_unbegun s first report.frames c.args.self.now.teller held _ report.report c.args.at none) (appends_nothing _ _ (keeps_refl _))
