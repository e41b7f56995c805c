use Rattle.std.proofs.Common.{◌∙◌, ℕ, List, ap, arith, inl, inr, length, refl}
use Rattle.usb_fields.proofs.Exits.{exit_err}
use Rattle.usb_text.specs.Shown.{showing_all}
use Rattle.usb_text.specs.declared.output.OutFault.TheVariants.{Memory}
use Rattle.usb_explain.specs.Explanations.{ending}
use Rattle.usb_remarks.specs.Outline.{Described, bytes_of}
use Rattle.usb_explain.proofs.Explaining.{same_outline, shows_these, stops_at_these}
use Rattle.usb_remarks.proofs.Spans.{bytes_within}
use Rattle.usb_explain.proofs.explanation.put_explanation.Goals as goal

pub put_descriptors-requires : goal.put_descriptors-requires
put_descriptors-requires g c =
    let within = bytes_within c.in_ok-subject.subject.manner.speed c.deref.result.now c.before_fault.result.now in
    omega (arith, within, c.before_fault.type_inv)

pub returns-in_err-found-clause-stops : goal.returns-in_err-found-clause-stops
returns-in_err-found-clause-stops g c = exit_err _ Memory _ c.from_residual.ensures.1 (inl (refl, refl))

pub returns-in_err-subject-clause-stops : goal.returns-in_err-subject-clause-stops
returns-in_err-subject-clause-stops g c = exit_err _ Memory _ c.from_residual-in_err-subject.ensures.1 (inl (refl, refl))

pub returns-in_err-put_first_line-clause-stops : goal.returns-in_err-put_first_line-clause-stops
returns-in_err-put_first_line-clause-stops g c = exit_err _ Memory _ c.from_residual-in_err-put_first_line.ensures.1 (inl (refl, refl))

pub returns-in_err-put-clause-stops : goal.returns-in_err-put-clause-stops
returns-in_err-put-clause-stops g c =
    exit_err _ _ _ c.from_residual-in_err-put.ensures.1
    (inr (inr (record {
      begun = c.put_first_line.new.page;
      begins = c.in_ok-put_first_line.ensures;
      stops = stops_at_these g.P.Page.seen g.P.Page.showing g.P.PassingPage.passed g.P.PassingPage.broken c.args.manner c.args.read.now c.args.bytes.now _ _ _
          c.in_ok-subject.ensures (c.deref.ensures.value ∙ c.in_ok-found.ensures) c.before_fault.ensures _ _ _ _ c.in_err-put.ensures.stops;
    })))

pub returns-in_err-put_ending-clause-stops : goal.returns-in_err-put_ending-clause-stops
returns-in_err-put_ending-clause-stops g c =
    exit_err _ Memory _ c.from_residual-in_err-put_ending.ensures.1
    (inr (inl (
      refl,
      record {
        begun = c.put_first_line.new.page;
        begins = c.in_ok-put_first_line.ensures;
        gone = c.put_descriptors.new.page;
        each = shows_these g.P.Page.seen g.P.Page.showing g.P.PassingPage.passed g.P.PassingPage.broken c.args.manner c.args.read.now c.args.bytes.now _ _ _
            c.in_ok-subject.ensures (c.deref.ensures.value ∙ c.in_ok-found.ensures) c.before_fault.ensures _ _ _ _ c.in_ok-put.ensures.shows;
      },
    )))

pub returns-clause-shows : goal.returns-clause-shows
returns-clause-shows g c =
    let same = same_outline g.P.Page.seen g.P.Page.showing g.P.PassingPage.passed g.P.PassingPage.broken c.args.manner c.args.read.now c.args.bytes.now _ _ _
    c.in_ok-subject.ensures (c.deref.ensures.value ∙ c.in_ok-found.ensures) c.before_fault.ensures in
    record {
      begun = c.put_first_line.new.page;
      begins = c.in_ok-put_first_line.ensures;
      gone = c.put_descriptors.new.page;
      each = shows_these g.P.Page.seen g.P.Page.showing g.P.PassingPage.passed g.P.PassingPage.broken c.args.manner c.args.read.now c.args.bytes.now _ _ _
          c.in_ok-subject.ensures (c.deref.ensures.value ∙ c.in_ok-found.ensures) c.before_fault.ensures _ _ _ _ c.in_ok-put.ensures.shows;
      ended = c.in_ok-put_ending.ensures
          ∙ ap (λ (n : ℕ). showing_all g.P.Page.showing (ending c.args.manner c.args.read.now c.args.bytes.now n) (g.P.Page.seen c.put_descriptors.new.page))
          (c.in_ok-put.ensures.end ∙ ap (λ (ds : List Described). length (bytes_of ds)) same);
    }
