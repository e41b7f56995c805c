use Rattle.std.proofs.Common.{[], ◌∷◌, arith, inl, inr, subst}
use Rattle.std.proofs.KnownBytes.{Consumes-kept, Consumes-nil, Consumes-trans}
use Rattle.usb_tool.specs.inside.Intake.{ReadsByte}
use Rattle.usb_tool.proofs.Intakes.{stops_early}
use Rattle.usb_tool.proofs.input.read_front.Goals as goal

pub returns-in_err-first-clause-err : goal.returns-in_err-first-clause-err
returns-in_err-first-clause-err g c =
    let failed = c.in_err-first.ensures.err in
    stops_early _ _ 2 _ _ c.from_residual.ensures.1 (inl failed.0) (record {
      bytes = [];
      read = Consumes-kept _ _ _ [] (Consumes-nil _) failed.1;
      within = omega arith;
    })

pub returns-in_err-second-clause-err : goal.returns-in_err-second-clause-err
returns-in_err-second-clause-err g c =
    let failed = c.in_err-second.ensures.err in
    let read = subst (ReadsByte _ _) c.in-Some.is c.in_ok-first.ensures.ok in
    stops_early _ _ 2 _ _ c.from_residual-in_err-second.ensures.1 (inl failed.0) (record {
      bytes = c.in-Some.first ∷ [];
      read = Consumes-kept _ _ _ _ read failed.1;
      within = omega arith;
    })

pub returns-in_err-begin-3-clause-err : goal.returns-in_err-begin-3-clause-err
returns-in_err-begin-3-clause-err g c =
    let first = subst (ReadsByte _ _) c.in-Some.is c.in_ok-first.ensures.ok in
    let second = subst (ReadsByte _ _) c.in-Some-2.is c.in_ok-second.ensures.ok in
    stops_early _ _ 2 _ _ c.from_residual-in_err-begin-3.ensures.1 (inr c.in_err-begin-3.ensures.err) (record {
      bytes = c.in-Some.first ∷ c.in-Some-2.second ∷ [];
      read = Consumes-trans _ _ _ _ _ first second;
      within = omega arith;
    })
