-- On what a command comes to.
use Rattle.std.proofs.Common.{◌≡◌, ℕ, Result, Ok, Err, refl, sym, subst}
use Rattle.std.specs.Prelude.{IfErr, IfOk}
use Rattle.usb_text.specs.Output.{Held}
use Rattle.usb_tool.specs.Endings.{Failure, Left, Work}
use Rattle.usb_tool.specs.Enumerations.{Conditions, EnumerateFails, EnumeratedTo}
use Rattle.usb_tool.specs.Outcomes.{outcome_of, outcome_of_enumeration}
use Rattle.usb_tool.specs.Runs.{Ends, EndsUnder}
use Rattle.usb_tool.specs.declared.enumeration_end.EnumerationEnd.{EnumerationEnd}
use Rattle.usb_tool.specs.declared.fault.ToolFault.{ToolFault}
use Rattle.usb_tool.specs.declared.meaning.Hint.{Hint}
use Rattle.usb_tool.specs.declared.outcome.Outcome.{Outcome}

-- a command with this answer ends so
pub command_ends : (hint : Hint) (does : Work) (fails : Failure) (answer : Result ℕ ToolFault) (from to : Left) (held holds : Held) (outcome : Outcome)
    → IfOk answer (does from to held holds) → IfErr answer (fails from to held holds) → outcome ≡ outcome_of hint answer
    → Ends hint does fails from to held holds outcome
command_ends hint does fails (Ok number) from to held holds outcome done failed is = subst (Ends hint does fails from to held holds) (sym is) done
command_ends hint does fails (Err fault) from to held holds outcome done failed is = subst (Ends hint does fails from to held holds) (sym is) (failed, refl)

-- and an enumeration
pub enumeration_ends : (c : Conditions) (answer : Result EnumerationEnd ToolFault) (from to : Left) (held holds : Held) (outcome : Outcome)
    → IfOk answer (EnumeratedTo c from to held holds) → IfErr answer (EnumerateFails c from to held holds) → outcome ≡ outcome_of_enumeration c.flags answer
    → EndsUnder c from to held holds outcome
enumeration_ends c (Ok end) from to held holds outcome done failed is = subst (EndsUnder c from to held holds) (sym is) (done, refl)
enumeration_ends c (Err fault) from to held holds outcome done failed is = subst (EndsUnder c from to held holds) (sym is) (failed, refl)
