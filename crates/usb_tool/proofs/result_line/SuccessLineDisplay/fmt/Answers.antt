use Rattle.std.proofs.Common.{ap, codes, sym, ◌++◌}
use Rattle.std.proofs.Output.{has_written_of_eq}
use Rattle.std.specs.Fmt.{decimal}
use Rattle.usb_tool.specs.Enumerations.{success_line}
use Rattle.usb_tool.proofs.Telling.{eight_joined}
use Rattle.usb_tool.proofs.result_line.SuccessLineDisplay.fmt.Goals as goal

pub returns-clause-writes : goal.returns-clause-writes
unfolding success_line
returns-clause-writes g c plain ok =
    let run = c.args.self.now.0.now in
    has_written_of_eq _ _ _ _ _
    (ap (λ l. codes "success attempts " ++ l) (sym (eight_joined (decimal run.attempts) (codes " transactions ") (decimal run.transactions)
    (codes " address ") (decimal run.state.address) (codes " value ") (decimal run.state.selected) (codes "\n"))))
    (c.write.ensures.writes plain ok)
