use Rattle.std.proofs.Common.{sym, ◌∙◌}
use Rattle.usb_file.specs.inside.Reading.{OtherRefused, no_set}
use Rattle.usb_fields.proofs.Exits.{exit_err}
use Rattle.usb_file.proofs.file_reader.read_other.Goals as goal

pub returns-in_err-end-clause-err : goal.returns-in_err-end-clause-err
returns-in_err-end-clause-err c =
    let fault = c.in_err-end.field-0.0 in
    let left = rw c.rest.ensures at c.begins_qualifier.ensures in
    let begins = sym left ∙ c.if-not-begins_qualifier.false in
    let refused : OtherRefused c.args.b.now c.args.place fault.at fault.why =
    no_set c.in_ok-qualifier.qualifier c.read_sets.new.sets begins c.in_ok-qualifier.ensures.ok c.in_err-end.ensures.err in
    exit_err c.from_residual-in_err-end.result fault (λ fault. OtherRefused c.args.b.now c.args.place fault.at fault.why) c.from_residual-in_err-end.ensures.1 refused
