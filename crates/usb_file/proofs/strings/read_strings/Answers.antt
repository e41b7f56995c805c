use Rattle.std.proofs.Common.{◌*◌, ◌<◌, subst, ap, arith}
use Rattle.usb_file.specs.inside.Reading.{StringsRefused, DueStringsRefused, no_string}
use Rattle.usb_fields.proofs.Exits.{exit_err}
use Rattle.usb_file.proofs.strings.read_strings.Goals as goal

pub returns-in_err-end-clause-err : goal.returns-in_err-end-clause-err
returns-in_err-end-clause-err c =
    let fault = c.in_err-end.field-0.0 in
    let some_named = c.if-count-eq0.false in
    let named : 0 < c.args.count = omega arith in
    let due = ap (λ n. n * c.args.count) c.len.ensures in
    let texts = subst (λ n. DueStringsRefused n c.args.b.now c.in_ok-languages.start c.read_due_strings.new.strings fault.at fault.why) due c.in_err-end.ensures.err in
    let refused : StringsRefused c.args.count c.args.b.now c.args.place fault.at fault.why =
    no_string c.in_ok-languages.languages c.in_ok-languages.start c.read_due_strings.new.strings named c.in_ok-languages.ensures.ok texts in
    exit_err c.from_residual-in_err-end.result fault (λ fault. StringsRefused c.args.count c.args.b.now c.args.place fault.at fault.why) c.from_residual-in_err-end.ensures.1 refused
