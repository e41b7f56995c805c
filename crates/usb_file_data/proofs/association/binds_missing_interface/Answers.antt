use Rattle.std.proofs.Common.{◌+◌, ◌∙◌, ap, nat_lt}
use Rattle.usb_file_data.specs.inside.Interfaces.{kept}
use Rattle.usb_file_data.proofs.Walking.{misses_else}
use Rattle.usb_file_data.proofs.association.binds_missing_interface.Goals as goal

pub returns-else-a-eq0 : goal.returns-else-a-eq0
returns-else-a-eq0 c =
    let next = c.next_absent.result in
    let a = c.args.a.now in
    ap (λ k. nat_lt next (k + c.from-else-a-eq0.result)) c.from.ensures ∙ ap (λ k. nat_lt next (a.first + k)) c.from-else-a-eq0.ensures
    ∙ misses_else (kept c.args.interfaces.now).numbers a next c.next_absent.ensures c.if-a-eq0.false
