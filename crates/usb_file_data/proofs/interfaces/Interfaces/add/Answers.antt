use Rattle.std.proofs.Common.{◌≡◌, ◌∙◌, ap, sym}
use Rattle.usb_file_data.specs.inside.Interfaces.{kept, with_alternate, with_interface}
use Rattle.usb_file_data.proofs.Entering.{begun_is, with_interface_is, stands_now}
use Rattle.usb_file_data.proofs.interfaces.Interfaces.add.Goals as goal
use Rattle.usb_file_data.proofs.interfaces.Interfaces.add.Goals.{then-not-has+in_ok-begin, else-not-has}

pub begin-requires : goal.begin-requires
unfolding kept
begin-requires c = ap (λ t. (kept t).numbers c.args.s.now.number) (sym c.self.view_is) ∙ sym c.has.ensures ∙ c.if-not-has.true

-- the interface is there
stands_is : (c : goal.After-mark-arg-1) → kept c.if-not-has.self ≡ with_interface c.args.s.now.number c.args.setting (kept c.args.self.now)
unfolding kept
stands_is c =
    let old = kept c.args.self.now in
    let n = c.args.s.now.number in
    let has = ap (λ t. (kept t).numbers n) (sym c.self.view_is) ∙ sym c.has.ensures in
    elim c.if-not-has.branch [
      | then-not-has+in_ok-begin w ↦ ap kept w.self-is ∙ w.in_ok-begin.ensures ∙ begun_is old n c.args.setting (has ∙ w.if-not-has.true)
      | else-not-has w ↦ ap kept w.self-is ∙ with_interface_is old n c.args.setting (has ∙ w.if-not-has.false)
    ]

pub mark-requires : goal.mark-requires
mark-requires c = ap (λ e. e.numbers c.args.s.now.number) (stands_is c) ∙ stands_now (kept c.args.self.now).numbers c.args.s.now.number

pub returns-clause-entered : goal.returns-clause-entered
returns-clause-entered c = c.mark.ensures.marked ∙ ap (with_alternate c.args.s.now.number c.args.s.now.alternate) (stands_is c.before)
