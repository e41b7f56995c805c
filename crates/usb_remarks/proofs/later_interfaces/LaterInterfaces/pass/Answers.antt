use Rattle.usb_remarks.proofs.Coming.{awaits_next, awaits_other, other_left}
use Rattle.usb_remarks.proofs.later_interfaces.LaterInterfaces.pass.Goals as goal

pub returns-in-Interface : goal.returns-in-Interface
returns-in-Interface c p is awaits =
    let role = c.in-Interface.is in
    rw (other_left c.args.role c.args.ahead.now p (λ other. absurd (cc)))
    (awaits_next p c.args.role c.args.self.now c.leave.new.self c.args.count c.args.ahead.now is awaits c.leave.ensures.cells (λ len n within. rw c.prefix.ensures at (c.leave.ensures.counts len n within)))

pub returns-in_default : goal.returns-in_default
returns-in_default c p is awaits =
    rw (other_left c.args.role c.args.ahead.now p c.in_default.not-Configuration)
    (awaits_other p c.args.role c.args.self.now c.args.count c.args.ahead.now is c.in_default.not-Interface awaits)
