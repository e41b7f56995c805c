use Rattle.std.proofs.Common.{refl, ap, ◌∙◌, rules}
use Rattle.usb_fields.specs.Packets.{reply_of}
use Rattle.usb_bus.specs.inside.Running.{is_write, transfer_of}
use Rattle.usb_bus.proofs.Leading.{failure_in, failure_in-taken}
use Rattle.usb_bus.proofs.sender.SenderTakesAnswerVecU8.take_answer.Goals as goal

pub returns-in-Failed : goal.returns-in-Failed
returns-in-Failed c =
    let t = transfer_of c.args.self.now in
    let failure = ap failure_in c.in-Failed.ensures.received ∙ failure_in-taken (is_write c.args.self.now) t t.stage (reply_of c.args.came) refl in
    (search rules, rw c.take.ensures.after failure, search rules, c.take.ensures.fewer, search rules)
