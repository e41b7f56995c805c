use Rattle.std.proofs.Common.{sym, ◌∙◌}
use Rattle.usb_find.proofs.Standing.{is_device, is_none, is_set}
use Rattle.usb_find.proofs.search.standing.Goals as goal

pub returns-then-is_device-clause-value : goal.returns-then-is_device-clause-value
returns-then-is_device-clause-value g c = is_device c.args.bytes.now c.args.place (sym c.is_device.ensures ∙ c.if-is_device.true)

pub returns-in_default-clause-value : goal.returns-in_default-clause-value
returns-in_default-clause-value g c = is_none c.args.bytes.now c.args.place (sym c.is_device.ensures ∙ c.if-is_device.false) (sym c.in_default.ensures.value)

pub returns-clause-value : goal.returns-clause-value
returns-clause-value g c = is_set c.args.bytes.now c.args.place c.in-Some.length (sym c.is_device.ensures ∙ c.if-is_device.false) (sym c.in-Some.ensures.value)
