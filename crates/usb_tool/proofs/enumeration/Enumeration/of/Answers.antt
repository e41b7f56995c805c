use Rattle.std.proofs.Common.{ap₂}
use Rattle.usb_tool.specs.Enumerations.{under}
use Rattle.usb_tool.proofs.enumeration.Enumeration.of.Goals as goal

pub returns : goal.returns
returns c =
    let s = c.args.given.now in
    ap₂ (λ fates changes. under s.settings.limits s.settings.speed fates changes s.flags) c.deref.ensures.value c.deref-2.ensures.value
