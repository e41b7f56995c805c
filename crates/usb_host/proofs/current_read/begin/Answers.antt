use Rattle.std.proofs.Common.{[], refl, ap, ◌∙◌}
use Rattle.usb_host.specs.declared.due.Due.TheVariants as dues
use Rattle.usb_host.specs.Keeping as kept
use Rattle.usb_host.specs.Place.{First}
use Rattle.usb_host.specs.Steps.{Reading}
use Rattle.usb_host.proofs.current_read.begin.Goals as goal

-- nothing is kept yet
pub returns-clause-stands : goal.returns-clause-stands
returns-clause-stands c =
    ap (λ k. Reading First c.transfer_at-transfer.result k) (c.new.ensures dues.First c.new-draft.result)
    ∙ c.transfer_at-transfer.ensures (kept.Bytes []) refl
