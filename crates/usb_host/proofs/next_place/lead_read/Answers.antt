use Rattle.std.proofs.Common.{subst}
use Rattle.usb_host.specs.Transfer.{Completes}
use Rattle.usb_host.specs.Order.{bytes_lead}
use Rattle.usb_host.specs.Place.{First, Device, Header}
use Rattle.usb_host.specs.inside.Places.{LeadsTo}
use Rattle.usb_host.proofs.next_place.lead_read.Goals as goal

-- src/next_place.rt: the bytes that are held are those that were read
pub returns-in-First-clause-leads : goal.returns-in-First-clause-leads
returns-in-First-clause-leads c =
    rw c.in-First.is
    (subst (λ b. LeadsTo c.args.terms.choice.strings Completes First (bytes_lead c.args.terms First b) c.args.draft.now c.read_first.result) c.as_slice.ensures
    (c.read_first.ensures c.args.draft.now))

pub returns-in-Device-clause-leads : goal.returns-in-Device-clause-leads
returns-in-Device-clause-leads c =
    rw c.in-Device.is
    (subst (λ b. LeadsTo c.args.terms.choice.strings Completes (Device c.in-Device.first) (bytes_lead c.args.terms (Device c.in-Device.first) b) c.read_device.new.draft c.read_device.result)
    c.as_slice-in-Device.ensures c.read_device.ensures)

pub returns-in-Header-clause-leads : goal.returns-in-Header-clause-leads
returns-in-Header-clause-leads c =
    rw c.in-Header.is
    (subst
    (λ b. LeadsTo c.args.terms.choice.strings Completes (Header c.in-Header.kind c.args.draft.now.file) (bytes_lead c.args.terms (Header c.in-Header.kind c.args.draft.now.file) b)
    c.args.draft.now c.read_header.result)
    c.as_slice-in-Header.ensures (c.read_header.ensures c.args.draft.now))
