use Rattle.usb_host.specs.inside.Places.{place_of}
use Rattle.usb_host.specs.inside.Reads.{kept_in, place_in}
use Rattle.usb_host.proofs.TakeLemmas.{next_good}
use Rattle.usb_host.proofs.current_read.CurrentRead.go_on.Goals as goal

-- src/current_read.rt: where a read leads to is good
pub transfer_at-self-requires : goal.transfer_at-self-requires
transfer_at-self-requires c =
    next_good c.args.terms.now (place_in c.args.self.now) c.args.self.now.transfer (kept_in c.args.self.now) c.args.ending
    (place_of c.lead-due.result c.lead-due.new.self.draft) c.args.self.now.forgiven c.lead-due.new.self.forgiven c.requires.good c.requires.fits c.requires.bytes c.lead-due.ensures
