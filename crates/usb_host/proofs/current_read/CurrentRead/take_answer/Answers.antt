use Rattle.std.specs.Prelude.{None}
use Rattle.usb_fields.specs.Packets.{reply_of}
use Rattle.usb_host.specs.Transfer.{taken}
use Rattle.usb_host.specs.inside.Places.{kept_of}
use Rattle.usb_host.specs.inside.Reads.{kept_in, place_in}
use Rattle.usb_host.proofs.TakeLemmas.{receives_brings, receives_steady, receives_goes, receives_completes, receives_fails}
use Rattle.usb_host.proofs.current_read.CurrentRead.take_answer.Goals as goal

-- what is kept stays where no bytes came
pub returns-in-Again-clause-received : goal.returns-in-Again-clause-received
returns-in-Again-clause-received c =
    (c.in-Again.ensures.after, receives_goes (taken c.args.self.now.transfer (reply_of c.args.answer)) (kept_in c.args.self.now) c.in-Again.ensures.received)

pub returns-in-Complete-clause-received : goal.returns-in-Complete-clause-received
returns-in-Complete-clause-received c =
    (c.in-Complete.ensures.after, receives_completes (taken c.args.self.now.transfer (reply_of c.args.answer)) (kept_in c.args.self.now) c.in-Complete.ensures.received)

pub returns-in-Failed-clause-received : goal.returns-in-Failed-clause-received
returns-in-Failed-clause-received c =
    (c.in-Failed.ensures.after, receives_fails (taken c.args.self.now.transfer (reply_of c.args.answer)) (kept_in c.args.self.now) c.in-Failed.why c.in-Failed.ensures.received)

-- new bytes are bytes
pub returns-else-add-clause-bytes : goal.returns-else-add-clause-bytes
returns-else-add-clause-bytes c =
    (receives_steady (place_in c.args.self.now) c.args.self.now.transfer (kept_in c.args.self.now) (kept_of c.args.self.now.due c.add.new.self)
    (reply_of c.args.answer) c.take.new.self None c.requires.reading.fits c.requires.reading.bytes c.requires.bytes (
      c.in-Bytes.ensures.after,
      receives_brings (taken c.args.self.now.transfer (reply_of c.args.answer)) (kept_in c.args.self.now) (kept_of c.args.self.now.due c.add.new.self)
          c.in-Bytes.bytes.now c.in-Bytes.ensures.received c.if-add.ensures,
    )).1
