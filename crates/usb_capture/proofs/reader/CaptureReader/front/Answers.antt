use Rattle.std.proofs.Common.{arith}
use Rattle.usb_capture.proofs.Parts.{front_of}
use Rattle.usb_capture.proofs.reader.CaptureReader.front.Goals as goal

pub returns-clause-is : goal.returns-clause-is
returns-clause-is c = front_of c.args.self.now c.args.piece.now _ c.whole-whole.ensures (omega (arith, c.if-self-gt0.false)) (omega (arith, c.if-whole-piece.false))
