use Rattle.std.proofs.Common.{◌≡◌, ◌++◌, ◌-◌, ◌^◌, min, take, length}
use Rattle.std.proofs.lemmas.Result.{err_from_is_err_and}
use Rattle.usb_capture.proofs.Parts.{kept, refused_piece, takes_some}
use Rattle.usb_capture.proofs.reader.CaptureReader.advance.Goals as goal

pub returns-in_err-frame-clause-refused : goal.returns-in_err-frame-clause-refused
returns-in_err-frame-clause-refused c =
    let p = err_from_is_err_and c.from_residual-in_err-frame.result c.from_residual-in_err-frame.ensures.1 in
    let e = c.in_ok-used.ensures in
    let piece = c.args.piece.now in
    let used = c.in_ok-used.used in
    rw (p.1, p.2) (λ all frames read.
    refused_piece all piece used frames _ (λ place. c.end_part.new.self.place ≡ min place (2 ^ 64 - 1))
    (c.in_err-frame.ensures.refused (all ++ take used piece) frames (kept c.args.self.now c.keep.new.self piece used e.used e.held e.last e.count e.state e.place all frames read)))

pub returns-clause-ok : goal.returns-clause-ok
returns-clause-ok c all frames read =
    let e = c.in_ok-used.ensures in
    c.in_ok-frame.ensures.ok (all ++ take c.in_ok-used.used c.args.piece.now) frames (kept c.args.self.now c.keep.new.self c.args.piece.now c.in_ok-used.used e.used e.held e.last e.count e.state e.place all frames read)

pub returns-clause-goes_on : goal.returns-clause-goes_on
returns-clause-goes_on c all frames read some =
    takes_some all frames c.args.self.now c.in_ok-used.used (length c.args.piece.now) c.in_ok-used.ensures.used read some
