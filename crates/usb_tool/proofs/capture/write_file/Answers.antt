use Rattle.std.proofs.Common.{inr, refl, subst}
use Rattle.std.specs.Io.KnownBytes.{Appends}
use Rattle.usb_text.specs.Output.{AppendsFront}
use Rattle.usb_tool.proofs.capture.write_file.Goals as goal

pub returns-in-Ok-write_flushed-clause-done : goal.returns-in-Ok-write_flushed-clause-done
returns-in-Ok-write_flushed-clause-done g c =
    let written = c.in-Ok-write_flushed.ensures.ok in (
      record {
        file = c.in-Ok.file;
        ended = c.in-Ok.ensures.ended;
        made = c.in-Ok.ensures.ok;
        written = subst (Appends (g.W.Write.contents c.args.w.now) (g.W.Write.contents c.write_flushed.new.w)) c.bytes_of.ensures written;
      },
      refl,
    )

pub returns-in-Ok-clause-err : goal.returns-in-Ok-clause-err
returns-in-Ok-clause-err g c =
    let written = c.in-Err-write_flushed.ensures.err in
    inr (
      refl,
      record {
        file = c.in-Ok.file;
        ended = c.in-Ok.ensures.ended;
        made = c.in-Ok.ensures.ok;
        written = subst (AppendsFront (g.W.Write.contents c.args.w.now) (g.W.Write.contents c.write_flushed.new.w)) c.bytes_of.ensures written;
      },
    )
