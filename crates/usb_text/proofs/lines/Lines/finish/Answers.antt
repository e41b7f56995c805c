use Rattle.std.proofs.Common.{rules}
use Rattle.usb_text.specs.Output.{AppendsLess}
use Rattle.usb_text.specs.inside.Pages.{EndedLines}
use Rattle.usb_text.proofs.Pages.{on_err}
use Rattle.usb_text.proofs.WrittenLines.{ended_front_less, ended_less}
use Rattle.usb_text.proofs.lines.Lines.finish.Goals as goal

pub returns-in_err-write_all-clause-err : goal.returns-in_err-write_all-clause-err
returns-in_err-write_all-clause-err g c =
    let lines : EndedLines c.self.inside.text c.ended_lines.result.now = search rules in
    let less : AppendsLess (g.W.Write.contents c.args.w.now) (g.W.Write.contents c.write_all.new.w) c.ended_lines.result.now = search rules in
    rw (← c.self.view_is) (on_err _ (ended_less c.self.inside.utf8 _ _ c.self.inside.text c.ended_lines.result.now c.self.invariant lines less))

pub returns-in_err-write_all-clause-front : goal.returns-in_err-write_all-clause-front
returns-in_err-write_all-clause-front g c =
    let lines : EndedLines c.self.inside.text c.ended_lines.result.now = search rules in
    let less : AppendsLess (g.W.Write.contents c.args.w.now) (g.W.Write.contents c.write_all.new.w) c.ended_lines.result.now = search rules in
    rw (← c.self.view_is) (ended_front_less _ _ c.self.inside.text c.ended_lines.result.now lines less)
