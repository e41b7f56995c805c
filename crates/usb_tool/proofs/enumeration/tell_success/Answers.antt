use Rattle.std.proofs.Common.{◌≡◌, refl, rules, subst}
use Rattle.std.specs.Io.KnownBytes.{Appends}
use Rattle.usb_listing.specs.Listing.{file_lines}
use Rattle.usb_text.specs.Output.{AppendsLess}
use Rattle.usb_text.proofs.Pages.{appends_kept, appends_more, front_longer, front_whole}
use Rattle.usb_tool.specs.Enumerations.{success_line}
use Rattle.usb_tool.proofs.Reading.{when_err}
use Rattle.usb_tool.proofs.Telling.{cut_by, less_after}
use Rattle.usb_tool.proofs.enumeration.tell_success.Goals as goal

pub returns-in_err-write_all-clause-err : goal.returns-in_err-write_all-clause-err
returns-in_err-write_all-clause-err g c =
    let is : c.as_bytes.result.now ≡ success_line c.args.run.now = search rules in
    when_err _ _ _ c.from_residual-in_err-write_all.ensures.1
    (cut_by _ _ _ _ (front_longer _ _ _ (file_lines c.args.file.now)
    (subst (λ l. AppendsLess (g.W.Write.contents c.args.w.now) (g.W.Write.contents c.write_all.new.w) l) is c.in_err-write_all.ensures.err)))

pub returns-in_err-list-clause-err : goal.returns-in_err-list-clause-err
returns-in_err-list-clause-err g c =
    let is : c.as_bytes.result.now ≡ success_line c.args.run.now = search rules in
    when_err _ _ _ c.from_residual-in_err-list.ensures.1
    (cut_by _ _ _ _ (less_after _ _ _ _ _
    (subst (λ l. Appends (g.W.Write.contents c.args.w.now) (g.W.Write.contents c.write_all.new.w) l) is c.in_ok-write_all.ensures.ok) c.in_err-list.ensures.err))

pub returns-in-Ok-clause-ok : goal.returns-in-Ok-clause-ok
returns-in-Ok-clause-ok g c =
    let is : c.as_bytes.result.now ≡ success_line c.args.run.now = search rules in (
      appends_kept _ _ _ _ (appends_more _ _ _ _ _
          (subst (λ l. Appends (g.W.Write.contents c.args.w.now) (g.W.Write.contents c.write_all.new.w) l) is c.in_ok-write_all.ensures.ok) c.in_ok-list.ensures.ok)
          c.in-Ok.ensures.bytes,
      refl,
    )

pub returns-clause-err : goal.returns-clause-err
returns-clause-err g c =
    let is : c.as_bytes.result.now ≡ success_line c.args.run.now = search rules in
    front_whole _ _ _ _ (appends_more _ _ _ _ _
    (subst (λ l. Appends (g.W.Write.contents c.args.w.now) (g.W.Write.contents c.write_all.new.w) l) is c.in_ok-write_all.ensures.ok) c.in_ok-list.ensures.ok)
    c.in-Err.ensures.bytes
