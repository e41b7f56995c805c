use Rattle.std.proofs.Common.{List, ap, length, sym}
use Rattle.usb_text.specs.Shown.{Shown, showing_all}
use Rattle.usb_remarks.specs.Outline.{described}
use Rattle.usb_remarks.proofs.RemarksPlaced.{no_remarks}
use Rattle.usb_explain.proofs.RemarksShown.{no_lines}
use Rattle.usb_explain.proofs.remark_line.put_remarks.Goals as goal

pub returns-in-Raw-None : goal.returns-in-Raw-None
returns-in-Raw-None g c =
    record {
      shown = sym (ap (λ (l : List Shown). showing_all g.P.Page.showing l (g.P.Page.seen c.args.page.now)) (no_lines (described c.args.d.now) c.in-Raw-None.is-0 c.in-Raw-None.is-1));
      count = sym (ap length (no_remarks (described c.args.d.now) c.in-Raw-None.is-0 c.in-Raw-None.is-1));
    }
