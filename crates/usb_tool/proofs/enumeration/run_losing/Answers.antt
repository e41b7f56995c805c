use Rattle.std.proofs.Common.{[], false, refl}
use Rattle.usb_text.proofs.Pages.{appends_nothing, keeps_refl}
use Rattle.usb_tool.specs.Enumerations.{unchanged}
use Rattle.usb_tool.proofs.Telling.{run_is}
use Rattle.usb_tool.proofs.enumeration.run_losing.Goals as goal

-- src/enumeration.rt: where no log is asked for, nothing is written
pub returns-else-flags-clause-ok : goal.returns-else-flags-clause-ok
returns-else-flags-clause-ok g c =
    let held = g.W.Write.contents c.args.w.now in
    record {
      log = [];
      enumerated = run_is false false (unchanged c.args.d.now.speed c.args.enumeration.now) c.args.d.now.file c.enumerate_with.result [] c.requires c.if-flags.false (c.enumerate_with.ensures.run, refl);
      written = appends_nothing held held (keeps_refl held);
    }
