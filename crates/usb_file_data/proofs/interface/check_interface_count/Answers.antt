use Rattle.std.proofs.Common.{◌≡◌, ◌==◌, not, length, subst, OnOk}
use Rattle.usb_file_data.specs.declared.cause.Cause.TheVariants as causes
use Rattle.usb_file_data.specs.Places.{when}
use Rattle.usb_file_data.specs.inside.Interfaces.{kept}
use Rattle.usb_file_data.specs.inside.Reports.{reported}
use Rattle.usb_file_data.specs.inside.Walk.{broken}
use Rattle.usb_file_data.proofs.Walking.{count_is}
use Rattle.usb_file_data.proofs.interface.check_interface_count.Goals as goal

pub returns : goal.returns
returns c =
    let declared = c.args.c.now.declared_interfaces in
    let list = c.list-count.result.now in
    let is = count_is c.args.c.now.settings (kept c.args.interfaces.now) list c.requires c.list-count.ensures in
    subst (λ n. OnOk c.report.result (c.report.new.self ≡ reported c.args.found.now (when (not (declared == n)) (broken (causes.InterfaceCount declared n) c.args.place)))) is
    (subst (λ k. OnOk c.report.result (c.report.new.self ≡ reported c.args.found.now (when (not (k == length list)) (broken (causes.InterfaceCount declared (length list)) c.args.place))))
    c.from.ensures c.report.ensures)
