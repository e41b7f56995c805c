use Rattle.std.proofs.Common.{rules}
use Rattle.usb_names.specs.Shown.{is_row, row_of}
use Rattle.usb_names.proofs.RowLemmas.{answered}
use Rattle.usb_names.proofs.RowNames.{row_passes}
use Rattle.usb_names.proofs.row.class_descriptor.Goals as goal

pub invariant_of-result : goal.invariant_of-result
invariant_of-result c =
    let names =
    answered row_of is_row c.row_behind.result _ c.row_behind.ensures (row_passes c.args.interface c.args.descriptor_type c.args.body.now) in
    search rules
