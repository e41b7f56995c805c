use Rattle.std.proofs.Common.{◌≡◌, drop}
use Rattle.std.specs.Prelude.{fold}
use Rattle.std.specs.List.{flat_map}
use Rattle.usb_fields.specs.Marks.{marked, is_marked}
use Rattle.usb_file_data.specs.inside.Walk.{endpoint_extra_indices}
use Rattle.usb_file_data.proofs.string_marks.mark_extras_of_endpoints.Given as goal

abbrev pub invariant-loop-endpoint : goal.invariant-loop-endpoint
invariant-loop-endpoint l = fold marked (is_marked l.marks) (flat_map endpoint_extra_indices (drop l.endpoint-index l.endpoints)) ≡ fold marked (is_marked l.fn.marks) (flat_map endpoint_extra_indices l.endpoints)
