use Rattle.std.proofs.Common.{◌≡◌, ◌-◌, []}
use Rattle.usb_listing.specs.inside.Fields.{values_from}
use Rattle.usb_listing.proofs.row.read_values.Given as goal

abbrev pub invariant-loop : goal.invariant-loop
invariant-loop l = values_from l.form (126 - l.counter) l.values l.rest ≡ values_from l.form 126 [] l.text
