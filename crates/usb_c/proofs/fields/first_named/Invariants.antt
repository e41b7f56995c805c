use Rattle.std.proofs.Common.{◌≡◌, length, map}
use Rattle.std.specs.List.{AllByRecursion}
use Rattle.usb_c.specs.DescriptorFields.{field_numbers}
use Rattle.usb_c.specs.FieldLists.{fields_at, first_named}
use Rattle.usb_c.proofs.Following.{EndsBy}
use Rattle.usb_c.proofs.fields.first_named.Given as goal

abbrev pub invariant-loop-field : goal.invariant-loop-field
invariant-loop-field l = record {
  same : first_named l.name (map (field_numbers l.descriptor.place) l.field-iterator) ≡ first_named l.name (fields_at l.descriptor l.fn.role l.d);
  within : AllByRecursion (EndsBy (length l.d)) l.field-iterator;
}
