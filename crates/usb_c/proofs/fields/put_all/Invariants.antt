use Rattle.std.proofs.Common.{[], ◌∷◌, length}
use Rattle.std.specs.List.{AllByRecursion}
use Rattle.usb_walk.specs.Surroundings.{codes_of}
use Rattle.usb_explain.specs.Fields.{fields_of}
use Rattle.usb_c.specs.DescriptorFields.{field_numbers}
use Rattle.usb_c.proofs.Following.{EndsBy}
use Rattle.usb_c.proofs.Placed.{PutSoFar}
use Rattle.usb_c.proofs.fields.put_all.Given as goal

abbrev pub invariant-loop-field : goal.invariant-loop-field
invariant-loop-field l = record {
  put : PutSoFar (λ f. field_numbers l.descriptor.place f ∷ []) (fields_of l.fn.role (codes_of l.descriptor.position) l.d) l.field-iterator l.fn.out l.out l.filled;
  within : AllByRecursion (EndsBy (length l.d)) l.field-iterator;
}
