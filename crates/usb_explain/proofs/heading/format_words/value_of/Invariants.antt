use Rattle.std.proofs.Common.{◌≡◌}
use Rattle.usb_explain.specs.FormatWords.{value_of}
use Rattle.usb_explain.specs.Fields.{fields_of}
use Rattle.usb_walk.specs.declared.role.Role.TheVariants as roles
use Rattle.usb_explain.proofs.heading.format_words.value_of.Given as goal

abbrev pub invariant-loop-field : goal.invariant-loop-field
invariant-loop-field l = value_of l.name l.field-iterator ≡ value_of l.name (fields_of roles.Raw l.fn.interface l.b)
