use Rattle.std.proofs.Common.{◌≡◌}
use Rattle.std.specs.List.{flat_map}
use Rattle.usb_text.specs.Shown.{showing_all}
use Rattle.usb_explain.specs.FormatWords.{rate_shown}
use Rattle.usb_explain.specs.Fields.{fields_of}
use Rattle.usb_walk.specs.declared.role.Role.TheVariants as roles
use Rattle.usb_explain.proofs.heading.format_words.put_rates.Given as goal

abbrev pub invariant-loop-field : goal.invariant-loop-field
invariant-loop-field g l =
    showing_all g.P.Page.showing (flat_map rate_shown l.field-iterator) (g.P.Page.seen l.page)
    ≡ showing_all g.P.Page.showing (flat_map rate_shown (fields_of roles.Raw l.fn.interface l.b)) (g.P.Page.seen l.initial.page)
