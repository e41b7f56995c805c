-- The lines of findings, each right under the heading that it speaks of.
use Rattle.std.specs.Prelude.{ℕ, List, [], ◌∷◌}
use Rattle.usb_file_data.specs.declared.cause.Cause.{Cause}
use Rattle.usb_file_data.specs.declared.cause.Cause.TheVariants as causes
use Rattle.usb_file_data.specs.Causes.{rule_of}
use Rattle.usb_file_data.specs.Numbers.{rule_number}
use Rattle.usb_text.specs.Shown.{Shown, Number}
use Rattle.usb_explain.specs.Lines.{line_below}

-- the count that a descriptor says, and what there is
abbrev pub counts_shown : Cause → List Shown
counts_shown (causes.InterfaceCount declared found) = Number declared ∷ Number found ∷ []
counts_shown (causes.EndpointCount declared found) = Number declared ∷ Number found ∷ []
counts_shown _ = []

-- the line of a finding at a descriptor of this depth: its rule, and the counts by which that was judged
unfoldable pub finding_line : ℕ → Cause → List Shown
finding_line depth cause = line_below depth (Number (rule_number (rule_of cause)) ∷ counts_shown cause)
