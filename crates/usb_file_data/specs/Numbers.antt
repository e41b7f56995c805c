-- The numbers of rules, and of the reasons why a file has no bytes.
use Rattle.std.specs.Prelude.{ℕ, List, [], ◌∷◌, Option, ◌==◌}
use Rattle.std.specs.List.{find}
use Rattle.usb_fields.specs.Numbers.{number_in}
use Rattle.usb_file_data.specs.declared.refusal.WriteFault.{WriteFault}
use Rattle.usb_file_data.specs.contracts.refusal.WriteFault.{the_type as write_faults}
use Rattle.usb_file_data.specs.declared.rule.Rule.{Rule}
use Rattle.usb_file_data.specs.declared.rule.Rule.TheVariants as rules

-- the number of the reason why a file has no bytes
abbrev pub write_number : WriteFault → ℕ
write_number fault = number_in write_faults fault

-- the number of a rule
abbrev pub rule_number : Rule → ℕ
rule_number rules.V1 = 1
rule_number rules.V2 = 2
rule_number rules.V3 = 3
rule_number rules.V4 = 4
rule_number rules.V5 = 5
rule_number rules.V6 = 6
rule_number rules.V7 = 7
rule_number rules.V8 = 8
rule_number rules.V9 = 9
rule_number rules.V10 = 10
rule_number rules.V11 = 11
rule_number rules.V12 = 12
rule_number rules.V13 = 13

-- the rules in their order
abbrev pub every_rule : List Rule
every_rule =
    rules.V1 ∷ rules.V2 ∷ rules.V3 ∷ rules.V4 ∷ rules.V5 ∷ rules.V6 ∷ rules.V7 ∷ rules.V8 ∷ rules.V9 ∷ rules.V10 ∷ rules.V11 ∷ rules.V12 ∷ rules.V13 ∷ []

-- the rule of this number, if there is one
abbrev pub rule_numbered : ℕ → Option Rule
rule_numbered n = find (λ r. rule_number r == n) every_rule
