-- What is kept of what a walk finds: with the causes, where they are asked for, and else without.
use Rattle.std.specs.Prelude.{ℕ, ◌+◌, List, [], ◌∷◌, ◌++◌, map, Bool, true, false}
use Rattle.usb_file_data.specs.declared.cause.Found.{Found}
use Rattle.usb_file_data.specs.declared.finding.Finding.{Finding}
use Rattle.usb_file_data.specs.Causes.{Broken}
use Rattle.usb_file_data.specs.Findings.{found}

-- what was reported so far, in the order of the walk, and the number of the descriptor that it is at, where causes are
-- asked for, and else 0
pub record Reported : Type 0 where
  pub has_causes : Bool
  pub found : List Found
  pub findings : List Finding
  pub descriptor : ℕ

-- what is kept with causes, at the descriptor of this number
abbrev pub with_causes : Bool → ℕ → List Broken → List Found
with_causes true n broken = map (found n) broken
with_causes false n broken = []

-- what is kept without causes
abbrev pub without_causes : Bool → List Broken → List Finding
without_causes true broken = []
without_causes false broken = map (λ b. b.finding) broken

-- the number of the descriptor that many later, where causes are asked for
abbrev pub counted : Bool → ℕ → ℕ → ℕ
counted true n number = number + n
counted false n number = number

-- nothing yet, at the first descriptor
abbrev pub none_reported : Bool → Reported
none_reported has_causes = record { has_causes = has_causes; found = []; findings = []; descriptor = 0 }

-- these too
unfoldable pub reported : Reported → List Broken → Reported
reported r broken = record {
  has_causes = r.has_causes;
  found = r.found ++ with_causes r.has_causes r.descriptor broken;
  findings = r.findings ++ without_causes r.has_causes broken;
  descriptor = r.descriptor;
}

-- past this many descriptors
abbrev pub passed : ℕ → Reported → Reported
passed n r = record r { descriptor = counted r.has_causes n r.descriptor }

-- past descriptors, each of which breaks these rules
unfoldable pub walked : Reported → List (List Broken) → Reported
walked r [] = r
walked r (here ∷ later) = walked (passed 1 (reported r here)) later
