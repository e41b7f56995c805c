-- A text on its way to a writer, of which a claim is made where the writer's bytes are known.
use Rattle.std.specs.Prelude.{◌≡◌, ℕ, List, ◌∷◌, ◌++◌, Option}
use Rattle.std.specs.Io.KnownBytes.{Appends}
use Rattle.usb_fields.specs.Numbers.{number_in}
use Rattle.usb_text.specs.declared.output.OutFault.{OutFault}
use Rattle.usb_text.specs.contracts.output.OutFault.{the_type as out_faults}

-- the bytes that a writer holds, where they are known
abbrev pub Held : Type 0
Held = Option (List ℕ)

-- the writer gained a prefix of the text
pub record AppendsFront (old new : Held) (text : List ℕ) : Type 0 where
  pub front : List ℕ
  pub rest : List ℕ
  pub parts : text ≡ front ++ rest
  pub written : Appends old new front

-- the writer gained a prefix of the text, and this byte of it and those after it are missing
pub record AppendsLess (old new : Held) (text : List ℕ) : Type 0 where
  pub front : List ℕ
  pub missing : ℕ
  pub rest : List ℕ
  pub parts : text ≡ front ++ missing ∷ rest
  pub written : Appends old new front

-- the number of the fault that stopped it
abbrev pub out_number : OutFault → ℕ
out_number fault = number_in out_faults fault
