-- A descriptor of an input by its position alone.
use Rattle.std.specs.Prelude.{ℕ, List, take}
use Rattle.usb_walk.specs.declared.position.Position.{Position}
use Rattle.usb_walk.specs.declared.role.Role.{Role}
use Rattle.usb_walk.specs.Positions.{position_after, position_at}

-- a descriptor at its position: what it is there, and its bytes
pub record Numbered : Type 0 where
  pub position : Position
  pub role : Role
  pub bytes : List ℕ

-- the descriptor with which these bytes begin
abbrev pub numbered_next : Position → List ℕ → Role × ℕ → Numbered
numbered_next p ahead next = record { position = position_at next.0 ahead p; role = next.0; bytes = take next.1 ahead }

-- the position after it
abbrev pub next_position : Numbered → Position
next_position d = position_after d.role d.bytes d.position
