-- What the options of `explain` come to.
use Rattle.std.specs.Prelude.{◌≡◌, ℕ, List, not, Option, Some, None, option_map, if◌then◌else◌, codes, false}
use Rattle.std.specs.Borrow.{Bor}
use Rattle.std.specs.Str.{bytes_eq}
use Rattle.usb_explain.specs.declared.manner.Manner.{Manner}
use Rattle.usb_remarks.specs.declared.speed.SetSpeed.{SetSpeed}
use Rattle.usb_remarks.specs.declared.speed.SetSpeed.TheVariants.{Low, Full, High, Super}
use Rattle.usb_command_line.specs.declared.explaining.Explaining.{Explaining}

-- the speed of a name
abbrev pub running_speed_of : List ℕ → Option SetSpeed
running_speed_of name =
    if bytes_eq name (codes "low") then Some Low
    else if bytes_eq name (codes "full") then Some Full
    else if bytes_eq name (codes "high") then Some High
    else if bytes_eq name (codes "super") then Some Super
    else None

-- the speed that an option says: none where it is absent, and no answer where no speed has the name
abbrev pub running_said : Option (Bor (List ℕ)) → Option (Option SetSpeed)
running_said None = Some None
running_said (Some name) = option_map (λ speed. Some speed) (running_speed_of name.now)

-- the manner is the one that the options come to
pub record IsManner (o : Explaining) (m : Manner) : Type 0 where
  pub brief : m.look.brief ≡ o.brief
  pub places : m.look.places ≡ not o.no_places
  pub utf8 : m.look.utf8 ≡ o.utf8
  pub formats : m.look.formats ≡ o.formats
  pub speed : running_said o.speed ≡ Some m.speed
  pub decoded : m.decoded ≡ false

-- no speed has the name that the options say
abbrev pub HasBadSpeed : Explaining → Type 0
HasBadSpeed o = running_said o.speed ≡ None
