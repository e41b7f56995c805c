-- A remark that there may be, and the sizes that packets have.
use Rattle.std.specs.Prelude.{ℕ, List, [], ◌∷◌, Bool, false, nat_le, ◌==◌, ◌||◌, Option, Some, None, if◌then◌else◌}
use Rattle.usb_remarks.specs.declared.remark.PacketSizes.{PacketSizes}
use Rattle.usb_remarks.specs.declared.remark.PacketSizes.TheVariants.{NoEndpoint, Only, UpTo, EightTo64, EightTo64Or512}
use Rattle.usb_remarks.specs.declared.remark.Remark.{Remark}

-- a remark that is made where something holds
abbrev pub remark_if : Bool → Remark → Option Remark
remark_if holds remark = if holds then Some remark else None

-- a remark that there may be
abbrev pub there : Option Remark → List Remark
there None = []
there (Some remark) = remark ∷ []

-- 8, 16, 32 or 64
abbrev pub is_eight_to_64 : ℕ → Bool
is_eight_to_64 n = (n == 8) || (n == 16) || (n == 32) || (n == 64)

-- a size is one of these
abbrev pub is_size : PacketSizes → ℕ → Bool
is_size NoEndpoint n = false
is_size (Only size) n = n == size
is_size (UpTo most) n = nat_le n most
is_size EightTo64 n = is_eight_to_64 n
is_size EightTo64Or512 n = is_eight_to_64 n || (n == 512)
