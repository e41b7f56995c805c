-- What a device is once it has its answer back.
use Rattle.std.specs.Prelude.{◌≡◌, ⊤, []}
use Rattle.std.specs.Borrow.{Fml, MutBor, follows_so}
use mathlib.Core.Option.{none}
use mir.Syntax.{named}
use Rattle.usb_device.specs.View.{View}
use Rattle.usb_device.specs.contracts.device.Device.{the_row}

-- once the answer is let go, and with it the bytes that it lends, the device is this one
abbrev pub EndsAs : MutBor View → View → Fml
EndsAs device v =
    let row = the_row (record { mir = named 1; lft = [] }) in
    follows_so row row device.ghost_name none (λ _ _. ⊤) (λ u. u ≡ v)
