-- bMaxPower, which is in units of a speed.
use Rattle.std.specs.Prelude.{ℕ, ◌*◌}
use Rattle.usb_remarks.specs.declared.speed.SetSpeed.{SetSpeed}
use Rattle.usb_remarks.specs.declared.speed.SetSpeed.TheVariants.{Super}

-- the unit of bMaxPower in milliamperes (USB 2.0, 9.6.3, and USB 3.2, 9.6.3)
abbrev pub power_unit : SetSpeed → ℕ
power_unit Super = 8
power_unit _ = 2

-- bMaxPower in milliamperes
abbrev pub milliamperes : SetSpeed → ℕ → ℕ
milliamperes speed power = power_unit speed * power
