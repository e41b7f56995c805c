use Rattle.std.proofs.Common.{refl}
use Rattle.usb_wire.specs.Crc.{step}
use Rattle.usb_wire.proofs.laws.more_damage_is_missed.Goals as goal

pub returns-clause-fields : goal.returns-clause-fields
unfolding step
returns-clause-fields c = refl

pub returns-clause-data : goal.returns-clause-data
unfolding step
returns-clause-data c = refl
