use Rattle.std.proofs.Common.{sym}
use Rattle.usb_wire.proofs.Mirror.{mirrored_register}
use Rattle.usb_wire.proofs.laws.registers_are_the_standards.Goals as goal

pub returns-clause-data : goal.returns-clause-data
returns-clause-data c = λ u. sym (mirrored_register 15 0x8005 0xffff u)

pub returns-clause-tokens : goal.returns-clause-tokens
returns-clause-tokens c = λ u. sym (mirrored_register 4 0x05 0x1f u)
