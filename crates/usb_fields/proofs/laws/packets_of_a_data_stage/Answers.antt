use Rattle.usb_fields.specs.declared.packet.Toggle.TheVariants.{Data1}
use Rattle.usb_fields.specs.Packets.{packets}
use Rattle.usb_fields.proofs.KeptLemmas.{kept-repeated}
use Rattle.usb_fields.proofs.PacketLemmas.{joined-packets}
use Rattle.usb_fields.proofs.laws.packets_of_a_data_stage.Goals as goal

pub returns-clause-join : goal.returns-clause-join
returns-clause-join c = joined-packets

pub returns-clause-kept_once : goal.returns-clause-kept_once
returns-clause-kept_once c = λ bytes size limit again. kept-repeated (packets bytes size limit) Data1 again
