use Rattle.usb_wire.proofs.RoundTrip.{packet_taken, same_packet}
use Rattle.usb_wire.proofs.laws.written_packets_are_read.Goals as goal

pub returns-clause-read : goal.returns-clause-read
returns-clause-read c = packet_taken

pub returns-clause-itself : goal.returns-clause-itself
returns-clause-itself c = same_packet
