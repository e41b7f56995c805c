use Rattle.std.proofs.Common.{get_or, arith}
use Rattle.usb_fields.specs.Bytes.{little_endian_at}
use Rattle.usb_fields.proofs.ByteLemmas.{written_field}
use Rattle.usb_fields.proofs.Legal.{headed, all_cells}
use Rattle.usb_fields.proofs.laws.qualifier_round_trip.Goals as goal

pub returns-clause-written : goal.returns-clause-written
returns-clause-written c = λ b bytes none.
    let head = headed 10 6 b none in
    let usb = written_field b 2 bytes (omega arith) in
    let cells = all_cells b 10 head.long in (
      record {
        usb = little_endian_at b 2;
        class = get_or b 4 0;
        subclass = get_or b 5 0;
        protocol = get_or b 6 0;
        packet = get_or b 7 0;
        configurations = get_or b 8 0;
        reserved = get_or b 9 0;
      },
      cc,
    )
