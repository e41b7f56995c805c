use Rattle.std.proofs.Common.{get_or, arith}
use Rattle.usb_fields.specs.Bytes.{little_endian_at}
use Rattle.usb_fields.proofs.ByteLemmas.{written_field}
use Rattle.usb_fields.proofs.Legal.{headed, all_cells}
use Rattle.usb_fields.proofs.laws.device_descriptor_round_trip.Goals as goal

pub returns-clause-written : goal.returns-clause-written
returns-clause-written c = λ b bytes none.
    let head = headed 18 1 b none in
    let usb = written_field b 2 bytes (omega arith) in
    let vendor = written_field b 8 bytes (omega arith) in
    let product = written_field b 10 bytes (omega arith) in
    let release = written_field b 12 bytes (omega arith) in
    let cells = all_cells b 18 head.long in (
      record {
        usb = little_endian_at b 2;
        class = get_or b 4 0;
        subclass = get_or b 5 0;
        protocol = get_or b 6 0;
        packet = get_or b 7 0;
        vendor = little_endian_at b 8;
        product = little_endian_at b 10;
        release = little_endian_at b 12;
        maker_text = get_or b 14 0;
        product_text = get_or b 15 0;
        serial_text = get_or b 16 0;
        configurations = get_or b 17 0;
      },
      cc,
    )
