use Rattle.std.proofs.Common.{◌≡◌, ◌+◌, ◌∷◌, ◌++◌, [], length, drop, ap, sym, ◌∙◌, arith}
use Rattle.usb_wire.specs.Packets.{pid_byte, two_bytes}
use Rattle.usb_wire.proofs.Buffers.{written_after}
use Rattle.usb_wire.proofs.packet.put_data.Goals as goal

pub returns-clause-bytes : goal.returns-clause-bytes
returns-clause-bytes c =
    let head = c.byte.result ∷ [] in
    let bytes = c.args.bytes.now in
    let crc = c.crc16-crc.result in
    let tail = two_bytes crc in
    let out = c.args.out.now in
    let first : c.put-start.new.out ≡ head ++ drop c.put-start.result out = c.put-start.ensures.bytes in
    let second = written_after head bytes out c.put-start.new.out c.put-end.new.out c.put-start.result c.put-end.result first (sym c.put-start.ensures.end) c.put-end.ensures.end c.put-end.ensures.bytes in
    let third = written_after (head ++ bytes) tail out c.put-end.new.out c.put.new.out c.put-end.result c.put.result second (omega (arith, c.put-start.ensures.end, c.put-end.ensures.end)) c.put.ensures.end c.put.ensures.bytes in
    third ∙ ap (λ n. n ∷ ((bytes ++ tail) ++ drop c.put.result out)) c.byte.ensures
    ∙ ap (λ n. pid_byte c.args.pid ∷ ((bytes ++ two_bytes n) ++ drop c.put.result out)) c.crc16-crc.ensures
