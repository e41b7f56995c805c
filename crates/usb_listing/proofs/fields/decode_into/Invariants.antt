use Rattle.usb_listing.proofs.DecodeLemmas.{Decoding}
use Rattle.usb_listing.proofs.fields.decode_into.Given as goal

abbrev pub invariant-bytes : goal.invariant-bytes
invariant-bytes l = Decoding l.digits l.bytes l.i l.bits
