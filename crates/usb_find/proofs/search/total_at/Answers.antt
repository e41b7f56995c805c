use Rattle.std.proofs.Common.{List, ℕ, ap, sym, ◌∙◌, arith, drop}
use Rattle.usb_fields.specs.Bytes.{little_endian_at}
use Rattle.usb_find.specs.inside.Seeking.{has_header}
use Rattle.usb_find.proofs.Headers.{headed}
use Rattle.usb_find.proofs.Seeking.{no_header}
use Rattle.usb_find.proofs.Standing.{bytes_from}
use Rattle.usb_find.proofs.search.total_at.Goals as goal

pub returns-then-has_header-clause-some : goal.returns-then-has_header-clause-some
returns-then-has_header-clause-some c =
    let total = c.from.ensures ∙ c.word_at.ensures.value ∙ ap (λ (z : List ℕ). little_endian_at z 2) c.after-rest.ensures in
    let header = ap has_header (sym c.after-rest.ensures) ∙ sym c.has_header.ensures ∙ c.if-has_header.true in
    headed c.args.bytes.now c.args.place c.from.result c.requires (omega (arith, c.from.ensures, c.word_at.type_inv)) total header

pub returns-else-has_header-clause-none : goal.returns-else-has_header-clause-none
returns-else-has_header-clause-none c =
    let header = ap has_header (sym c.after-rest.ensures) ∙ sym c.has_header.ensures ∙ c.if-has_header.false in
    no_header (drop c.args.place c.args.bytes.now) (bytes_from c.args.bytes.now c.args.place c.known_bytes.ensures) header
