use Rattle.std.proofs.Common.{arith, sym, ◌∙◌}
use Rattle.usb_wire.proofs.Bodies.{split_read}
use Rattle.usb_wire.proofs.body.read_split.Goals as goal

pub returns-clause-ok : goal.returns-clause-ok
returns-clause-ok c =
    split_read c.args.body.now c.from.result c.from-2.result c.from-3.result (omega arith) c.known_bytes.ensures c.from.ensures c.from-2.ensures c.from-3.ensures
    (sym c.token_register.ensures ∙ c.if-token_register-ne-TOKEN_RESIDUAL.false)
