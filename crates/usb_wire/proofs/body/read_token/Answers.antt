use Rattle.std.proofs.Common.{arith, sym, ◌∙◌}
use Rattle.usb_wire.proofs.Bodies.{token_read}
use Rattle.usb_wire.proofs.body.read_token.Goals as goal

pub returns-clause-ok : goal.returns-clause-ok
returns-clause-ok c =
    token_read c.args.body.now c.from.result c.from-2.result (omega arith) c.known_bytes.ensures c.from.ensures c.from-2.ensures
    (sym c.token_register.ensures ∙ c.if-token_register-ne-TOKEN_RESIDUAL.false)
