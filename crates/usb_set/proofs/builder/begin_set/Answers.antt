use Rattle.std.proofs.Common.{subst, sym}
use Rattle.std.proofs.lemmas.Result.{IfOk-weaker}
use Rattle.usb_set.specs.Building.{BeginsWith}
use Rattle.usb_set.proofs.Adding.{begin_is}
use Rattle.usb_set.proofs.builder.begin_set.Goals as goal

pub returns-clause-begins : goal.returns-clause-begins
returns-clause-begins c =
    IfOk-weaker c.read_configuration.result _ _
    (λ x is. subst (BeginsWith c.args.header.now) (sym is) (begin_is c.args.header.now c.known_bytes.ensures c.requires.long c.requires.whole c.requires.kind)) c.read_configuration.ensures
