use Rattle.std.proofs.Common.{arith, ◌∙◌, refl}
use Rattle.usb_wire.specs.declared.pid.Pid.TheVariants as pids
use Rattle.usb_wire.specs.Packets.{token_field, split_field}
use Rattle.usb_wire.proofs.Fields.{token_field_is, split_field_is}
use Rattle.usb_wire.proofs.Found.{few_token}
use Rattle.usb_wire.proofs.RoundTrip.{with_pid}
use Rattle.usb_wire.proofs.laws.damaged_tokens_are_found.Goals as goal

pub returns-clause-token : goal.returns-clause-token
returns-clause-token c = λ kind n body small long found.
    with_pid (pids.Token kind) body ∙ few_token 2 (token_field n) body long refl (omega arith) (token_field_is n small) found.0 found.1

pub returns-clause-frame : goal.returns-clause-frame
returns-clause-frame c = λ n body small long found.
    with_pid pids.StartOfFrame body ∙ few_token 2 (token_field n) body long refl (omega arith) (token_field_is n small) found.0 found.1

pub returns-clause-split : goal.returns-clause-split
returns-clause-split c = λ n body small long found.
    with_pid pids.Split body ∙ few_token 3 (split_field n) body long refl (omega arith) (split_field_is n small) found.0 found.1
