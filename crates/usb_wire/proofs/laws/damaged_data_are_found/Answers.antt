use Rattle.std.proofs.Common.{arith, ◌∙◌}
use Rattle.usb_wire.specs.declared.pid.Pid.TheVariants as pids
use Rattle.usb_wire.specs.Packets.{data_field}
use Rattle.usb_wire.proofs.Fields.{data_field_is}
use Rattle.usb_wire.proofs.Found.{few_data, odd_data_refused, burst_data}
use Rattle.usb_wire.proofs.RoundTrip.{with_pid, length_data}
use Rattle.usb_wire.proofs.laws.damaged_data_are_found.Goals as goal

pub returns-clause-few : goal.returns-clause-few
returns-clause-few c = λ kind b body few long found.
    with_pid (pids.Data kind) body
    ∙ few_data (data_field b) body (omega (arith, long, length_data b)) (omega (arith, length_data b)) (omega (arith, few, length_data b)) (data_field_is b) found.0 found.1

pub returns-clause-odd : goal.returns-clause-odd
returns-clause-odd c = λ kind b body few long odd.
    with_pid (pids.Data kind) body
    ∙ odd_data_refused (data_field b) body (omega (arith, long, length_data b)) (omega (arith, length_data b)) (omega (arith, few, length_data b)) (data_field_is b) odd

pub returns-clause-burst : goal.returns-clause-burst
returns-clause-burst c = λ kind b body few long burst.
    with_pid (pids.Data kind) body
    ∙ burst_data (data_field b) body (omega (arith, long, length_data b)) (omega (arith, length_data b)) (omega (arith, few, length_data b)) (data_field_is b) burst
