use Rattle.std.proofs.Common.{arith}
use Rattle.usb_file_data.specs.Inputs.{DeviceRefused}
use Rattle.usb_fields.proofs.Exits.{exit_err}
use Rattle.usb_file.proofs.Assembly.{device_refused, main_read, main_refused, other_refused, sets_read}
use Rattle.usb_file.proofs.file_reader.read_all_sets.Goals as goal

pub returns-in_err-device-clause-err : goal.returns-in_err-device-clause-err
returns-in_err-device-clause-err c =
    let b = c.args.b.now in
    let fault = c.in_err-device.field-0.0 in
    exit_err c.from_residual.result fault (λ fault. DeviceRefused b fault.at fault.why) c.from_residual.ensures.1
    (device_refused b fault.at fault.why c.in_err-device.ensures.err)

pub returns-in_err-main_end-clause-err : goal.returns-in_err-main_end-clause-err
returns-in_err-main_end-clause-err c =
    let b = c.args.b.now in
    let d = c.in_ok-device.device in
    let ss = c.read_sets.new.sets in
    let fault = c.in_err-main_end.field-0.0 in
    let refused : DeviceRefused b fault.at fault.why =
    main_refused c.part_laws.ensures b d ss fault.at fault.why c.known_bytes.ensures c.in_ok-device.ensures.long c.in_ok-device.ensures.ok c.in_err-main_end.ensures.err in
    exit_err c.from_residual-in_err-main_end.result fault (λ fault. DeviceRefused b fault.at fault.why) c.from_residual-in_err-main_end.ensures.1 refused

pub returns-in_err-other-clause-err : goal.returns-in_err-other-clause-err
returns-in_err-other-clause-err c =
    let b = c.args.b.now in
    let d = c.in_ok-device.device in
    let ss = c.read_sets.new.sets in
    let end = c.in_ok-main_end.main_end in
    let full = c.in_ok-main_end.ensures.all in
    let main = main_read b d ss end c.known_bytes.ensures c.in_ok-device.ensures.long c.in_ok-device.ensures.ok c.in_ok-main_end.ensures.ok (omega (arith, full)) in
    let fault = c.in_err-other.field-0.0 in
    let refused : DeviceRefused b fault.at fault.why = other_refused c.part_laws.ensures b d ss end fault.at fault.why main full c.in_err-other.ensures.err in
    exit_err c.from_residual-in_err-other.result fault (λ fault. DeviceRefused b fault.at fault.why) c.from_residual-in_err-other.ensures.1 refused

pub returns-clause-ok : goal.returns-clause-ok
returns-clause-ok c =
    let b = c.args.b.now in
    let d = c.in_ok-device.device in
    let ss = c.read_sets.new.sets in
    let end = c.in_ok-main_end.main_end in
    let full = c.in_ok-main_end.ensures.all in
    let main = main_read b d ss end c.known_bytes.ensures c.in_ok-device.ensures.long c.in_ok-device.ensures.ok c.in_ok-main_end.ensures.ok (omega (arith, full)) in
    sets_read b d ss end c.in_ok-other.other c.in_ok-other.end main full c.in_ok-other.ensures.ok
