use Rattle.std.proofs.Common.{◌≡◌, false, drop, length, ap, sym, ◌∙◌, subst}
use Rattle.usb_file_data.specs.File.{named_indices}
use Rattle.usb_file_data.specs.Inputs.{DeviceRefused}
use Rattle.usb_file.specs.inside.Reading.{ReadsStrings, StringsRefused, ends_as_dump}
use Rattle.usb_fields.proofs.Exits.{exit_err}
use Rattle.usb_file.proofs.Assembly.{is_elsewhere, strings_read, strings_refused, trailing, whole_file}
use Rattle.usb_file.proofs.file_reader.read_file_or_dump.Goals as goal

pub returns-in_err-strings-clause-err : goal.returns-in_err-strings-clause-err
returns-in_err-strings-clause-err c =
    let b = c.args.b.now in
    let f = c.in_ok-file.file in
    let place = c.in_ok-file.place in
    let fault = c.in_err-strings.field-0.0 in
    let no_end : ends_as_dump (length (named_indices f)) f.other (drop place b) ≡ false =
    sym (c.ends_as_dump.ensures ∙ ap (λ n. ends_as_dump n f.other c.rest.result.now) c.count_named-count.ensures.count
    ∙ ap (ends_as_dump (length (named_indices f)) f.other) c.rest.ensures) ∙ c.if-ends_as_dump.false in
    let strings = subst (λ n. StringsRefused n b place fault.at fault.why) c.count_named-count.ensures.count c.in_err-strings.ensures.err in
    let refused : DeviceRefused b fault.at fault.why =
    strings_refused c.part_laws.ensures b f place fault.at fault.why c.in_ok-file.ensures.ok (is_elsewhere _ f.other (drop place b) no_end) strings in
    exit_err c.from_residual-in_err-strings.result fault (λ fault. DeviceRefused b fault.at fault.why) c.from_residual-in_err-strings.ensures.1 refused

pub returns-then-end-b-clause-err : goal.returns-then-end-b-clause-err
returns-then-end-b-clause-err c =
    let b = c.args.b.now in
    let f = c.in_ok-file.file in
    let strings = subst (λ n. ReadsStrings n b c.in_ok-file.place c.in_ok-strings.strings c.in_ok-strings.end) c.count_named-count.ensures.count c.in_ok-strings.ensures.ok in
    let read = strings_read b f c.in_ok-file.place c.in_ok-strings.strings c.in_ok-strings.end c.in_ok-file.ensures.ok strings in
    subst (λ fault. DeviceRefused b fault.at fault.why) (sym c.new.ensures)
    (trailing c.part_laws.ensures b (record f { strings = c.in_ok-strings.strings }) c.in_ok-strings.end read c.if-end-b.true)

pub returns-clause-ok : goal.returns-clause-ok
returns-clause-ok c =
    let b = c.args.b.now in
    let f = c.in_ok-file.file in
    let strings = subst (λ n. ReadsStrings n b c.in_ok-file.place c.in_ok-strings.strings c.in_ok-strings.end) c.count_named-count.ensures.count c.in_ok-strings.ensures.ok in
    let read = strings_read b f c.in_ok-file.place c.in_ok-strings.strings c.in_ok-strings.end c.in_ok-file.ensures.ok strings in
    whole_file b (record f { strings = c.in_ok-strings.strings }) c.in_ok-strings.end read c.if-end-b.false
