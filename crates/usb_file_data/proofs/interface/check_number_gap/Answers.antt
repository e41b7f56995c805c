use Rattle.std.proofs.Common.{◌≡◌, ◌+◌, ◌∙◌, nat_lt, not, length, ap, sym, subst, OnOk, arith}
use Rattle.std.specs.List.{list_any, range_with_len}
use Rattle.usb_file_data.specs.declared.cause.Cause.TheVariants as causes
use Rattle.usb_file_data.specs.Places.{when}
use Rattle.usb_file_data.specs.Rules.{interface_numbers}
use Rattle.usb_file_data.specs.inside.Interfaces.{kept}
use Rattle.usb_file_data.specs.inside.Reports.{reported}
use Rattle.usb_file_data.specs.inside.Walk.{broken}
use Rattle.usb_file_data.proofs.Walking.{count_is, some_absent}
use Rattle.usb_file_data.proofs.interface.check_number_gap.Goals as goal

pub returns : goal.returns
returns c =
    let e = kept c.args.interfaces.now in
    let n = length (interface_numbers c.args.c.now.settings) in
    let next = c.next_absent.result in
    let is = count_is c.args.c.now.settings e c.list.result.now c.requires c.list.ensures in
    let from : n ≡ 0 + n = omega arith in
    let wrong = ap (nat_lt next) (is ∙ from) ∙ sym (some_absent e.numbers 0 next n c.next_absent.ensures)
    ∙ ap (λ f. list_any (λ m. not (f m)) (range_with_len 0 n)) c.requires.numbers in
    subst (λ b. OnOk c.report.result (c.report.new.self ≡ reported c.args.found.now (when b (broken causes.NumberGap c.args.place)))) wrong c.report.ensures
