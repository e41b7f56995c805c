use Rattle.std.proofs.Common.{◌<◌, ◌∙◌, length, ap, sym, arith}
use Rattle.usb_fields.specs.Marks.{is_marked, marked}
use Rattle.usb_file_data.specs.Rules.{value_of}
use Rattle.usb_file_data.specs.inside.Reports.{walked}
use Rattle.usb_file_data.specs.inside.Walk.{in_set, place, set_at}
use Rattle.usb_file_data.proofs.Reporting.{each_last, each_next}
use Rattle.usb_file_data.proofs.Walking.{stands_more}
use Rattle.usb_file_data.proofs.all_findings.check_part.Goals as goal

pub loop-set-preserved : goal.loop-set-preserved
loop-set-preserved c =
    let sets = c.args.sets.now in
    let i = c.loop-set.set in
    let v = c.index-sets-set.result in
    let old = c.loop-set.found in
    let inv = c.loop-set.invariant in
    let below : i < length sets = omega (arith, c.loop-set-test.true) in
    let report = c.in_ok-check_set_at.ensures.reported
    ∙ ap (λ q. walked old (in_set q (is_marked c.loop-set.values) v)) c.of.ensures
    ∙ ap (λ f. walked old (in_set (place c.args.part i 0 0) f v)) inv.values in
    record {
      found = each_next (set_at c.args.part sets) sets i v old _ _ below c.index-sets-set.is inv.found report;
      values = c.in_ok-check_set_at.ensures.marked ∙ ap (λ f. marked f v.value) inv.values ∙ sym (stands_more value_of sets i v below c.index-sets-set.is);
    }

pub returns : goal.returns
returns c = each_last (set_at c.args.part c.args.sets.now) c.args.sets.now c.loop-set.set _ _ (omega (arith, c.loop-set-test.false)) c.loop-set.invariant.found
