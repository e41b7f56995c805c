use Rattle.std.proofs.Common.{◌≡◌, ◌<◌, ◌+◌, ◌∷◌, ◌++◌, ◌∙◌, false, length, map, get_or, take, ap, sym, subst, arith}
use Rattle.usb_fields.specs.Marks.{marked}
use Rattle.usb_file_data.specs.Places.{at_each_counted, is_among}
use Rattle.usb_file_data.specs.Rules.{number_of}
use Rattle.usb_file_data.specs.Findings.{association_count, endpoint_associations, setting_associations}
use Rattle.usb_file_data.specs.inside.Addresses.{owned, kept as claims}
use Rattle.usb_file_data.specs.inside.Interfaces.{NoneBreaksV3OrV4, AreEntered, entered, pair_too, kept as entries, compared_with, has_alternate}
use Rattle.usb_file_data.specs.inside.Reports.{walked}
use Rattle.usb_file_data.specs.inside.Walk.{endpoint_at, in_extras, in_setting, place, setting_at}
use Rattle.usb_file_data.proofs.Reporting.{counted_last, counted_next}
use Rattle.usb_file_data.proofs.Walking.{interface_seen, shared_more, stands_more, alternate_more}
use Rattle.usb_file_data.proofs.set.check_set_at.Goals as goal

pub loop-setting-preserved : goal.loop-setting-preserved
loop-setting-preserved c =
    let settings = c.args.c.now.settings in
    let j = c.loop-setting.setting in
    let n = c.loop-setting.number in
    let s = c.s-item.result in
    let p = place c.args.place.part c.args.place.set j 0 in
    let old = c.loop-setting.found in
    let whole = entries c.enter_all.new.interfaces in
    let all : AreEntered settings whole = subst (λ xs. AreEntered xs whole) c.deref.ensures c.in_ok-may_break.ensures.entered in
    let may_break = c.in_ok-may_break.may_break in
    let keep : may_break ≡ false → NoneBreaksV3OrV4 settings = λ none. subst NoneBreaksV3OrV4 c.deref.ensures (c.in_ok-may_break.ensures.keep none) in
    let stands = is_among (map number_of settings) in
    let before = is_among (map number_of (take j settings)) in
    let now = entries c.loop-setting.earlier.interfaces in
    let other = (claims c.loop-setting.earlier.addresses).elsewhere in
    let inv = c.loop-setting.invariant in
    let done = c.in_ok-number-2.ensures in
    let same = c.deref-s-items.ensures in
    let long = ap length same in
    let below : j < length settings = omega (arith, long, c.loop-setting-test.true) in
    let is : s ≡ get_or settings j s = c.s-item.is ∙ ap (λ xs. get_or xs j s) same in
    let compared = compared_with may_break now in
    let extras = in_extras p stands n s.extras in
    let ends = at_each_counted endpoint_associations (endpoint_at p stands other s) 0 (n + association_count s.extras) s.endpoints in
    let report = done.reported
    ∙ ap (λ q. walked old (in_setting q whole.numbers whole.alternates compared.numbers compared.alternates other n s)) c.at_setting.ensures
    ∙ ap (λ f. walked old (in_setting p f whole.alternates compared.numbers compared.alternates other n s)) all.numbers
    ∙ ap (λ f. walked old (in_setting p stands f compared.numbers compared.alternates other n s)) all.alternates
    ∙ ap (λ xs. walked old (xs ∷ extras ++ ends)) (interface_seen may_break p settings j s now below is inv.numbers inv.alternates keep)
    ∙ ap (λ f. walked old (in_setting p stands (has_alternate settings) before (has_alternate (take j settings)) f n s)) inv.elsewhere in
    record {
      found = counted_next setting_associations (setting_at c.args.place settings) settings j n _ s old _ _ below is inv.found report done.next;
      numbers = λ is_odd. ap (λ t. t.numbers) (done.interfaces is_odd ∙ ap (λ q. entered q.setting s now) c.at_setting.ensures) ∙ ap (λ f. marked f s.number) (inv.numbers is_odd) ∙ sym (stands_more number_of settings j s below is);
      alternates = λ is_odd. ap (λ t. t.alternates) (done.interfaces is_odd ∙ ap (λ q. entered q.setting s now) c.at_setting.ensures) ∙ ap (pair_too s.number s.alternate) (inv.alternates is_odd) ∙ sym (alternate_more settings j s below is);
      elsewhere = done.addresses ∙ ap (owned s.number s.endpoints) inv.elsewhere ∙ sym (shared_more settings j s below is);
    }

pub returns-clause-reported : goal.returns-clause-reported
returns-clause-reported c =
    let settings = c.args.c.now.settings in
    let long = ap length c.deref-s-items.ensures in
    counted_last setting_associations (setting_at c.args.place settings) settings c.loop-setting.setting _ _ _ (omega (arith, long, c.loop-setting-test.false)) c.loop-setting.invariant.found
