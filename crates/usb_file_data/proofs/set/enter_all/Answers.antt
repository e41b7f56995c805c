use Rattle.std.proofs.Common.{◌<◌, ◌++◌, ◌∙◌, not, length, map, ap, sym, arith}
use Rattle.usb_fields.specs.Marks.{marked}
use Rattle.usb_file_data.specs.Places.{is_among, when}
use Rattle.usb_file_data.specs.Rules.{number_of}
use Rattle.usb_file_data.specs.inside.Interfaces.{first_at, pair_too, kept as entries, has_alternate}
use Rattle.usb_file_data.proofs.Walking.{at_each_next, new_more, stands_more, alternate_more, take_all}
use Rattle.usb_file_data.proofs.set.enter_all.Goals as goal

pub loop-setting-preserved : goal.loop-setting-preserved
loop-setting-preserved c =
    let settings = c.args.settings.now in
    let j = c.loop-setting.setting in
    let s = c.index-settings-setting.result in
    let now = entries c.loop-setting.interfaces in
    let inv = c.loop-setting.invariant in
    let below : j < length settings = omega (arith, c.loop-setting-test.true) in
    let is = c.index-settings-setting.is in
    let more = c.in_ok-repeated.ensures.entered in
    record {
      numbers = ap (λ t. t.numbers) more ∙ ap (λ f. marked f s.number) inv.numbers ∙ sym (stands_more number_of settings j s below is);
      alternates = ap (λ t. t.alternates) more ∙ ap (pair_too s.number s.alternate) inv.alternates ∙ sym (alternate_more settings j s below is);
      firsts = at_each_next (first_at settings) settings j s now.firsts _ _ below is inv.firsts
          (ap (λ t. t.firsts) more ∙ ap (λ f. now.firsts ++ when (not (f s.number)) (s.number, j)) inv.numbers);
      keep = new_more settings j s c.in_ok-repeated.repeated c.loop-setting.again below is (c.in_ok-repeated.ensures.again ∙ ap (λ f. f s.number s.alternate) inv.alternates) inv.keep;
    }

pub returns-else-again-clause-keep : goal.returns-else-again-clause-keep
returns-else-again-clause-keep c = λ none.
    let settings = c.args.settings.now in
    let inv = c.loop-setting.invariant in
    let all = take_all settings c.loop-setting.setting c.loop-setting-test.false in
    record {
      repeated = λ j below. inv.keep c.if-again.false j (omega (arith, below, c.loop-setting-test.false));
      defaults = λ n there.
          sym (ap (λ f. f n 0) (inv.alternates ∙ ap has_alternate all))
          ∙ c.lacks_default.ensures none n (ap (λ f. f n) (inv.numbers ∙ ap (λ xs. is_among (map number_of xs)) all) ∙ there);
    }
