use Rattle.std.proofs.Common.{◌≡◌, ℕ, ◌+◌, ◌-◌, ◌<◌, ◌≤◌, List, [], ◌∷◌, ◌++◌, Bool, length, length-append, ap, sym, ◌∙◌, arith}
use Rattle.std.specs.Prelude.{not}
use Rattle.usb_fields.specs.Marks.{IsNextAbsent, is_marked}
use Rattle.usb_file_data.specs.inside.Walk.{marked_among}
use Rattle.usb_file_data.proofs.Folds.{among_found, among_skip}
use Rattle.usb_file_data.proofs.string.put_marked.Goals as goal

numbers_pushed : (marks others : ℕ → Bool) (out items : List ℕ) (from next : ℕ) → ((n : ℕ) → n < 256 → others n ≡ not (marks n)) → IsNextAbsent others from next
    → out ≡ marked_among 1 (from - 1) marks → items ≡ out ++ next ∷ [] → 1 ≤ from → next < 256 → items ≡ marked_among 1 next marks
numbers_pushed marks others out items from next other found before pushed some within =
    pushed ∙ ap (λ ns. ns ++ next ∷ []) before ∙ sym (among_found marks others from next other found some within)

few_pushed : (out items : List ℕ) (from next : ℕ) → items ≡ out ++ next ∷ [] → length out ≤ from - 1 → 1 ≤ from → from ≤ next → length items ≤ next
few_pushed out items from next pushed few some least = omega (arith, ap length pushed, length-append out (next ∷ []), few, some, least)

below_last : (next : ℕ) → next ≤ 255 → (next ≡ 255 → ⊥) → next + 1 ≤ 255
below_last next most other = omega (arith, most, other)

pub search-preserved : goal.search-preserved
search-preserved c =
    let next : ℕ = c.next_absent-next.result in
    let same : next ≡ (next + 1) - 1 = omega arith in
    let least : c.search.from ≤ next = c.next_absent-next.ensures.least in
    let few : length c.push.new.self.items ≤ next =
    few_pushed c.search.out.items c.push.new.self.items c.search.from next c.push.ensures.items c.search.invariant.most c.search.invariant.some least in
    record {
      some = omega arith;
      last = below_last next c.if-next-gt255.false c.if-next-eq255.false;
      numbers =
          numbers_pushed (is_marked c.args.marks.now) (is_marked c.complement-others.result) c.search.out.items c.push.new.self.items c.search.from next
          c.complement-others.ensures c.next_absent-next.ensures c.search.invariant.numbers c.push.ensures.items c.search.invariant.some (omega (arith, c.if-next-gt255.false))
          ∙ ap (λ n. marked_among 1 n (is_marked c.args.marks.now)) same;
      most = omega (arith, few);
    }

pub returns-then-next-gt255 : goal.returns-then-next-gt255
returns-then-next-gt255 c =
    let low : c.search.from ≤ 256 = omega (arith, c.search.invariant.last) in
    record {
      numbers =
          c.search.invariant.numbers
          ∙ sym (among_skip (is_marked c.args.marks.now) (is_marked c.complement-others.result) c.search.from c.next_absent-next.result 256 c.complement-others.ensures c.next_absent-next.ensures
          c.search.invariant.some low c.if-next-gt255.true (omega arith));
      most = omega (arith, c.search.invariant.most, low);
    }

pub returns-then-next-eq255 : goal.returns-then-next-eq255
returns-then-next-eq255 c =
    let next : ℕ = c.next_absent-next.result in
    let is : next ≡ 255 = c.if-next-eq255.true in
    let least : c.search.from ≤ next = c.next_absent-next.ensures.least in
    let few : length c.push.new.self.items ≤ next =
    few_pushed c.search.out.items c.push.new.self.items c.search.from next c.push.ensures.items c.search.invariant.most c.search.invariant.some least in
    record {
      numbers =
          numbers_pushed (is_marked c.args.marks.now) (is_marked c.complement-others.result) c.search.out.items c.push.new.self.items c.search.from next
          c.complement-others.ensures c.next_absent-next.ensures c.search.invariant.numbers c.push.ensures.items c.search.invariant.some (omega (arith, is))
          ∙ ap (λ n. marked_among 1 n (is_marked c.args.marks.now)) is;
      most = omega (arith, few, is);
    }
