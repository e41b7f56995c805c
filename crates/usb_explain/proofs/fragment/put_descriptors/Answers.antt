use Rattle.std.proofs.Common.{◌≡◌, ◌∙◌, ◌-◌, ℕ, List, Some, ap, arith, drop, length, length-drop, sym, take}
use Rattle.std.proofs.lemmas.List.{length-take-le}
use Rattle.usb_text.specs.Shown.{showing_all}
use Rattle.usb_explain.specs.Descriptors.{lines_of}
use Rattle.usb_explain.specs.Fragments.{described_alone, position_past}
use Rattle.usb_remarks.specs.Outline.{Described}
use Rattle.usb_walk.specs.Trees.{descriptor_length}
use Rattle.usb_explain.proofs.Fragments.{counted_next, ends_next, ends_none, shown_next, shown_none}
use Rattle.usb_explain.proofs.fragment.put_descriptors.Goals as goal

pub loop-length-preserved : goal.loop-length-preserved
loop-length-preserved g c =
    let found : descriptor_length c.loop-length.rest.now ≡ Some c.in-Some.length = sym c.descriptor_length.ensures.length ∙ c.in-Some.is in
    let rest : List ℕ = c.loop-length.rest.now in
    let n : ℕ = c.in-Some.length in
    let p = c.loop-length.position in
    let left : length (drop n rest) ≡ length rest - n = length-drop n rest in
    let long : length (take n rest) ≡ n = length-take-le n rest c.in-Some.ensures.most in
    let put : g.P.Page.seen c.put_descriptor.new.page ≡ showing_all g.P.Page.showing (lines_of c.args.subject.now (described_alone c.args.speed p (take n rest))) (g.P.Page.seen c.loop-length.page) =
    c.in_ok-put_descriptor.ensures.lines
    ∙ ap (λ (d : Described). showing_all g.P.Page.showing (lines_of c.args.subject.now d) (g.P.Page.seen c.loop-length.page))
    (c.describe.ensures ∙ ap (described_alone c.args.speed p) c.prefix-d.ensures) in
    let past : c.past-position.result ≡ position_past p (take n rest) = c.past-position.ensures ∙ ap (position_past p) c.prefix-d.ensures in
    rw past (rw c.after-rest.ensures (record {
      shown = shown_next c.args.speed p rest n found g.P.Page.showing c.args.subject.now (g.P.Page.seen c.loop-length.page) (g.P.Page.seen c.put_descriptor.new.page) _ put c.loop-length.invariant.shown;
      ends = ends_next c.args.speed p rest n found _ c.loop-length.invariant.ends;
      room = omega (arith, long, left, c.in-Some.ensures.most, c.loop-length.invariant.room);
      counted = counted_next p (take n rest) c.loop-length.invariant.counted (omega (arith, long, c.in-Some.ensures.least));
    }))

pub returns-clause-lines : goal.returns-clause-lines
returns-clause-lines g c =
    shown_none c.args.speed c.loop-length.position c.loop-length.rest.now (sym c.descriptor_length.ensures.length ∙ c.in_default.is) g.P.Page.showing c.args.subject.now
    (g.P.Page.seen c.loop-length.page) _ c.loop-length.invariant.shown

pub returns-clause-end : goal.returns-clause-end
returns-clause-end g c =
    ends_none c.args.speed c.loop-length.position c.loop-length.rest.now (sym c.descriptor_length.ensures.length ∙ c.in_default.is) _ c.loop-length.invariant.ends
