use Rattle.std.proofs.Common.{◌≡◌, ℕ, List, length, rules, subst}
use Rattle.std.proofs.lemmas.List.{nil_from_length}
use Rattle.usb_listing.proofs.BytesLemmas.{ReadOnto, passed_why, read_end, read_next, refused_missing, refused_on}
use Rattle.usb_listing.proofs.byte_assembly.read_bytes.Goals as goal

pub returns-in_err-rest-clause-err : goal.returns-in_err-rest-clause-err
returns-in_err-rest-clause-err c =
    passed_why c.args.form c.from_residual.result c.args.text.now _ c.from_residual.ensures.1
    (refused_on c.args.form c.args.text.now c.lines.rest.now c.lines.draft c.lines.line _ _ c.lines.out.items c.lines.invariant.onto c.in_err-rest.ensures.read c.in_err-rest.ensures.place
    c.in_err-rest.ensures.err)

pub lines-preserved : goal.lines-preserved
lines-preserved c = record {
  onto = read_next _ _ _ _ _ _ _ _ _ c.lines.invariant.onto c.in_ok-rest.ensures.ok c.in_ok-rest.ensures.shorter;
  room = c.in_ok-rest.ensures.room;
}

pub returns-clause-ok : goal.returns-clause-ok
returns-clause-ok c =
    let none : length c.lines.rest.now ≡ 0 = search (rules, c.lines-test.ensures, c.lines-test.false) in
    read_end (λ b. b.items) c.args.form c.finish_bytes.result c.args.text.now c.lines.draft c.lines.line c.lines.out.items
    (subst (λ (rest : List ℕ). ReadOnto c.args.form c.args.text.now c.lines.draft rest c.lines.line c.lines.out.items) (nil_from_length c.lines.rest.now none) c.lines.invariant.onto)
    c.finish_bytes.ensures.ok

pub returns-clause-err : goal.returns-clause-err
returns-clause-err c =
    let none : length c.lines.rest.now ≡ 0 = search (rules, c.lines-test.ensures, c.lines-test.false) in
    refused_missing c.args.form c.finish_bytes.result c.args.text.now c.lines.draft c.lines.line c.lines.out.items
    (subst (λ (rest : List ℕ). ReadOnto c.args.form c.args.text.now c.lines.draft rest c.lines.line c.lines.out.items) (nil_from_length c.lines.rest.now none) c.lines.invariant.onto)
    c.finish_bytes.ensures.err c.finish_bytes.ensures.place
