use Rattle.std.proofs.Common.{rules, ◌≡◌, ◌∙◌, ℕ, List, Bor, map, Option, ap, sym, subst}
use Rattle.std.specs.Prelude.{option_map}
use Rattle.usb_fields.proofs.Exits.{exit_err}
use Rattle.usb_tool.specs.Damages.{RefusesDamages, RefusesSaid, all_said, damages_of, entry_said, parts_at}
use Rattle.usb_bus.specs.declared.wire.change.BitChange.{BitChange}
use Rattle.usb_tool.proofs.DamageLemmas.{all_said_so, refused, said_added, said_end, said_of}
use Rattle.usb_tool.proofs.damages.read_damages.Goals as goal

pub loop-entry-preserved : goal.loop-entry-preserved
loop-entry-preserved c =
    let says : Bor (List ℕ) → Option (List BitChange) = λ x. entry_said (parts_at 58 x.now) in
    record {
      read = c.loop-entry.invariant.read
          ∙ said_added says c.deref-entry-items.result.now c.loop-entry.entry-index _ c.loop-entry.changes.items c.push_entry.new.changes.items (search rules)
          c.in_ok-push_entry.ensures.ok;
    }

pub returns-clause-ok : goal.returns-clause-ok
returns-clause-ok c =
    let says : Bor (List ℕ) → Option (List BitChange) = λ x. entry_said (parts_at 58 x.now) in
    let same : all_said says c.deref-entry-items.result.now ≡ damages_of c.args.text.now =
    said_of (λ entry. entry_said (parts_at 58 entry)) (λ x. x.now) c.deref-entry-items.result.now (parts_at 59 c.args.text.now) (ap (map (λ x. x.now)) c.deref-entry-items.ensures.value ∙ c.in_ok-entries.ensures) in
    all_said_so c.loop-entry.changes.items _ (ap (λ s. option_map (λ cs. cs) s) (sym same) ∙ c.loop-entry.invariant.read
    ∙ said_end says c.deref-entry-items.result.now c.loop-entry.entry-index c.loop-entry.changes.items (search rules))

-- src/damages.rt: an entry that is refused
pub returns-in_err-push_entry-clause-err : goal.returns-in_err-push_entry-clause-err
returns-in_err-push_entry-clause-err c =
    let says : Bor (List ℕ) → Option (List BitChange) = λ x. entry_said (parts_at 58 x.now) in
    let same : all_said says c.deref-entry-items.result.now ≡ damages_of c.args.text.now =
    said_of (λ entry. entry_said (parts_at 58 entry)) (λ x. x.now) c.deref-entry-items.result.now (parts_at 59 c.args.text.now) (ap (map (λ x. x.now)) c.deref-entry-items.ensures.value ∙ c.in_ok-entries.ensures) in
    exit_err c.from_residual-in_err-push_entry.result c.in_err-push_entry.field-0.0 (RefusesDamages c.args.text.now) c.from_residual-in_err-push_entry.ensures.1
    (subst (λ s. RefusesSaid s c.in_err-push_entry.field-0.0) same
    (refused says c.deref-entry-items.result.now c.loop-entry.entry-index _ (all_said says c.deref-entry-items.result.now) c.loop-entry.changes.items (search rules) c.loop-entry.invariant.read
    c.in_err-push_entry.field-0.0 c.in_err-push_entry.ensures.err))
