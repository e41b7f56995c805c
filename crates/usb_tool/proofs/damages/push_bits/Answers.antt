use Rattle.std.proofs.Common.{rules, ◌≡◌, ◌∙◌, ◌++◌, ◌∷◌, [], ℕ, List, Bor, map, Option, ap, sym}
use Rattle.std.specs.Prelude.{option_map}
use Rattle.usb_tool.specs.Damages.{all_said, bit_said, bits_said, parts_at}
use Rattle.usb_bus.specs.declared.wire.change.BitChange.{BitChange}
use Rattle.usb_tool.proofs.DamageLemmas.{added, not_said, said_end, said_more, said_of, said_stop}
use Rattle.usb_tool.proofs.damages.push_bits.Goals as goal

-- the change of this bit, if it is one
abbrev one : ℕ → ℕ → Option ℕ → Option (List BitChange)
one transaction packet bit = option_map (λ n. record { transaction = transaction; packet = packet; bit = n } ∷ []) bit

pub returns-in-None-clause-err : goal.returns-in-None-clause-err
returns-in-None-clause-err c =
    let says : Bor (List ℕ) → Option (List BitChange) = λ x. bit_said c.args.transaction c.args.packet x.now in
    let same : all_said says c.deref-bit-items.result.now ≡ bits_said c.args.transaction c.args.packet c.args.text.now =
    said_of (bit_said c.args.transaction c.args.packet) (λ x. x.now) c.deref-bit-items.result.now (parts_at 44 c.args.text.now) (ap (map (λ x. x.now)) c.deref-bit-items.ensures.value ∙ c.in_ok-bits.ensures) in
    not_said c.args.changes.now.items _ (ap (λ s. option_map (λ cs. c.args.changes.now.items ++ cs) s) (sym same) ∙ c.loop-bit.invariant.read
    ∙ said_stop says c.deref-bit-items.result.now c.loop-bit.bit-index _ c.loop-bit.changes.items (search rules)
    (ap (one c.args.transaction c.args.packet) (sym c.bit_number.ensures ∙ c.in-None.is)))

pub loop-bit-preserved : goal.loop-bit-preserved
loop-bit-preserved c =
    let says : Bor (List ℕ) → Option (List BitChange) = λ x. bit_said c.args.transaction c.args.packet x.now in
    let change : BitChange = record { transaction = c.args.transaction; packet = c.args.packet; bit = c.in-Some.bit } in
    let grown : c.push.new.self.items ≡ c.loop-bit.changes.items ++ change ∷ [] = search rules in
    record {
      read = rw grown (c.loop-bit.invariant.read
          ∙ said_more says c.deref-bit-items.result.now c.loop-bit.bit-index _ c.loop-bit.changes.items (change ∷ []) (search rules)
          (ap (one c.args.transaction c.args.packet) (sym c.bit_number.ensures ∙ c.in-Some.is)));
    }

pub returns-clause-ok : goal.returns-clause-ok
returns-clause-ok c =
    let says : Bor (List ℕ) → Option (List BitChange) = λ x. bit_said c.args.transaction c.args.packet x.now in
    let same : all_said says c.deref-bit-items.result.now ≡ bits_said c.args.transaction c.args.packet c.args.text.now =
    said_of (bit_said c.args.transaction c.args.packet) (λ x. x.now) c.deref-bit-items.result.now (parts_at 44 c.args.text.now) (ap (map (λ x. x.now)) c.deref-bit-items.ensures.value ∙ c.in_ok-bits.ensures) in
    added c.args.changes.now.items c.loop-bit.changes.items _ (ap (λ s. option_map (λ cs. c.args.changes.now.items ++ cs) s) (sym same) ∙ c.loop-bit.invariant.read
    ∙ said_end says c.deref-bit-items.result.now c.loop-bit.bit-index c.loop-bit.changes.items (search rules))
