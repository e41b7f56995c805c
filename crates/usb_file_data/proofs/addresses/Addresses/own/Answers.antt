use Rattle.std.proofs.Common.{◌≡◌, ◌&&◌, ◌∙◌, ℕ, true, false, Bool, ap, sym, arith}
use Rattle.std.specs.Prelude.{slice_index_or, slice_set}
use Rattle.usb_fields.specs.Marks.{is_marked, marked}
use Rattle.usb_file_data.specs.declared.addresses.Owner.TheVariants as owners
use Rattle.usb_file_data.specs.inside.Addresses.{Claims, is_other, kept, owned_at}
use Rattle.usb_file_data.proofs.Owning.{by_cells, is_other_alone, is_other_shared, marked_again, owned_again, owners_more}
use Rattle.usb_file_data.proofs.addresses.Addresses.own.Goals as goal

pub returns-then-not-has : goal.returns-then-not-has
unfolding kept
returns-then-not-has c =
    let t = c.self.inside in
    let a = c.args.address in
    let n = t.number in
    let stands = is_marked t.in_set in
    let old = slice_index_or t.owners a (owners.One 0) in
    let absent : stands a ≡ false = sym c.has.ensures ∙ c.if-not-has.true in
    let alone : (stands a && is_other old n) ≡ false = ap (λ b. b && is_other old n) absent in
    let more = owners_more stands t.owners n a (owners.One n) (omega (arith, c.self.invariant, c.ranges.address)) (λ m. is_other_alone (stands a) old n m alone) in
    let of : (ℕ → ℕ → Bool) → Claims = λ elsewhere. record { number = n; here = is_marked t.in_setting; elsewhere = elsewhere } in
    record {
      elsewhere = sym alone ∙ ap (λ v. (kept v).elsewhere a (kept v).number) c.self.view_is;
      owned = ap (λ marks. of (by_cells marks (slice_set t.owners c.from-place.result (owners.One n)))) c.add.ensures
          ∙ ap (λ i. of (by_cells (marked stands a) (slice_set t.owners i (owners.One n)))) c.from-place.ensures
          ∙ ap of more
          ∙ ap (λ v. record (kept v) { elsewhere = owned_at (kept v).number (kept v).elsewhere a }) c.self.view_is;
    }

pub returns-then-is_other : goal.returns-then-is_other
unfolding kept
returns-then-is_other c =
    let t = c.self.inside in
    let a = c.args.address in
    let n = t.number in
    let stands = is_marked t.in_set in
    let old = slice_index_or t.owners a (owners.One 0) in
    let present : stands a ≡ true = sym c.has.ensures ∙ c.if-not-has.false in
    let other : is_other old n ≡ true = ap (λ i. is_other (slice_index_or t.owners i (owners.One 0)) n) (sym c.from-place.ensures) ∙ sym c.is_other.ensures ∙ c.if-is_other.true in
    let shared : (stands a && is_other old n) ≡ true = ap (λ b. b && is_other old n) present ∙ other in
    let more = owners_more stands t.owners n a owners.Several (omega (arith, c.self.invariant, c.ranges.address)) (λ m. is_other_shared (stands a) old n m shared) in
    let of : (ℕ → ℕ → Bool) → Claims = λ elsewhere. record { number = n; here = is_marked t.in_setting; elsewhere = elsewhere } in
    record {
      elsewhere = sym shared ∙ ap (λ v. (kept v).elsewhere a (kept v).number) c.self.view_is;
      owned = ap (λ i. of (by_cells stands (slice_set t.owners i owners.Several))) c.from-place.ensures
          ∙ ap (λ marks. of (by_cells marks (slice_set t.owners a owners.Several))) (sym (marked_again stands a present))
          ∙ ap of more
          ∙ ap (λ v. record (kept v) { elsewhere = owned_at (kept v).number (kept v).elsewhere a }) c.self.view_is;
    }

pub returns : goal.returns
unfolding kept
returns c =
    let t = c.self.inside in
    let a = c.args.address in
    let n = t.number in
    let stands = is_marked t.in_set in
    let old = slice_index_or t.owners a (owners.One 0) in
    let present : stands a ≡ true = sym c.has.ensures ∙ c.if-not-has.false in
    let same : is_other old n ≡ false = ap (λ i. is_other (slice_index_or t.owners i (owners.One 0)) n) (sym c.from-place.ensures) ∙ sym c.is_other.ensures ∙ c.if-is_other.false in
    let alone : (stands a && is_other old n) ≡ false = ap (λ b. b && is_other old n) present ∙ same in
    let of : (ℕ → ℕ → Bool) → Claims = λ elsewhere. record { number = n; here = is_marked t.in_setting; elsewhere = elsewhere } in
    record {
      elsewhere = sym alone ∙ ap (λ v. (kept v).elsewhere a (kept v).number) c.self.view_is;
      owned = ap kept (sym c.self.view_is)
          ∙ ap of (owned_again stands t.owners n a present same)
          ∙ ap (λ v. record (kept v) { elsewhere = owned_at (kept v).number (kept v).elsewhere a }) c.self.view_is;
    }
