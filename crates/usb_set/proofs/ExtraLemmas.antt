-- What proofs know of extras: each statement has a case for each type, and all other proofs go by these.
use Rattle.std.proofs.Common.{◌≡◌, ℕ, ◌+◌, ◌≤◌, true, false, eqb, List, [], ◌∷◌, length, Option, Some, None, is_some, unwrap_or, refl, sym, ap, subst, ◌∙◌, arith, inl, inr}
use Rattle.std.proofs.lemmas.Bool.{eqb-true, ne_eqb, cond-true, cond-false, cases_Bool}
use Rattle.usb_fields.specs.Bytes.{AreBytes}
use Rattle.usb_set.specs.declared.extra.Extra.{Extra}
use Rattle.usb_set.specs.declared.extra.Extra.TheVariants as extras
use Rattle.usb_set.specs.Descriptors.{Descriptor, association_of, extra_descriptor, extra_of, typed_length}
use Rattle.usb_set.specs.Layout.{is_typed, is_typed_raw}
use Rattle.usb_set.specs.Faults.{least_length}

-- none of the types of descriptors that own others
pub record IsOwnerless (kind : ℕ) : Type 0 where
  pub two : kind ≡ 2 → ⊥
  pub four : kind ≡ 4 → ⊥
  pub five : kind ≡ 5 → ⊥
  pub seven : kind ≡ 7 → ⊥

-- a type that a set gives no meaning is not one that it gives a meaning
not_at : (n kind : ℕ) → is_typed n ≡ true → is_typed kind ≡ false → kind ≡ n → ⊥
not_at n kind typed untyped is = let no : true ≡ false = sym typed ∙ ap is_typed (sym is) ∙ untyped in cc

pub untyped : (kind : ℕ) → is_typed kind ≡ false → IsOwnerless kind
untyped kind e = record { two = not_at 2 kind refl e; four = not_at 4 kind refl e; five = not_at 5 kind refl e; seven = not_at 7 kind refl e }

-- its descriptor may be as short as any
no_least : (o : Option ℕ) → is_some o ≡ false → unwrap_or o 2 ≡ 2
no_least None e = refl
no_least (Some n) e = cc

-- ---- an extra of a descriptor

association_again : (body : List ℕ) → 6 ≤ length body → extra_descriptor (extras.Association (association_of body)) ≡ record { kind = 11; body = body }
association_again [] n = absurd (omega arith)
association_again (a ∷ []) n = absurd (omega arith)
association_again (a ∷ b ∷ []) n = absurd (omega arith)
association_again (a ∷ b ∷ c ∷ []) n = absurd (omega arith)
association_again (a ∷ b ∷ c ∷ d ∷ []) n = absurd (omega arith)
association_again (a ∷ b ∷ c ∷ d ∷ e ∷ []) n = absurd (omega arith)
association_again (a ∷ b ∷ c ∷ d ∷ e ∷ f ∷ tail) n = refl

pub extra_again : (item : Descriptor) → least_length item.kind ≤ 2 + length item.body → AreBytes item.body → extra_descriptor (extra_of item) ≡ item
extra_again item long fits =
    elim (cases_Bool (eqb item.kind 11)) [
      | inl y ↦
          let is : item.kind ≡ 11 = eqb-true item.kind 11 y in
          let enough : 8 ≤ 2 + length item.body = subst (λ n. least_length n ≤ 2 + length item.body) is long in
          ap extra_descriptor (cond-true (eqb item.kind 11) _ _ y) ∙ association_again item.body (omega arith) ∙ ap (λ n. record { kind = n; body = item.body }) (sym is)
      | inr n ↦ ap extra_descriptor (cond-false (eqb item.kind 11) _ _ n)
    ]

pub not_typed : (item : Descriptor) → IsOwnerless item.kind → is_typed_raw (extra_of item) ≡ false
not_typed item h =
    elim (cases_Bool (eqb item.kind 11)) [
      | inl y ↦ ap is_typed_raw (cond-true (eqb item.kind 11) _ _ y)
      | inr n ↦ ap is_typed_raw (cond-false (eqb item.kind 11) _ _ n)
          ∙ rw (ne_eqb item.kind 2 h.two, ne_eqb item.kind 4 h.four, ne_eqb item.kind 5 h.five, ne_eqb item.kind 7 h.seven, n) refl
    ]

-- ---- a descriptor of an extra

-- it is of no type that owns others, has its fields, and makes the extra again
pub record IsExtra (x : Extra) : Type 0 where
  pub ownerless : IsOwnerless (extra_descriptor x).kind
  pub long : least_length (extra_descriptor x).kind ≤ 2 + length (extra_descriptor x).body
  pub again : extra_of (extra_descriptor x) ≡ x

pub is_extra : (x : Extra) → is_typed_raw x ≡ false → IsExtra x
is_extra (extras.Raw r) e =
    record {
      ownerless = untyped r.kind e;
      long = subst (λ n. n ≤ 2 + length r.body) (sym (no_least (typed_length r.kind) e)) (omega arith);
      again = cond-false (eqb r.kind 11) _ _ (ne_eqb r.kind 11 (not_at 11 r.kind refl e));
    }
is_extra (extras.Association a) e =
    record { ownerless = record { two = λ h. omega arith; four = λ h. omega arith; five = λ h. omega arith; seven = λ h. omega arith }; long = omega arith; again = refl }
