-- A decoder that is fed packet by packet holds what the join of the packets says.
use Rattle.std.proofs.Common.{◌≡◌, ℕ, ◌+◌, ◌||◌, nat_lt, Bool, true, false, List, [], ◌++◌, length, ◌⊎◌, inl, inr, refl, ap, sym, ◌∙◌, arith, subst, length-append}
use Rattle.std.specs.Prelude.{Option, Some, None, Result, Ok, Err}
use Rattle.std.proofs.lemmas.Bool.Decides.{nat_tests}
use Rattle.std.proofs.lemmas.List.{append-nil, nil_from_length}
use Rattle.usb_set.specs.declared.tree.Configuration.{Configuration}
use Rattle.usb_set.specs.declared.fault.SetFault.{SetFault}
use Rattle.usb_set.specs.declared.fault.SetWhy.{SetWhy}
use Rattle.usb_set.specs.declared.decoder.Progress.{Progress}
use Rattle.usb_set.specs.declared.decoder.Progress.TheVariants.{More, Done}
use Rattle.usb_set.specs.Decoding.{Decoding, gathers, has, refused, Answers}
use Rattle.usb_set.specs.Layout.{Layout}
use Rattle.usb_set.specs.Faults.{Begins, Faulty, IsOpen}
use Rattle.usb_host.specs.Keeping.{WantsMemory, is_over, set_kept}
use Rattle.usb_host.proofs.CameLemmas.{begins_within, over_more, over_first}
use Rattle.usb_bus.specs.inside.Image.{DecodedFrom, ReadsSets}
use Rattle.usb_set.proofs.ReadBack.{begins_whole}

-- what is used of the laws of sets
pub record SetLaws : Type 0 where
  pub begins : (c d : Configuration) (b : List ℕ) (m n : ℕ) → Begins b c m → Begins b d n → (c ≡ d) × (m ≡ n)
  pub not_both : (b : List ℕ) (c : Configuration) (n p : ℕ) (w : SetWhy) → Begins b c n → Faulty b p w → ⊥
  pub more_layout : (b more : List ℕ) (c : Configuration) (n : ℕ) → Begins b c n → Begins (b ++ more) c n
  pub more_fault : (b more : List ℕ) (p : ℕ) (w : SetWhy) → Faulty b p w → Faulty (b ++ more) p w

module _ (laws : SetLaws) where
  pub feeds : (got piece : List ℕ) (old new : Decoding) (over now : Bool) (result : Result Progress SetFault) → DecodedFrom got old over → Answers old piece result new →
      now ≡ is_over over result (length piece) → WantsMemory result ⊎ DecodedFrom (got ++ piece) new now
  feeds got piece (gathers s) new over now (Ok More) (same, before, none) (open_, e) at =
      inr (subst (λ d. DecodedFrom (got ++ piece) d now) (sym e) (ap (λ x. x ++ piece) same, subst (λ x. IsOpen (x ++ piece)) same open_, at ∙ none))
  feeds got piece (gathers s) new over now (Ok (Done used)) (same, before, none) (c, begins, within, e) at =
      let size = length-append got piece in
      let count : length s ≡ length got = ap length same in
      let is : now ≡ nat_lt (length s + used) (length (got ++ piece)) =
      at ∙ ap (λ o. o || nat_lt used (length piece)) none ∙ over_first used (length got) (length s) (length piece) count ∙ ap (λ n. nat_lt (length s + used) n) (sym size) in
      inr (subst (λ d. DecodedFrom (got ++ piece) d now) (sym e) (length s + used, subst (λ x. Begins (x ++ piece) c (length s + used)) same begins, is))
  feeds got piece (gathers s) new over now (Err fault) h (e, inl wants) at = inl wants.why
  feeds got piece (gathers s) new over now (Err fault) (same, before, none) (e, inr faulty) at =
      inr (subst (λ d. DecodedFrom (got ++ piece) d now) (sym e) (subst (λ x. Faulty (x ++ piece) fault.at fault.why) same faulty))
  feeds got piece (has c) new over now result (n, begins, is) (r, e) at =
      let size = length-append got piece in
      let now_is : now ≡ nat_lt n (length (got ++ piece)) =
      at ∙ ap (λ x. is_over over x (length piece)) r ∙ over_more over n (length got) (length piece) (begins_within got c n begins) is ∙ ap (λ x. nat_lt n x) (sym size) in
      inr (subst (λ d. DecodedFrom (got ++ piece) d now) (sym e) (n, laws.more_layout got piece c n begins, now_is))
  feeds got piece (refused fault) new over now result h (r, e) at =
      inr (subst (λ d. DecodedFrom (got ++ piece) d now) (sym e) (laws.more_fault got piece fault.at fault.why h))

  module _ (set_of : List ℕ → Option Configuration) (exact : ReadsSets set_of) where
    none_read : (b : List ℕ) → ((c : Configuration) → Layout c b → ⊥) → set_of b ≡ None
    none_read b none = by_read (set_of b) refl
      where
        by_read : (o : Option Configuration) → set_of b ≡ o → set_of b ≡ None
        by_read None e = e
        by_read (Some c) e = absurd (none c (exact.right b c e))

    -- A set is said by the bytes that were read as by the decoder that was fed with them.
    pub same_set : (got : List ℕ) (d : Decoding) (over : Bool) → DecodedFrom got d over → set_of got ≡ set_kept d over
    same_set got (gathers s) over h = none_read got (λ c layout. h.1.no_layout c (length got) (begins_whole c got layout))
    same_set got (refused fault) over h = none_read got (λ c layout. laws.not_both got c (length got) fault.at fault.why (begins_whole c got layout) h)
    same_set got (has c) false (n, begins, is) =
        let within = begins_within got c n begins in
        let all : n ≡ length got = grind (arith, nat_tests) in
        let parts = ap length begins.parts in
        let sum = length-append begins.front begins.rest in
        let ends = begins.ends in
        let none : begins.rest ≡ [] = nil_from_length begins.rest (omega arith) in
        let same : got ≡ begins.front = begins.parts ∙ ap (λ x. begins.front ++ x) none ∙ append-nil begins.front in
        exact.all got c (subst (λ x. Layout c x) (sym same) begins.layout)
    same_set got (has c) true (n, begins, is) =
        none_read got (λ d layout.
        (let once = laws.begins c d got n (length got) begins (begins_whole d got layout) in let at = once.1 in grind (arith, nat_tests)))
