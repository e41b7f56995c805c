-- What is written is read back.
use Rattle.std.proofs.Common.{◌≡◌, ◌≢◌, ℕ, ◌+◌, List, [], ◌++◌, length, Result, Ok, Err, refl, sym, ap, ◌∙◌, append-nil, length-append, arith, inl, inr}
use Rattle.std.proofs.lemmas.List.{nil_from_length}
use Rattle.usb_set.specs.declared.tree.Configuration.{Configuration}
use Rattle.usb_set.specs.declared.fault.SetFault.{SetFault}
use Rattle.usb_set.specs.declared.decoder.Progress.{Progress}
use Rattle.usb_set.specs.declared.decoder.Progress.TheVariants.{More, Done}
use Rattle.usb_set.specs.Layout.{set_bytes, Layout}
use Rattle.usb_set.specs.Faults.{Begins, IsOpen}
use Rattle.usb_set.specs.Decoding.{Decoding, gathers, has, Answers, ReadsBack}
use Rattle.usb_set.proofs.Sets.{length-set_bytes}
use Rattle.usb_set.proofs.Sound.{Begins-more, Faulty-more}
use Rattle.usb_set.proofs.Exact.{one_layout, not_both}

-- a layout begins itself and whatever it is a prefix of
pub begins_with : (c : Configuration) (b more : List ℕ) → Layout c b → Begins (b ++ more) c (length b)
begins_with c b more h = record { front = b; rest = more; parts = refl; layout = h; ends = refl }

pub begins_whole : (c : Configuration) (b : List ℕ) → Layout c b → Begins b c (length b)
begins_whole c b h = record { front = b; rest = []; parts = sym (append-nil b); layout = h; ends = refl }

-- no layout begins another
pub layout_front : (c d : Configuration) (b more : List ℕ) → Layout c b → Layout d (b ++ more) → (c ≡ d) × (more ≡ [])
layout_front c d b more h k =
    let both : (c ≡ d) × (length b ≡ length (b ++ more)) = one_layout (b ++ more) c d _ _ (begins_with c b more h) (begins_whole d (b ++ more) k) in
    (both.0, nil_from_length more (omega (arith, both.1, length-append b more)))

-- a set has one layout
pub same_bytes : (c : Configuration) (a b : List ℕ) → Layout c a → Layout c b → a ≡ b
same_bytes c a b h k =
    let long : length a ≡ length b = ap length h.bytes ∙ length-set_bytes c (length a) (length b) ∙ sym (ap length k.bytes) in
    h.bytes ∙ ap (set_bytes c) long ∙ sym k.bytes

-- before its last byte a layout is open
pub front_open : (c : Configuration) (s more : List ℕ) → Layout c (s ++ more) → more ≢ [] → IsOpen s
front_open c s more h some = record {
  no_layout = λ d place begins.
      let both : (d ≡ c) × (place ≡ length (s ++ more)) = one_layout (s ++ more) d c place _ (Begins-more s more d place begins) (begins_whole c (s ++ more) h) in
      some (nil_from_length more (omega (arith, both.1, begins.ends, ap length begins.parts, length-append begins.front begins.rest, length-append s more)));
  no_fault = λ place why fault. not_both (s ++ more) c _ place why (begins_whole c (s ++ more) h) (Faulty-more s more place why fault);
}

-- the piece with the last byte makes the set
pub reads_back : (c : Configuration) (s piece : List ℕ) (r : Result Progress SetFault) (new : Decoding) → Layout c (s ++ piece) → Answers (gathers s) piece r new → ReadsBack c s piece r new
reads_back c s piece (Ok More) new h a = absurd (a.0.no_layout c _ (begins_whole c (s ++ piece) h))
reads_back c s piece (Ok (Done used)) new h (d, begins, within, is) =
    let both : (d ≡ c) × (length s + used ≡ length (s ++ piece)) = one_layout (s ++ piece) d c _ _ begins (begins_whole c (s ++ piece) h) in
    let all : used ≡ length piece = omega (arith, both.1, length-append s piece) in
    inl (ap (λ n. Ok (Done n)) all, is ∙ ap has both.0)
reads_back c s piece (Err fault) new h (is, inl wants) = inr (fault, refl, is, wants)
reads_back c s piece (Err fault) new h (is, inr shown) = absurd (not_both (s ++ piece) c _ fault.at fault.why (begins_whole c (s ++ piece) h) shown)
