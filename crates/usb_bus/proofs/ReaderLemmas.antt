-- There is a reader of sets that reads all sets, and nothing else.
use Rattle.std.proofs.Common.{◌≡◌, ℕ, ◌==◌, ◌&&◌, Bool, true, false, if◌then◌else◌, nat_lt, List, [], ◌∷◌, ◌++◌, length, Option, Some, None, refl, ap, sym, ◌∙◌, arith, subst, length-append}
use Rattle.std.proofs.lemmas.Bool.Decides.{nat_tests}
use Rattle.std.proofs.lemmas.List.{append-nil, nil_from_length}
use Rattle.usb_fields.specs.Bytes.{AreBytes}
use Rattle.usb_set.specs.declared.tree.Configuration.{Configuration}
use Rattle.usb_set.specs.declared.fault.SetWhy.{SetWhy}
use Rattle.usb_set.specs.Layout.{Layout}
use Rattle.usb_set.specs.Faults.{Begins, Faulty, Judgement, is_set, is_faulty, is_open}
use Rattle.usb_bus.specs.inside.Laws.{SetsAreRead}
use Rattle.usb_set.proofs.ReadBack.{begins_whole}

abbrev are_bytes : List ℕ → Bool
are_bytes [] = true
are_bytes (x ∷ b) = nat_lt x 256 && are_bytes b

bytes_are : (b : List ℕ) → are_bytes b ≡ true → AreBytes b
bytes_are [] e = tt
bytes_are (x ∷ b) e = (grind (arith, nat_tests), bytes_are b (grind (arith, nat_tests)))

bytes_pass : (b : List ℕ) → AreBytes b → are_bytes b ≡ true
bytes_pass [] h = refl
bytes_pass (x ∷ b) h = (let first = h.0 in let rest = bytes_pass b h.1 in grind (arith, nat_tests))

module _ (begins_once : (c d : Configuration) (b : List ℕ) (m n : ℕ) → Begins b c m → Begins b d n → (c ≡ d) × (m ≡ n))
    (not_both : (b : List ℕ) (c : Configuration) (n p : ℕ) (w : SetWhy) → Begins b c n → Faulty b p w → ⊥)
    (judge : (b : List ℕ) → AreBytes b → Judgement b) where
  abbrev set_by : (b : List ℕ) → Judgement b → Option Configuration
  set_by b (is_set c place begins) = if place == length b then Some c else None
  set_by b (is_faulty place why h) = None
  set_by b (is_open h) = None

  abbrev set_if : (b : List ℕ) (t : Bool) → are_bytes b ≡ t → Option Configuration
  set_if b true e = set_by b (judge b (bytes_are b e))
  set_if b false e = None

  abbrev set_in : List ℕ → Option Configuration
  set_in b = set_if b (are_bytes b) refl

  by_right : (b : List ℕ) (j : Judgement b) (c : Configuration) → set_by b j ≡ Some c → Layout c b
  by_right b (is_set d place begins) c e = by_test (place == length b) refl e
    where
      by_test : (t : Bool) → (place == length b) ≡ t → (if t then Some d else None) ≡ Some c → Layout c b
      by_test false z e = absurd (cc)
      by_test true z e =
          let all : place ≡ length b = grind (arith, nat_tests) in
          let is : d ≡ c = cc in
          let parts = ap length begins.parts in
          let sum = length-append begins.front begins.rest in
          let ends = begins.ends in
          let none : begins.rest ≡ [] = nil_from_length begins.rest (omega arith) in
          let same : b ≡ begins.front = begins.parts ∙ ap (λ x. begins.front ++ x) none ∙ append-nil begins.front in
          subst (λ x. Layout x b) is (subst (λ x. Layout d x) (sym same) begins.layout)
  by_right b (is_faulty place why h) c e = absurd (cc)
  by_right b (is_open h) c e = absurd (cc)

  if_right : (b : List ℕ) (t : Bool) (e : are_bytes b ≡ t) (c : Configuration) → set_if b t e ≡ Some c → Layout c b
  if_right b true e c h = by_right b (judge b (bytes_are b e)) c h
  if_right b false e c h = absurd (cc)

  by_all : (b : List ℕ) (j : Judgement b) (c : Configuration) → Layout c b → set_by b j ≡ Some c
  by_all b (is_set d place begins) c layout =
      let once = begins_once d c b place (length b) begins (begins_whole c b layout) in
      let ends : (place == length b) ≡ true = (let e = once.1 in grind (arith, nat_tests)) in
      rw ends (ap Some once.0)
  by_all b (is_faulty place why h) c layout = absurd (not_both b c (length b) place why (begins_whole c b layout) h)
  by_all b (is_open h) c layout = absurd (h.no_layout c (length b) (begins_whole c b layout))

  if_all : (b : List ℕ) (t : Bool) (e : are_bytes b ≡ t) (c : Configuration) → Layout c b → set_if b t e ≡ Some c
  if_all b true e c layout = by_all b (judge b (bytes_are b e)) c layout
  if_all b false e c layout = absurd (let p = bytes_pass b layout.fits in cc)

  pub sets_are_read : SetsAreRead
  sets_are_read = (
    set_in,
    record { right = λ b c e. if_right b (are_bytes b) refl c e; all = λ b c l. if_all b (are_bytes b) refl c l },
  )
