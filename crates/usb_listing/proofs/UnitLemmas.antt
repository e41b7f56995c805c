-- Units and language codes written, and read again.
use Rattle.std.proofs.Common.{◌≡◌, ℕ, zero, suc, ◌+◌, ◌*◌, ◌/◌, ◌%◌, ◌<◌, ◌≤◌, ◌==◌, ◌&&◌, ◌||◌, not, Bool, true, false, cond, List, [], ◌∷◌, ◌++◌, Option, Some, None, unwrap_or, length, refl, ap, sym, ◌∙◌, append_assoc, append-nil, arith}
use Rattle.std.specs.Prelude.{nat_le}
use Rattle.std.specs.List.{AllByRecursion, flat_map}
use Rattle.std.proofs.lemmas.Bool.{and_parts, eqb-true}
use Rattle.std.proofs.lemmas.Bool.Decides.{nat_tests}
use Rattle.hex.specs.Hex.{encode_lower, encode_with}
use Rattle.usb_listing.specs.Table.{written_field}
use Rattle.usb_text.specs.Characters.{is_plain, two_bytes, written_unit}
use Rattle.usb_listing.specs.declared.row.Written.{Written}
use Rattle.usb_listing.specs.declared.row.Written.TheVariants as forms
use Rattle.usb_listing.specs.inside.Fields.{pair_value, escaped, number_first, number_in, number_with, unit_first, value_first, values_from, values_then}
use Rattle.usb_listing.proofs.DigitLemmas.{pair_again, pair_read}
use Rattle.usb_listing.proofs.ValueLemmas.{values_end, values_step}

-- how a value is written
abbrev pub written : Written → ℕ → List ℕ
written forms.Unit u = written_unit u
written forms.Field u = written_field (two_bytes u)

abbrev pub IsUnit : ℕ → Type 0
IsUnit u = u < 65536

-- ---- a number of four digits

number_again : (u : ℕ) (rest : List ℕ) → u < 65536 → number_first (encode_lower (two_bytes u) ++ rest) ≡ Some (u, rest)
unfolding number_first encode_with
number_again u rest lt =
    let high : u / 256 < 256 = omega arith in
    let low : u % 256 < 256 = omega arith in
    let whole : u / 256 * 256 + u % 256 ≡ u = omega arith in
    rw (pair_again (u / 256) high, pair_again (u % 256) low) (ap (λ (n : ℕ). Some (n, rest)) whole)

pub record Number (text : List ℕ) (u : ℕ) (rest : List ℕ) : Type 0 where
  pub fits : u < 65536
  pub is : text ≡ encode_lower (two_bytes u) ++ rest

number_read : (text : List ℕ) (u : ℕ) (rest : List ℕ) → number_first text ≡ Some (u, rest) → Number text u rest
unfolding number_first encode_with
number_read [] u rest e = cc
number_read (a ∷ []) u rest e = cc
number_read (a ∷ b ∷ []) u rest e = cc
number_read (a ∷ b ∷ c ∷ []) u rest e = cc
number_read (a ∷ b ∷ c ∷ d ∷ text) u rest e = cases (pair_value a b) (pair_value c d) refl refl e
  where
    cases : (h l : Option ℕ) → pair_value a b ≡ h → pair_value c d ≡ l → number_with h l text ≡ Some (u, rest) → Number (a ∷ b ∷ c ∷ d ∷ text) u rest
    cases None l eh el e = cc
    cases (Some h) None eh el e = cc
    cases (Some h) (Some l) eh el e =
        let both = ap (λ (o : Option (ℕ × List ℕ)). unwrap_or o (u, rest)) e in
        let is : h * 256 + l ≡ u = ap (λ (p : ℕ × List ℕ). p.0) both in
        let tail : text ≡ rest = ap (λ (p : ℕ × List ℕ). p.1) both in
        let ph = pair_read a b h eh in
        let pl = pair_read c d l el in
        let hs = ph.byte in
        let ls = pl.byte in
        let top : u / 256 ≡ h = omega arith in
        let bottom : u % 256 ≡ l = omega arith in
        record { fits = omega arith; is = rw (top, bottom, ph.is_high, ph.is_low, pl.is_high, pl.is_low, tail) refl }

-- ---- units

not_either : (p q : Bool) → not (p || q) ≡ true → (p ≡ false) × (q ≡ false)
not_either true q h = cc
not_either false true h = cc
not_either false false h = (refl, refl)

plain_parts : (u : ℕ) → is_plain u ≡ true → (u ≤ 126) × ((u == 92) ≡ false)
plain_parts u h =
    let p = and_parts (nat_le 32 u && nat_le u 126) (not ((u == 34) || (u == 92))) h in
    let q = and_parts (nat_le 32 u) (nat_le u 126) p.0 in
    (grind (arith, nat_tests), (not_either (u == 34) (u == 92) p.1).1)

pick : {A : Type 0} (slash plain : Bool) (a b : Option A) → slash ≡ false → plain ≡ true → cond slash a (cond plain b None) ≡ b
pick slash plain a b es ep = rw (es, ep) refl

keep : {A : Type 0} (plain : Bool) (b : Option A) → plain ≡ false → cond plain None b ≡ b
keep plain b ep = rw ep refl

unit_again : (u : ℕ) (rest : List ℕ) → u < 65536 → unit_first (written_unit u ++ rest) ≡ Some (u, rest)
unfolding unit_first written_unit
unit_again u rest lt = cases (is_plain u) refl
  where
    cases : (p : Bool) → is_plain u ≡ p → unit_first (cond p (u ∷ []) (92 ∷ encode_lower (two_bytes u)) ++ rest) ≡ Some (u, rest)
    cases true ep = pick (u == 92) (is_plain u) (escaped (number_first rest)) (Some (u, rest)) (plain_parts u ep).1 ep
    cases false ep = ap escaped (number_again u rest lt) ∙ keep (is_plain u) (Some (u, rest)) ep

record UnitRead (text : List ℕ) (u : ℕ) (rest : List ℕ) : Type 0 where
  pub fits : u < 65536
  pub is : text ≡ written_unit u ++ rest

unit_read : (text : List ℕ) (u : ℕ) (rest : List ℕ) → unit_first text ≡ Some (u, rest) → UnitRead text u rest
unfolding unit_first written_unit
unit_read [] u rest e = cc
unit_read (c ∷ text) u rest e = slash (c == 92) refl e
  where
    spelled : (v : ℕ) (after : List ℕ) → number_first text ≡ Some (v, after) → (p : Bool) → is_plain v ≡ p → c ≡ 92 → cond {A = Option (ℕ × List ℕ)} p None (Some (v, after)) ≡ Some (u, rest) → UnitRead (c ∷ text) u rest
    spelled v after en true ep ec e = cc
    spelled v after en false ep ec e =
        let both = ap (λ (o : Option (ℕ × List ℕ)). unwrap_or o (u, rest)) e in
        let is : v ≡ u = ap (λ (p : ℕ × List ℕ). p.0) both in
        let tail : after ≡ rest = ap (λ (p : ℕ × List ℕ). p.1) both in
        let n = number_read text v after en in
        let f = n.fits in
        let plain : is_plain u ≡ false = ap is_plain (sym is) ∙ ep in
        let text_is : text ≡ encode_lower (two_bytes u) ++ rest = n.is ∙ ap (λ (w : ℕ). encode_lower (two_bytes w) ++ after) is ∙ ap (λ (r : List ℕ). encode_lower (two_bytes u) ++ r) tail in
        record { fits = omega (arith, f, is); is = rw (plain, ec, text_is) refl }

    number : (o : Option (ℕ × List ℕ)) → number_first text ≡ o → c ≡ 92 → escaped o ≡ Some (u, rest) → UnitRead (c ∷ text) u rest
    number None en ec e = cc
    number (Some (v, after)) en ec e = spelled v after en (is_plain v) refl ec e

    plain_case : (p : Bool) → is_plain c ≡ p → cond {A = Option (ℕ × List ℕ)} p (Some (c, text)) None ≡ Some (u, rest) → UnitRead (c ∷ text) u rest
    plain_case false ep e = cc
    plain_case true ep e =
        let both = ap (λ (o : Option (ℕ × List ℕ)). unwrap_or o (u, rest)) e in
        let is : c ≡ u = ap (λ (p : ℕ × List ℕ). p.0) both in
        let tail : text ≡ rest = ap (λ (p : ℕ × List ℕ). p.1) both in
        let small = (plain_parts c ep).0 in
        let plain : is_plain u ≡ true = ap is_plain (sym is) ∙ ep in
        record { fits = omega (arith, small, is); is = rw (plain, is, tail) refl }

    slash : (b : Bool) → (c == 92) ≡ b → cond b (escaped (number_first text)) (cond {A = Option (ℕ × List ℕ)} (is_plain c) (Some (c, text)) None) ≡ Some (u, rest) → UnitRead (c ∷ text) u rest
    slash true eb e = number (number_first text) refl (eqb-true c 92 eb) e
    slash false eb e = plain_case (is_plain c) refl e

-- ---- a value of either form

first_again : (form : Written) (u : ℕ) (rest : List ℕ) → u < 65536 → value_first form (written form u ++ rest) ≡ Some (u, rest)
first_again forms.Unit u rest lt = unit_again u rest lt
first_again forms.Field u rest lt = number_again u rest lt

written_some : (form : Written) (u : ℕ) (rest : List ℕ) → 0 < length (written form u ++ rest)
unfolding written_unit
written_some forms.Unit u rest = cases (is_plain u)
  where
    cases : (p : Bool) → 0 < length (cond p (u ∷ []) (92 ∷ encode_lower (two_bytes u)) ++ rest)
    cases true = omega arith
    cases false = omega arith
written_some forms.Field u rest = omega arith

record First (form : Written) (text : List ℕ) (u : ℕ) (rest : List ℕ) : Type 0 where
  pub fits : u < 65536
  pub is : text ≡ written form u ++ rest

first_read : (form : Written) (text : List ℕ) (u : ℕ) (rest : List ℕ) → value_first form text ≡ Some (u, rest) → First form text u rest
first_read forms.Unit text u rest e = let r = unit_read text u rest e in record { fits = r.fits; is = r.is }
first_read forms.Field [] u rest e = cc
first_read forms.Field (x ∷ text) u rest e = cases (x == 32) refl e
  where
    cases : (b : Bool) → (x == 32) ≡ b → number_in (cond b (Some text) None) ≡ Some (u, rest) → First forms.Field (x ∷ text) u rest
    cases false eb e = cc
    cases true eb e =
        let r = number_read text u rest e in
        let space = eqb-true x 32 eb in
        let text_is = r.is in
        record { fits = r.fits; is = rw (space, text_is) refl }

-- ---- values one after another

pub values_again : (form : Written) (most : ℕ) (done values : List ℕ) → AllByRecursion IsUnit values → length values ≤ most
    → values_from form most done (flat_map (written form) values) ≡ Some (done ++ values)
values_again form most done [] h few = values_end form most done [] refl ∙ ap Some (sym (append-nil done))
values_again form zero done (u ∷ values) h few = absurd (omega arith)
values_again form (suc most) done (u ∷ values) h few =
    let rest = flat_map (written form) values in
    values_step form most done (written form u ++ rest) (written_some form u rest)
    ∙ ap (values_then (values_from form most) done) (first_again form u rest h.0)
    ∙ values_again form most (done ++ u ∷ []) values h.1 (omega arith)
    ∙ ap Some (append_assoc done (u ∷ []) values)

pub record Values (form : Written) (most : ℕ) (text all done : List ℕ) : Type 0 where
  pub values : List ℕ
  pub are : all ≡ done ++ values
  pub few : length values ≤ most
  pub fits : AllByRecursion IsUnit values
  pub is : text ≡ flat_map (written form) values

pub values_are : (form : Written) (most : ℕ) (done text all : List ℕ) → values_from form most done text ≡ Some all → Values form most text all done
unfolding values_from
values_are form zero done [] all e =
    let d : done ≡ all = ap (λ (o : Option (List ℕ)). unwrap_or o all) e in
    record { values = []; are = sym d ∙ sym (append-nil done); few = omega arith; fits = tt; is = refl }
values_are form (suc most) done [] all e =
    let d : done ≡ all = ap (λ (o : Option (List ℕ)). unwrap_or o all) e in
    record { values = []; are = sym d ∙ sym (append-nil done); few = omega arith; fits = tt; is = refl }
values_are form zero done (x ∷ text) all e = cc
values_are form (suc most) done (x ∷ text) all e =
    cases (value_first form (x ∷ text)) refl (λ u rest e. values_are form most (done ++ u ∷ []) rest all e) e
  where
    cases : (o : Option (ℕ × List ℕ)) → value_first form (x ∷ text) ≡ o
        → ((u : ℕ) (rest : List ℕ) → values_from form most (done ++ u ∷ []) rest ≡ Some all → Values form most rest all (done ++ u ∷ []))
        → values_then (values_from form most) done o ≡ Some all → Values form (suc most) (x ∷ text) all done
    cases None eo ih e = cc
    cases (Some (u, rest)) eo ih e =
        let first = first_read form (x ∷ text) u rest eo in
        let more = ih u rest e in
        let n = more.few in
        record {
          values = u ∷ more.values;
          are = more.are ∙ append_assoc done (u ∷ []) more.values;
          few = omega (arith, n);
          fits = (first.fits, more.fits);
          is = first.is ∙ ap (λ (xs : List ℕ). written form u ++ xs) more.is;
        }
