-- A read whose bytes were what was asked for leads on.
use Rattle.std.proofs.Common.{◌≡◌, ℕ, ◌*◌, ◌<◌, ◌≤◌, ◌==◌, ◌&&◌, ◌||◌, not, nat_lt, Bool, true, false, if◌then◌else◌, List, [], ◌∷◌, length, Option, Some, None, refl, ap, sym, arith, subst}
use Rattle.std.specs.Prelude.{IsSome}
use Rattle.usb_host.specs.declared.choice.Terms.{Terms}
use Rattle.usb_set.specs.declared.tree.SetKind.{SetKind}
use Rattle.usb_set.specs.declared.tree.SetKind.TheVariants as kinds
use Rattle.usb_file_data.specs.declared.file.DescriptorFile.{DescriptorFile}
use Rattle.usb_file_data.specs.declared.file.Strings.{Strings}
use Rattle.usb_file_data.specs.File.{named_indices}
use Rattle.usb_host.specs.declared.why.Why.TheVariants.{Malformed}
use Rattle.usb_host.specs.Terms.{is_asked}
use Rattle.usb_host.specs.Limits.{LimitView}
use Rattle.usb_host.specs.Place.{Place, First, Address, Device, Header, Set, Qualifier, Languages, Text, Configure, Reported, Stopped}
use Rattle.usb_host.specs.Read.{may_have_second, same_bytes, units_of}
use Rattle.usb_host.specs.Order.{after_sets, declared_sets, languages_lead, sets_due, sets_of, stopped, strings_due, text_leads, texts_due}
use Rattle.usb_host.specs.Steps.{Ended, enter}
use Rattle.usb_host.specs.inside.Places.{is_end}
use Rattle.usb_host.proofs.ReadLemmas.{units_written}

goes_on_if : (b : Bool) (x y : Place) → is_end x ≡ false → is_end y ≡ false → is_end (if b then x else y) ≡ false
goes_on_if true x y p q = p
goes_on_if false x y p q = q

pub strings_go_on : (terms : Terms) (f : DescriptorFile) → is_end (strings_due terms f) ≡ false
strings_go_on terms f = goes_on_if (not (is_asked terms.choice.strings) || (length (named_indices f) == 0)) _ _ refl refl

after_goes_on : (terms : Terms) (kind : SetKind) (f : DescriptorFile) → is_end (after_sets terms kind f) ≡ false
after_goes_on terms kinds.Configuration f = goes_on_if (terms.choice.other_speed && may_have_second terms.speed f.device) _ _ refl (strings_go_on terms f)
after_goes_on terms kinds.OtherSpeed f = strings_go_on terms f

pub sets_go_on : (terms : Terms) (kind : SetKind) (f : DescriptorFile) → is_end (sets_due terms kind f) ≡ false
sets_go_on terms kind f = goes_on_if (nat_lt (length (sets_of kind f)) (declared_sets kind f)) _ _ refl (after_goes_on terms kind f)

pub texts_go_on : (f : DescriptorFile) (s : Strings) (named : List ℕ) → is_end (texts_due f s named) ≡ false
texts_go_on f s named = goes_on_if (nat_lt (length s.texts) (length s.languages * length named)) _ _ refl refl

-- ---- a language list

if_none : (place : Place) (f : DescriptorFile) (named : List ℕ) (t : Bool) → languages_lead place f named (if t then Some [] else None) ≡ stopped place Malformed
if_none place f named true = refl
if_none place f named false = refl

-- one that is its head alone has no language
pub no_language : (place : Place) (f : DescriptorFile) (named b : List ℕ) → length b ≤ 2 → languages_lead place f named (units_of b) ≡ stopped place Malformed
no_language place f named [] short = refl
no_language place f named (x ∷ []) short = if_none place f named (same_bytes (2 ∷ 3 ∷ []) (x ∷ []))
no_language place f named (x ∷ y ∷ []) short = if_none place f named (same_bytes (2 ∷ 3 ∷ []) (x ∷ y ∷ []))
no_language place f named (x ∷ y ∷ z ∷ b) short = absurd (omega arith)

-- and a longer one has some
pub some_language : (place : Place) (f : DescriptorFile) (named b u : List ℕ) → units_of b ≡ Some u → 2 < length b →
    languages_lead place f named (Some u) ≡ texts_due f (record { languages = u; texts = [] }) named
some_language place f named b [] is long = (let size = ap length (units_written b [] is).0 in absurd (omega arith))
some_language place f named b (l ∷ u) is long = refl

languages_there : (place : Place) (f : DescriptorFile) (named b : List ℕ) (o : Option (List ℕ)) → units_of b ≡ o → IsSome o → 2 < length b →
    is_end (languages_lead place f named o) ≡ false
languages_there place f named b None is some long = absurd (cc)
languages_there place f named b (Some u) is some long =
    subst (λ x. is_end x ≡ false) (sym (some_language place f named b u is long)) (texts_go_on f (record { languages = u; texts = [] }) named)

pub languages_go_on : (place : Place) (f : DescriptorFile) (named b : List ℕ) → IsSome (units_of b) → 2 < length b →
    is_end (languages_lead place f named (units_of b)) ≡ false
languages_go_on place f named b some long = languages_there place f named b (units_of b) refl some long

-- ---- a string

text_there : (place : Place) (f : DescriptorFile) (s : Strings) (named : List ℕ) (o : Option (List ℕ)) → IsSome o →
    is_end (text_leads place f s named o) ≡ false
text_there place f s named None some = absurd (cc)
text_there place f s named (Some u) some = texts_go_on f _ named

pub text_goes_on : (place : Place) (f : DescriptorFile) (s : Strings) (named b : List ℕ) → IsSome (units_of b) →
    is_end (text_leads place f s named (units_of b)) ≡ false
text_goes_on place f s named b some = text_there place f s named (units_of b) some

-- ---- a host

-- one that goes on has not ended
pub goes_on_there : (limits : LimitView) (next place : Place) → is_end next ≡ false → enter limits next ≡ Ended place → ⊥
goes_on_there limits First place goes e = absurd (cc)
goes_on_there limits (Address first) place goes e = absurd (cc)
goes_on_there limits (Device first) place goes e = absurd (cc)
goes_on_there limits (Header kind f) place goes e = absurd (cc)
goes_on_there limits (Set kind f total) place goes e = absurd (cc)
goes_on_there limits (Qualifier f) place goes e = absurd (cc)
goes_on_there limits (Languages f named) place goes e = absurd (cc)
goes_on_there limits (Text f s named) place goes e = absurd (cc)
goes_on_there limits (Configure f) place goes e = absurd (cc)
goes_on_there limits (Reported f) place goes e = absurd (cc)
goes_on_there limits (Stopped trouble) place goes e = absurd (cc)
