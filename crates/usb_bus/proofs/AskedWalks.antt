-- What a host reads of accepted descriptors that it asks for is read as it is there.
use Rattle.std.proofs.Common.{◌≡◌, ℕ, ◌*◌, ◌≤◌, ◌==◌, ◌&&◌, ◌||◌, not, Bool, true, false, if◌then◌else◌, List, [], ◌∷◌, length, Option, Some, None, refl, ap, sym, ◌∙◌, arith, subst}
use Rattle.std.specs.List.{list_any}
use Rattle.std.proofs.lemmas.Bool.Decides.{nat_tests}
use Rattle.usb_fields.specs.Units.{units_bytes}
use Rattle.usb_set.specs.declared.tree.SetKind.TheVariants as kinds
use Rattle.usb_set.specs.declared.tree.Configuration.{Configuration}
use Rattle.usb_file_data.specs.declared.file.DescriptorFile.{DescriptorFile}
use Rattle.usb_file_data.specs.declared.file.Other.{Other}
use Rattle.usb_file_data.specs.declared.file.Strings.{Strings}
use Rattle.usb_file_data.specs.File.{is_long_string, named_indices, other_sets}
use Rattle.usb_device.specs.Accepted.{is_among}
use Rattle.usb_host.specs.Place.{First, Reported}
use Rattle.usb_host.specs.Order.{other_declared}
use Rattle.usb_host.specs.Read.{may_have_second, units_of}
use Rattle.usb_host.specs.Terms.{is_asked}
use Rattle.usb_host.specs.declared.choice.Terms.{Terms}
use Rattle.usb_host.proofs.ReadLemmas.{units_read}
use Rattle.usb_bus.specs.Asked.{asked_of, strings_of, without_strings}
use Rattle.usb_bus.specs.inside.Described.{IsDescribed, OtherIsRead, StringsAreRead, TextsAreRead}
use Rattle.usb_bus.specs.inside.Following.{WalksScript}
use Rattle.usb_bus.specs.inside.Script.{script}
use Rattle.usb_bus.proofs.AcceptLemmas.{AreSound, AreStrings, count_is, languages_apart, no_strings_right, other_asked, other_count_is, other_sets_sound, packet_right, sets_sound, strings_right, value_some}
use Rattle.usb_bus.proofs.AskedTexts.{among_all, short_there, strings_from, texts_count, texts_there}
use Rattle.usb_bus.proofs.DescribeLemmas.{texts_read}
use Rattle.usb_bus.proofs.WalkLemmas.{HasStrings, IsReadable, walks_script}

-- of the other speed, where it is asked for
by_speed : (P : Option Other → Type 0) (b : Bool) (o : Option Other) → P o → P None → P (if b then o else None)
by_speed P true o h none = h
by_speed P false o h none = none

asked_some : (b : Bool) (o : Option Other) (p : Other) → (if b then o else None) ≡ Some p → (b ≡ true) × (o ≡ Some p)
asked_some true o p e = (refl, e)
asked_some false o p e = absurd (cc)

read_as_there : (o : Option Strings) → ((u : Strings) → o ≡ Some u → (units_of (units_bytes u.languages) ≡ Some u.languages) × TextsAreRead u.texts) → StringsAreRead o
read_as_there None h = tt
read_as_there (Some u) h = h u refl

module _ (set_of : List ℕ → Option Configuration) (terms : Terms) (address : ℕ) (f : DescriptorFile) (d : IsDescribed set_of terms.speed f) where
  abbrev g : DescriptorFile
  g = asked_of terms.choice f

  -- the strings that are read
  strings_good : (u : Strings) → g.strings ≡ Some u → AreStrings (named_indices g) u
  strings_good u e =
      let a = d.accepted in
      let (t, is, languages, texts, some) = strings_from terms.choice f u e in
      let right = strings_right f t a.strings is in
      let once = languages_apart f t a.strings is in
      let there = texts_there f t is right once (named_indices g) (among_all terms.choice f) in
      let count = texts_count f t is right once (named_indices g) (among_all terms.choice f) in
      record {
        some_named = some;
        some_language = subst (λ ls. (length ls == 0) ≡ false) (sym languages) right.some_language;
        few = subst (λ ls. length ls ≤ 126) (sym languages) right.few;
        short = subst (λ us. list_any is_long_string us ≡ false) (sym texts) (short_there f t (named_indices g) 0 _ right.short there);
        count = ap (λ us. length us) texts ∙ count ∙ ap (λ ls. length ls * length (named_indices g)) (sym languages);
      }

  read_good : (u : Strings) → g.strings ≡ Some u → (units_of (units_bytes u.languages) ≡ Some u.languages) × TextsAreRead u.texts
  read_good u e = (let good = strings_good u e in (units_read u.languages good.few, texts_read u.texts good.short))

  -- they are read where they are asked for and named
  asked_texts : (b : Bool) (named : List ℕ) (o : Option Strings) (u : Strings) → (if b then strings_of f named o else None) ≡ Some u → (length named == 0) ≡ false →
      (not b || (length named == 0)) ≡ false
  asked_texts true named o u e some = some
  asked_texts false named o u e some = absurd (cc)

  no_texts : (b : Bool) (named : List ℕ) (o : Option Strings) → (if b then strings_of f named o else None) ≡ None → (o ≡ None → (length named == 0) ≡ true) →
      (not b || (length named == 0)) ≡ true
  no_texts false named o e none = refl
  no_texts true named None e none = none refl
  no_texts true [] (Some t) e none = refl
  no_texts true (n ∷ named) (Some t) e none = absurd (cc)

  -- where the device has no strings, it names none
  none_named : f.strings ≡ None → (length (named_indices g) == 0) ≡ true
  none_named e = by_named (named_indices g) (named_indices f) (no_strings_right f d.accepted.strings e) (λ n. among_all terms.choice f n)
    where
      by_named : (less all : List ℕ) → (length all == 0) ≡ true → ((n : ℕ) → is_among less n ≡ true → is_among all n ≡ true) → (length less == 0) ≡ true
      by_named [] all none more = refl
      by_named (x ∷ less) [] none more = absurd (let first = more x (grind (arith, nat_tests)) in cc)
      by_named (x ∷ less) (y ∷ all) none more = absurd (grind (arith, nat_tests))

  strings_are : HasStrings set_of terms address g
  strings_are = record {
    read = read_as_there g.strings read_good;
    right = λ u e. (strings_good u e, asked_texts (is_asked terms.choice.strings) (named_indices (without_strings terms.choice f)) f.strings u e (strings_good u e).some_named);
    none = λ e. no_texts (is_asked terms.choice.strings) (named_indices (without_strings terms.choice f)) f.strings e none_named;
  }

  -- the sets of the other speed that are read
  counted : (p : Other) → g.other ≡ Some p → length p.sets ≡ p.qualifier.configurations
  counted p e =
      let (asked, is) = asked_some terms.choice.other_speed f.other p e in
      let all = other_count_is f d.accepted.sets in
      subst (λ o. length (other_sets o) ≡ other_declared o) is all

  both_asked : (b m : Bool) → b ≡ true → m ≡ true → (b && m) ≡ true
  both_asked true m x e = e
  both_asked false m x e = absurd (cc)

  is_asked_for : (p : Other) → g.other ≡ Some p → (terms.choice.other_speed && may_have_second terms.speed f.device) ≡ true
  is_asked_for p e =
      let (asked, is) = asked_some terms.choice.other_speed f.other p e in
      both_asked terms.choice.other_speed (may_have_second terms.speed f.device) asked (other_asked f terms.speed p d.accepted is)

  pub readable : IsReadable set_of terms address g
  readable =
      let a = d.accepted in
      record {
        packet = packet_right f terms.speed a;
        count = count_is f a.sets;
        value = value_some f a.rules;
        sound = sets_sound f a.sets;
        sets = d.sets;
        other_count = counted;
        other_asked = is_asked_for;
        other_sound = by_speed (λ o. AreSound kinds.OtherSpeed (other_sets o)) terms.choice.other_speed f.other (other_sets_sound f a.sets) tt;
        other = by_speed (λ o. OtherIsRead set_of o) terms.choice.other_speed f.other d.other tt;
        strings = strings_are;
      }

  pub walks_asked : WalksScript set_of terms address (Reported g) First (script address f.device.packet terms g)
  walks_asked = walks_script set_of terms address g readable
