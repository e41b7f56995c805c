-- A described device serves the script of its enumeration.
use Rattle.std.proofs.Common.{◌≡◌, ℕ, suc, ◌+◌, ◌<◌, ◌≤◌, ◌==◌, ◌&&◌, Bool, true, false, if◌then◌else◌, nat_lt, List, [], ◌∷◌, length, take, drop, map, refl, ap, sym, ◌∙◌, arith, subst, length-take, lit<}
use Rattle.std.specs.Prelude.{Option, Some, None}
use Rattle.std.specs.Option.{option_map}
use Rattle.std.specs.List.{list_any}
use Rattle.std.proofs.lemmas.Bool.Decides.{nat_tests}
use Rattle.std.proofs.lemmas.List.{take_all}
use Rattle.std.proofs.lemmas.Nat.{div-mul-add, mod-mul-add}
use Rattle.usb_host.specs.declared.choice.Terms.{Terms}
use Rattle.usb_host.proofs.SpareLemmas.{left_of}
use Rattle.usb_bus.specs.Asked.{asked_of}
use Rattle.usb_fields.specs.Device.{device_bytes, qualifier_bytes}
use Rattle.usb_fields.specs.Units.{units_bytes}
use Rattle.usb_set.specs.declared.tree.SetKind.{SetKind}
use Rattle.usb_set.specs.declared.tree.SetKind.TheVariants as kinds
use Rattle.usb_set.specs.declared.tree.Configuration.{Configuration}
use Rattle.usb_set.specs.Descriptors.{type_number}
use Rattle.usb_file_data.specs.declared.file.DescriptorFile.{DescriptorFile}
use Rattle.usb_file_data.specs.declared.file.Other.{Other}
use Rattle.usb_file_data.specs.declared.file.Strings.{Strings}
use Rattle.usb_file_data.specs.File.{whole_set, is_long_string, named_indices, other_sets}
use Rattle.usb_device.specs.Descriptors.{descriptor, set_at, string_at, qualifier_of, other_set_at}
use Rattle.usb_device.specs.declared.state.State.{State}
use Rattle.usb_device.specs.States.{zero as zero_state}
use Rattle.usb_device.specs.Offers.{set_offer}
use Rattle.usb_device.specs.Requests.{Bytes, Done, Refused, answer, answer_of, has_value}
use Rattle.usb_device.specs.Step.{carried_out, is_set_address}
use Rattle.usb_host.specs.declared.reply.Reply.TheVariants as replied
use Rattle.usb_bus.specs.Beside.{CutsAlike}
use Rattle.usb_bus.specs.Attempt.{reply_to}
use Rattle.usb_host.specs.Read.{get_descriptor, set_address, set_configuration, may_have_second}
use Rattle.usb_bus.specs.inside.Following.{Serves}
use Rattle.usb_host.specs.Order.{first_value, index_due, language_due}
use Rattle.usb_bus.specs.inside.Described.{IsDescribed}
use Rattle.usb_bus.specs.inside.Script.{Exchange, exchange, set_script, text_script, string_script, other_script, last_script, named_script, second_script, script, addressed_state}
use Rattle.usb_bus.specs.Enumerate.{configured_state}
use Rattle.usb_bus.proofs.AcceptLemmas.{AreSound, count_is, other_count_is, sets_sound, other_sets_sound, value_some, packet_right, at_least_8, strings_right, languages_apart}
use Rattle.usb_bus.proofs.HeadLemmas.{headed}
use Rattle.usb_bus.proofs.AskedTexts.{AreThere, among_all, at_drop, drop_next, short_there, strings_from, texts_there}
use Rattle.usb_bus.proofs.TextLemmas.{index_fits}
use Rattle.usb_bus.proofs.CutLemmas.{first_cut}
use Rattle.usb_fields.proofs.UnitLemmas.{length-flat_map}

no_address : (kind i language wants : ℕ) → is_set_address (get_descriptor kind i language wants) ≡ true → ⊥
no_address kind i language wants e = absurd (cc)

module _ (f : DescriptorFile) where
  -- GET_DESCRIPTOR of what is there, and of what isn't
  found : (s : State) (kind i language : ℕ) (b : List ℕ) (wants : ℕ) → i < 256 → descriptor f kind i language ≡ Some b → 0 < wants →
      answer f s (get_descriptor kind i language wants) ≡ Bytes (take wants b)
  unfolding answer answer_of
  found s kind i language b wants small e some =
      rw (div-mul-add kind 256 i small, mod-mul-add kind 256 i small, e) (by_length b wants some)
    where
      by_length : (b : List ℕ) (wants : ℕ) → 0 < wants → (if wants == 0 then Done s else Bytes (take wants b)) ≡ Bytes (take wants b)
      by_length b wants some = grind (arith, nat_tests)

  missing : (s : State) (kind i language wants : ℕ) → i < 256 → descriptor f kind i language ≡ None →
      answer f s (get_descriptor kind i language wants) ≡ Refused
  unfolding answer answer_of
  missing s kind i language wants small e =
      rw (div-mul-add kind 256 i small, mod-mul-add kind 256 i small, e) refl

  module _ (last : State) where
    abbrev n : ℕ
    n = f.device.packet

    abbrev D : State → List Exchange → Type 0
    D s xs = Serves (answer f) n last s xs

    -- one read more in front
    reads : (s : State) (packet kind i language wants : ℕ) (b b' : List ℕ) (more : List Exchange) → i < 256 → descriptor f kind i language ≡ Some b →
        0 < wants → take wants b ≡ b' → CutsAlike n packet wants b' → D s more →
        D s (exchange s.address packet (get_descriptor kind i language wants) (replied.Bytes b') ∷ more)
    reads s packet kind i language wants b b' more small e some at cut d =
        let a : answer f s (get_descriptor kind i language wants) ≡ Bytes b' = found s kind i language b wants small e some ∙ ap Bytes at in
        let kept : s ≡ carried_out s (answer f s (get_descriptor kind i language wants)) = sym (ap (λ x. carried_out s x) a) in (
          record {
            address = refl;
            reply = ap (reply_to []) a;
            is_cut = λ x ex. (let same : b' ≡ x = cc in subst (λ y. CutsAlike n packet wants y) same cut);
            sizes = λ judge ex. absurd (cc);
          },
          (λ z ez. absurd (no_address kind i language wants z)),
          subst (λ x. D x more) kept d,
        )

    declines : (s : State) (packet kind i language wants : ℕ) (more : List Exchange) → i < 256 → descriptor f kind i language ≡ None →
        D s more → D s (exchange s.address packet (get_descriptor kind i language wants) replied.Refused ∷ more)
    declines s packet kind i language wants more small e d =
        let a = missing s kind i language wants small e in
        let kept : s ≡ carried_out s (answer f s (get_descriptor kind i language wants)) = sym (ap (λ x. carried_out s x) a) in (
          record { address = refl; reply = ap (reply_to []) a; is_cut = λ x ex. absurd (cc); sizes = λ judge ex. absurd (cc) },
          (λ z ez. absurd (no_address kind i language wants z)),
          subst (λ x. D x more) kept d,
        )

    module _ (pos : 0 < f.device.packet) (s : State) where
      serves_sets : (kind : SetKind) (all : List Configuration) → ((i : ℕ) → descriptor f (type_number kind) i 0 ≡ set_at all i) →
          (i : ℕ) (rest : List Configuration) (more : List Exchange) → drop i all ≡ rest → i + length rest < 256 → AreSound kind rest →
          D s more → D s (set_script s.address n kind i rest more)
      serves_sets kind all is i [] more at few good d = d
      serves_sets kind all is i (c ∷ cs) more at few good d =
          let b = whole_set c in
          let head = headed kind c good.0 good.1 in
          let long = head.long in
          let here : descriptor f (type_number kind) i 0 ≡ Some b = is i ∙ ap (λ x. option_map whole_set x) (at_drop i all c cs at) in
          reads s n (type_number kind) i 0 9 b (take 9 b) _ (omega arith) here (lit< tt) refl
          (pos, simp length-take (omega arith), refl)
          (reads s n (type_number kind) i 0 (length b) b b _ (omega arith) here (omega arith) (take_all (length b) b (omega arith))
          (pos, omega arith, refl)
          (serves_sets kind all is (suc i) cs more (drop_next i all c cs at) (omega arith) good.2 d))

      reads_units : (i language : ℕ) (u : List ℕ) (more : List Exchange) → i < 256 → length u ≤ 126 → descriptor f 3 i language ≡ Some (units_bytes u) →
          D s more → D s (exchange s.address n (get_descriptor 3 i language 255) (replied.Bytes (units_bytes u)) ∷ more)
      reads_units i language u more small short here d =
          let size = length-flat_map u in
          reads s n 3 i language 255 (units_bytes u) (units_bytes u) more small here (lit< tt) (take_all 255 (units_bytes u) (omega arith))
          (pos, omega arith, refl) d

      serves_texts : (g : DescriptorFile) (t : Strings) → f.strings ≡ Some t → (length (named_indices g) == 0) ≡ false →
          (k : ℕ) (ts : List (List ℕ)) (more : List Exchange) → AreThere f t (named_indices g) k ts → list_any is_long_string ts ≡ false →
          D s more → D s (text_script s.address n t.languages (named_indices g) k ts more)
      serves_texts g t e some k [] more there short d = d
      serves_texts g t e some k (u ∷ ts) more there short d =
          let named = named_indices g in
          let fits = index_fits g k some in
          let some_index = fits.0 in
          let index : (index_due named k == 0) ≡ false = grind (arith, nat_tests) in
          let here : descriptor f 3 (index_due named k) (language_due t.languages named k) ≡ Some (units_bytes u) =
          ap (λ x. string_at x (named_indices f) (index_due named k) (language_due t.languages named k)) e ∙ rw (index, there.0) refl in
          let small : length u ≤ 126 = (let z = first_short u ts short in z) in
          reads_units (index_due named k) (language_due t.languages named k) u _ fits.1 small here
          (serves_texts g t e some (suc k) ts more there.1 (rest_short u ts short) d)
        where
          first_short : (u : List ℕ) (ts : List (List ℕ)) → list_any is_long_string (u ∷ ts) ≡ false → length u ≤ 126
          first_short u ts e = grind (arith, nat_tests)

          rest_short : (u : List ℕ) (ts : List (List ℕ)) → list_any is_long_string (u ∷ ts) ≡ false → list_any is_long_string ts ≡ false
          rest_short u ts e = grind (arith, nat_tests)

      -- the strings of g are there where they are asked for
      pub record AreServed (g : DescriptorFile) (u : Strings) : Type 0 where
        pub strings : Strings
        pub is : f.strings ≡ Some strings
        pub languages : u.languages ≡ strings.languages
        pub few : length strings.languages ≤ 126
        pub some : (length (named_indices g) == 0) ≡ false
        pub there : AreThere f strings (named_indices g) 0 u.texts
        pub short : list_any is_long_string u.texts ≡ false

      serves_strings : (g : DescriptorFile) (o : Option Strings) (more : List Exchange) → ((u : Strings) → o ≡ Some u → AreServed g u) →
          D s more → D s (string_script s.address n o (named_indices g) more)
      serves_strings g None more h d = d
      serves_strings g (Some u) more h d =
          let good = h u refl in
          let t = good.strings in
          let here : descriptor f 3 0 0 ≡ Some (units_bytes t.languages) = ap (λ x. string_at x (named_indices f) 0 0) good.is in
          subst (λ ls. D s (string_script s.address n (Some (record { languages = ls; texts = u.texts })) (named_indices g) more)) (sym good.languages)
          (reads_units 0 0 t.languages _ (lit< tt) good.few here
          (serves_texts g t good.is good.some 0 u.texts more good.there good.short d))

      serves_other : (o : Option Other) (more : List Exchange) → f.other ≡ o → AreSound kinds.OtherSpeed (other_sets o) → length (other_sets o) < 256 → D s more →
          D s (other_script s.address n o more)
      serves_other None more e good few d =
          declines s n 6 0 0 10 more (lit< tt) (ap (λ x. qualifier_of x 0) e) d
      serves_other (Some o) more e good few d =
          reads s n 6 0 0 10 (qualifier_bytes o.qualifier) (qualifier_bytes o.qualifier) _ (lit< tt) (ap (λ x. qualifier_of x 0) e) (lit< tt) refl
          (pos, omega arith, refl)
          (serves_sets kinds.OtherSpeed o.sets (λ i. ap (λ x. other_set_at x i) e) 0 o.sets more refl (omega arith) good d)

addressed_done : (f : DescriptorFile) (address : ℕ) → address < 128 → answer f zero_state (set_address address) ≡ Done (addressed_state address)
unfolding answer answer_of
addressed_done f address small =
    let fits : nat_lt address 128 ≡ true = grind (arith, nat_tests) in
    rw fits refl

has_first : (sets : List Configuration) → (first_value sets == 0) ≡ false → list_any (has_value (first_value sets)) (map set_offer sets) ≡ true
has_first [] e = absurd (cc)
has_first (c ∷ cs) e = grind (arith, nat_tests)

configured_done : (f : DescriptorFile) (address : ℕ) → 0 < address → (first_value f.sets == 0) ≡ false → first_value f.sets < 256 →
    answer f (addressed_state address) (set_configuration (first_value f.sets)) ≡ Done (configured_state address f)
unfolding answer answer_of
configured_done f address pos e small =
    let some : (address == 0) ≡ false = grind (arith, nat_tests) in
    let fits : nat_lt (first_value f.sets) 256 ≡ true = grind (arith, nat_tests) in
    rw (some, e, fits, has_first f.sets e) refl

module _ (set_of : List ℕ → Option Configuration) (terms : Terms) (address : ℕ) (f : DescriptorFile) (d : IsDescribed set_of terms.speed f) (some : 0 < address) (small : address < 128) where
  abbrev g : DescriptorFile
  g = asked_of terms.choice f

  abbrev m : ℕ
  m = f.device.packet

  abbrev last : State
  last = configured_state address f

  abbrev there : State
  there = addressed_state address

  serves_last : Serves (answer f) m last there (last_script address m g)
  serves_last =
      let a = configured_done f address some (value_some f d.accepted.rules) d.value_fits in (
        record { address = refl; reply = ap (reply_to []) a; is_cut = λ x ex. absurd (cc); sizes = λ judge ex. absurd (cc) },
        (λ z ez. absurd (cc)),
        ap (λ x. carried_out there x) a,
      )

  serves_more : (xs : List Exchange) → (xs ≡ [] → ⊥) → Serves (answer f) m last there xs →
      Serves (answer f) m last zero_state (exchange 0 m (set_address address) replied.Done ∷ xs)
  serves_more xs more s =
      let a = addressed_done f address small in (
        record { address = refl; reply = ap (reply_to []) a; is_cut = λ x ex. absurd (cc); sizes = λ judge ex. absurd (cc) },
        (λ z ez. more ez),
        subst (λ x. Serves (answer f) m last x xs) (sym (ap (λ x. carried_out zero_state x) a)) s,
      )

  -- what is asked for of the strings is there
  asked_served : (pos : 0 < m) (u : Strings) → g.strings ≡ Some u → AreServed f last pos there g u
  asked_served pos u e =
      let a = d.accepted in
      let (t, is, languages, texts, some_index) = strings_from terms.choice f u e in
      let right = strings_right f t a.strings is in
      let once = languages_apart f t a.strings is in
      let all = texts_there f t is right once (named_indices g) (among_all terms.choice f) in
      let found = subst (λ us. AreThere f t (named_indices g) 0 us) (sym texts) all in
      record {
        strings = t;
        is = is;
        languages = languages;
        few = right.few;
        some = some_index;
        there = found;
        short = short_there f t (named_indices g) 0 u.texts right.short found;
      }

  serves_named : (pos : 0 < m) → Serves (answer f) m last there (named_script address m g)
  serves_named pos = serves_strings f last pos there g g.strings _ (asked_served pos) serves_last

  serves_second : (may : Bool) → (terms.choice.other_speed && may_have_second terms.speed f.device) ≡ may → (0 < m) → Serves (answer f) m last there (second_script address m may g)
  serves_second true e pos =
      let a = d.accepted in
      let few = d.other_few in
      let count = other_count_is f a.sets in
      let same : f.other ≡ g.other = sym (ap (λ b. if b then f.other else None) (left_of terms.choice.other_speed (may_have_second terms.speed f.device) e)) in
      let sound = subst (λ o. AreSound kinds.OtherSpeed (other_sets o)) same (other_sets_sound f a.sets) in
      let fits : length (other_sets g.other) < 256 = subst (λ o. length (other_sets o) < 256) same (omega arith) in
      serves_other f last pos there g.other _ same sound fits (serves_named pos)
  serves_second false e pos = serves_named pos

  pub serves_script : Serves (answer f) m last zero_state (script address m terms g)
  serves_script =
      let a = d.accepted in
      let p = at_least_8 terms.speed m (packet_right f terms.speed a) in
      let pos : 0 < m = omega arith in
      let b = device_bytes f.device in
      let few = d.few in
      let count = count_is f a.sets in
      reads f last zero_state 8 1 0 0 8 b (take 8 b) _ (lit< tt) refl (lit< tt) refl (first_cut (take 8 b) m p refl)
      (serves_more _ (λ e. absurd (cc))
      (reads f last there m 1 0 0 18 b b _ (lit< tt) refl (lit< tt) refl (pos, omega arith, refl)
      (serves_sets f last pos there kinds.Configuration f.sets (λ i. refl) 0 f.sets _ refl (omega arith) (sets_sound f a.sets)
      (serves_second (terms.choice.other_speed && may_have_second terms.speed f.device) refl pos))))
