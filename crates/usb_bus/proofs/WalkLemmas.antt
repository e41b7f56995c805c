-- The cursor of an enumeration walks the script of a described file, and ends with that file.
use Rattle.std.proofs.Common.{◌≡◌, ℕ, suc, ◌+◌, ◌*◌, ◌<◌, ◌≤◌, ◌==◌, Bool, true, false, not, ◌&&◌, ◌||◌, if◌then◌else◌, nat_lt, List, [], ◌∷◌, ◌++◌, length, take, refl, ap, sym, ◌∙◌, arith, subst, append_assoc, length-append}
use Rattle.std.specs.Prelude.{Option, Some, None}
use Rattle.std.proofs.lemmas.Bool.Decides.{nat_tests}
use Rattle.std.proofs.lemmas.List.{append-nil}
use Rattle.usb_fields.specs.declared.device.DeviceDescriptor.{DeviceDescriptor}
use Rattle.usb_fields.specs.Device.{device_bytes}
use Rattle.usb_set.specs.declared.tree.SetKind.{SetKind}
use Rattle.usb_set.specs.declared.tree.SetKind.TheVariants as kinds
use Rattle.usb_set.specs.declared.tree.Configuration.{Configuration}
use Rattle.usb_set.specs.Descriptors.{type_number}
use Rattle.usb_file_data.specs.declared.file.DescriptorFile.{DescriptorFile}
use Rattle.usb_file_data.specs.declared.file.Other.{Other}
use Rattle.usb_file_data.specs.declared.file.Strings.{Strings}
use Rattle.usb_file_data.specs.File.{whole_set, named_indices, other_sets}
use Rattle.usb_host.specs.Terms.{is_asked}
use Rattle.usb_host.specs.declared.choice.Terms.{Terms}
use Rattle.usb_host.specs.declared.reply.Reply.TheVariants.{Bytes, Done}
use Rattle.usb_host.specs.declared.why.Why.TheVariants.{Malformed}
use Rattle.usb_host.specs.Plan.{Begin}
use Rattle.usb_host.specs.Read.{get_descriptor, set_address, same_bytes, packet_fits, may_have_second}
use Rattle.usb_host.specs.Place.{Place, First, Address, Device, Header, Set, Qualifier as SecondSpeed, Languages, Text, Configure, Reported}
use Rattle.usb_host.proofs.ReadLemmas.{same_self, device_read}
use Rattle.usb_file_data.specs.Front.{with_set, with_strings}
use Rattle.usb_bus.specs.inside.Following.{WalksScript}
use Rattle.usb_host.specs.Order.{stopped, is_first_zero, first_value, index_due, language_due, sets_of, declared_sets, texts_due, strings_due, after_sets, sets_due, device_leads, header_leads, set_leads, qualifier_leads, languages_lead, text_leads}
use Rattle.usb_bus.specs.inside.Described.{EachIsRead, TextsAreRead, OtherIsRead, StringsAreRead}
use Rattle.usb_bus.specs.inside.Script.{Exchange, exchange, set_script, text_script, string_script, other_script, last_script, named_script, second_script, script}
use Rattle.usb_bus.proofs.AcceptLemmas.{AreSound, AreStrings}
use Rattle.usb_bus.proofs.HeadLemmas.{headed}
use Rattle.usb_text.proofs.Printables.{both}

-- by a test that is known
if_true : (P : Place → Type 0) (b : Bool) (x y : Place) → b ≡ true → P x → P (if b then x else y)
if_true P true x y e h = h
if_true P false x y e h = absurd (cc)

if_false : (P : Place → Type 0) (b : Bool) (x y : Place) → b ≡ false → P y → P (if b then x else y)
if_false P true x y e h = absurd (cc)
if_false P false x y e h = h

not_first : (kind : SetKind) (cs : List Configuration) (c d : Configuration) → is_first_zero kind (cs ++ c ∷ []) d ≡ false
not_first kinds.Configuration [] c d = refl
not_first kinds.Configuration (b ∷ cs) c d = refl
not_first kinds.OtherSpeed cs c d = refl

is_same : (n : ℕ) → (n == n) ≡ true
is_same n = grind (arith, nat_tests)

below : (a b : ℕ) → a < b → nat_lt a b ≡ true
below a b h = grind (arith, nat_tests)

not_below : (a b : ℕ) → b ≤ a → nat_lt a b ≡ false
not_below a b h = grind (arith, nat_tests)

module _ (set_of : List ℕ → Option Configuration) (terms : Terms) (address : ℕ) where
  abbrev W : DescriptorFile → Place → List Exchange → Type 0
  W f c xs = WalksScript set_of terms address (Reported f) c xs

  -- the strings from number k on
  walks_texts : (g : DescriptorFile) (ls : List ℕ) (ts done : List (List ℕ)) (k : ℕ) → length done ≡ k → TextsAreRead ts →
      length done + length ts ≡ length ls * length (named_indices g) →
      (let f = record g { strings = Some (record { languages = ls; texts = done ++ ts }) } in
      W f (texts_due g (record { languages = ls; texts = done }) (named_indices g))
      (text_script address g.device.packet ls (named_indices g) k ts (last_script address g.device.packet f)))
  walks_texts g ls [] done k at good count =
      let s : Strings = record { languages = ls; texts = done } in
      let f = record g { strings = Some s } in
      let last : W f (Configure f) (last_script address g.device.packet f) = (refl, refl) in
      rw (append-nil done)
      (if_false (λ c. W f c (last_script address g.device.packet f)) (nat_lt (length done) (length ls * length (named_indices g))) (Text g s (named_indices g)) (Configure f)
      (not_below _ _ (omega arith)) last)
  walks_texts g ls (t ∷ ts) done k at good count =
      let s : Strings = record { languages = ls; texts = done } in
      let f = record g { strings = Some (record { languages = ls; texts = done ++ (t ∷ ts) }) } in
      let size = length-append done (t ∷ []) in
      let more : W f (texts_due g (record { languages = ls; texts = done ++ t ∷ [] }) (named_indices g))
      (text_script address g.device.packet ls (named_indices g) (suc k) ts (last_script address g.device.packet f)) =
      subst (λ x. (let h = record g { strings = Some (record { languages = ls; texts = x }) } in
      W h (texts_due g (record { languages = ls; texts = done ++ t ∷ [] }) (named_indices g))
      (text_script address g.device.packet ls (named_indices g) (suc k) ts (last_script address g.device.packet h))))
      (append_assoc done (t ∷ []) ts)
      (walks_texts g ls ts (done ++ t ∷ []) (suc k) (omega arith) good.1 (omega arith)) in
      let here : W f (Text g s (named_indices g)) (text_script address g.device.packet ls (named_indices g) k (t ∷ ts) (last_script address g.device.packet f)) = (
        ap (λ z. Begin address g.device.packet (get_descriptor 3 (index_due (named_indices g) z) (language_due ls (named_indices g) z) 255)) at,
        subst (λ x. W f (text_leads (Text g s (named_indices g)) g s (named_indices g) x) (text_script address g.device.packet ls (named_indices g) (suc k) ts (last_script address g.device.packet f))) (sym good.0) more,
      ) in
      if_true (λ c. W f c (text_script address g.device.packet ls (named_indices g) k (t ∷ ts) (last_script address g.device.packet f)))
      (nat_lt (length done) (length ls * length (named_indices g))) (Text g s (named_indices g)) (Configure (with_strings s g)) (below _ _ (omega arith)) here

  walks_languages : (g : DescriptorFile) (ls : List ℕ) (ts : List (List ℕ)) → (length ls == 0) ≡ false → TextsAreRead ts →
      length ts ≡ length ls * length (named_indices g) →
      (let f = record g { strings = Some (record { languages = ls; texts = ts }) } in
      W f (languages_lead (Languages g (named_indices g)) g (named_indices g) (Some ls)) (text_script address g.device.packet ls (named_indices g) 0 ts (last_script address g.device.packet f)))
  walks_languages g [] ts some good count = absurd (cc)
  walks_languages g (l ∷ ls) ts some good count = walks_texts g (l ∷ ls) ts [] 0 refl good (omega arith)

  -- whether no strings are asked for: they are skipped, or no index is named
  abbrev pub skips : DescriptorFile → Bool
  skips g = not (is_asked terms.choice.strings) || (length (named_indices g) == 0)

  walks_strings : (g : DescriptorFile) (t : Option Strings) → g.strings ≡ None → StringsAreRead t →
      ((s : Strings) → t ≡ Some s → AreStrings (named_indices g) s × (skips g ≡ false)) → (t ≡ None → skips g ≡ true) →
      (let f = record g { strings = t } in
      W f (strings_due terms g) (string_script address g.device.packet t (named_indices g) (last_script address g.device.packet f)))
  walks_strings g None no_strings read right none =
      let f = record g { strings = None } in
      let last : W f (Configure g) (last_script address g.device.packet f) = (refl, ap (λ x. Reported (record g { strings = x })) no_strings) in
      if_true (λ c. W f c (last_script address g.device.packet f)) (skips g) (Configure g) (Languages g (named_indices g)) (none refl) last
  walks_strings g (Some s) no_strings read right none =
      let f = record g { strings = Some s } in
      let (r, asked) = right s refl in
      let here : W f (Languages g (named_indices g)) (string_script address g.device.packet (Some s) (named_indices g) (last_script address g.device.packet f)) = (
        refl,
        subst (λ x. W f (languages_lead (Languages g (named_indices g)) g (named_indices g) x) (text_script address g.device.packet s.languages (named_indices g) 0 s.texts (last_script address g.device.packet f)))
            (sym read.0) (walks_languages g s.languages s.texts r.some_language read.1 r.count),
      ) in
      if_false (λ c. W f c (string_script address g.device.packet (Some s) (named_indices g) (last_script address g.device.packet f)))
      (skips g) (Configure g) (Languages g (named_indices g)) asked here

  -- the sets of a kind, where `at` is the file with this many of them
  module _ (f : DescriptorFile) (kind : SetKind) (n total : ℕ) (at : List Configuration → DescriptorFile)
      (is_packet : (done : List Configuration) → (at done).device.packet ≡ n)
      (are_sets : (done : List Configuration) → sets_of kind (at done) ≡ done)
      (are_declared : (done : List Configuration) → declared_sets kind (at done) ≡ total)
      (grows : (done : List Configuration) (c : Configuration) → with_set kind c (at done) ≡ at (done ++ c ∷ [])) where
    walks_sets : (rest done : List Configuration) (i : ℕ) (more : List Exchange) → length done ≡ i → length done + length rest ≡ total →
        AreSound kind rest → EachIsRead set_of rest →
        ((c : Configuration) (cs : List Configuration) → rest ≡ c ∷ cs → is_first_zero kind done c ≡ false) →
        W f (after_sets terms kind (at (done ++ rest))) more →
        W f (sets_due terms kind (at done)) (set_script address n kind i rest more)
    walks_sets [] done i more here count sound read first w =
        let full : nat_lt (length (sets_of kind (at done))) (declared_sets kind (at done)) ≡ false =
        rw (are_sets done, are_declared done) (not_below _ _ (omega arith)) in
        if_false (λ c. W f c more) _ _ _ full (subst (λ x. W f (after_sets terms kind (at x)) more) (append-nil done) w)
    walks_sets (c ∷ cs) done i more here count sound read first w =
        let b = whole_set c in
        let head = headed kind c sound.0 sound.1 in
        let size = length-append done (c ∷ []) in
        let due : nat_lt (length (sets_of kind (at done))) (declared_sets kind (at done)) ≡ true =
        rw (are_sets done, are_declared done) (below _ _ (omega arith)) in
        let asked : (length_wanted : ℕ) → Begin address (at done).device.packet (get_descriptor (type_number kind) (length (sets_of kind (at done))) 0 length_wanted)
        ≡ Begin address n (get_descriptor (type_number kind) i 0 length_wanted) = λ length_wanted.
        (ap (λ p. Begin address p (get_descriptor (type_number kind) (length (sets_of kind (at done))) 0 length_wanted)) (is_packet done)
        ∙ ap (λ z. Begin address n (get_descriptor (type_number kind) z 0 length_wanted)) (ap length (are_sets done) ∙ here)) in
        let rest_walks : W f (sets_due terms kind (at (done ++ c ∷ []))) (set_script address n kind (suc i) cs more) =
        walks_sets cs (done ++ c ∷ []) (suc i) more (omega arith) (omega arith) sound.2 read.1 (λ d ds e. not_first kind done c d)
        (subst (λ x. W f (after_sets terms kind (at x)) more) (sym (append_assoc done (c ∷ []) cs)) w) in
        let grown : W f (sets_due terms kind (with_set kind c (at done))) (set_script address n kind (suc i) cs more) =
        subst (λ x. W f (sets_due terms kind x) (set_script address n kind (suc i) cs more)) (sym (grows done c)) rest_walks in
        let not_zero : is_first_zero kind (sets_of kind (at done)) c ≡ false = subst (λ x. is_first_zero kind x c ≡ false) (sym (are_sets done)) (first c cs refl) in
        let right : ((length b == length b) && (type_number c.kind == type_number kind) && not (is_first_zero kind (sets_of kind (at done)) c)) ≡ true =
        both _ _ (both _ _ (is_same (length b)) head.kind_is) (ap not not_zero) in
        let set : W f (set_leads terms (Set kind (at done) (length b)) kind (at done) (length b) (length b) (Some c)) (set_script address n kind (suc i) cs more) =
        if_true (λ x. W f x (set_script address n kind (suc i) cs more)) _ _ _ right grown in
        let whole : W f (Set kind (at done) (length b)) (exchange address n (get_descriptor (type_number kind) i 0 (length b)) (Bytes b) ∷ set_script address n kind (suc i) cs more) = (
          asked (length b),
          subst (λ x. W f (set_leads terms (Set kind (at done) (length b)) kind (at done) (length b) (length b) x) (set_script address n kind (suc i) cs more)) (sym read.0) set,
        ) in
        let here : W f (Header kind (at done)) (set_script address n kind i (c ∷ cs) more) = (
          asked 9,
          subst (λ x. W f (header_leads (Header kind (at done)) kind (at done) x) (exchange address n (get_descriptor (type_number kind) i 0 (length b)) (Bytes b) ∷ set_script address n kind (suc i) cs more))
              (sym head.announces) whole,
        ) in
        if_true (λ x. W f x (set_script address n kind i (c ∷ cs) more)) (nat_lt (length (sets_of kind (at done))) (declared_sets kind (at done)))
        (Header kind (at done)) (after_sets terms kind (at done)) due here

  -- what is known of the strings of a file
  pub record HasStrings (f : DescriptorFile) : Type 0 where
    pub read : StringsAreRead f.strings
    pub right : (s : Strings) → f.strings ≡ Some s → AreStrings (named_indices f) s × (skips f ≡ false)
    pub none : f.strings ≡ None → skips f ≡ true

  -- descriptors that a host reads on its terms: all that they declare is there and is read back, and nothing that isn't asked for
  pub record IsReadable (f : DescriptorFile) : Type 0 where
    pub packet : packet_fits terms.speed f.device.packet ≡ true
    pub count : length f.sets ≡ f.device.configurations
    pub value : (first_value f.sets == 0) ≡ false
    pub sound : AreSound kinds.Configuration f.sets
    pub sets : EachIsRead set_of f.sets
    pub other_count : (p : Other) → f.other ≡ Some p → length p.sets ≡ p.qualifier.configurations
    pub other_asked : (p : Other) → f.other ≡ Some p → (terms.choice.other_speed && may_have_second terms.speed f.device) ≡ true
    pub other_sound : AreSound kinds.OtherSpeed (other_sets f.other)
    pub other : OtherIsRead set_of f.other
    pub strings : HasStrings f

  module _ (dev : DeviceDescriptor) where
    abbrev file : List Configuration → Option Other → Option Strings → DescriptorFile
    file s o t = record { device = dev; sets = s; other = o; strings = t }

    -- from the qualifier on
    walks_other : (s : List Configuration) (o : Option Other) (t : Option Strings) → HasStrings (file s o t) → OtherIsRead set_of o →
        AreSound kinds.OtherSpeed (other_sets o) → ((p : Other) → o ≡ Some p → length p.sets ≡ p.qualifier.configurations) →
        (let f = file s o t in W f (SecondSpeed (file s None None)) (other_script address dev.packet o (named_script address dev.packet f)))
    walks_other s None t strings read sound count =
        (refl, walks_strings (file s None None) t refl strings.read strings.right strings.none)
    walks_other s (Some o) t strings read sound count =
        let f = file s (Some o) t in
        let more = named_script address dev.packet f in
        let at : List Configuration → DescriptorFile = λ done. file s (Some (record { qualifier = o.qualifier; sets = done })) None in
        let w : W f (after_sets terms kinds.OtherSpeed (at ([] ++ o.sets))) more =
        walks_strings (at o.sets) t refl strings.read strings.right strings.none in
        let sets : W f (sets_due terms kinds.OtherSpeed (at [])) (set_script address dev.packet kinds.OtherSpeed 0 o.sets more) =
        walks_sets f kinds.OtherSpeed dev.packet o.qualifier.configurations at (λ done. refl) (λ done. refl) (λ done. refl) (λ done c. refl)
        o.sets [] 0 more refl (let e = count o refl in omega arith) sound read.1 (λ c cs e. refl) w in
        (refl, subst (λ x. W f (qualifier_leads terms (SecondSpeed (file s None None)) (file s None None) x) (set_script address dev.packet kinds.OtherSpeed 0 o.sets more)) (sym read.0) sets)

    walks_second : (s : List Configuration) (o : Option Other) (t : Option Strings) (may : Bool) → (terms.choice.other_speed && may_have_second terms.speed dev) ≡ may → HasStrings (file s o t) → OtherIsRead set_of o →
        AreSound kinds.OtherSpeed (other_sets o) → ((p : Other) → o ≡ Some p → length p.sets ≡ p.qualifier.configurations) →
        ((p : Other) → o ≡ Some p → may ≡ true) →
        (let f = file s o t in W f (after_sets terms kinds.Configuration (file s None None)) (second_script address dev.packet may f))
    walks_second s o t true e strings read sound count asked =
        let f = file s o t in
        if_true (λ c. W f c (second_script address dev.packet true f)) (terms.choice.other_speed && may_have_second terms.speed dev) _ _ e (walks_other s o t strings read sound count)
    walks_second s None t false e strings read sound count asked =
        let f = file s None t in
        if_false (λ c. W f c (second_script address dev.packet false f)) (terms.choice.other_speed && may_have_second terms.speed dev) _ _ e
        (walks_strings (file s None None) t refl strings.read strings.right strings.none)
    walks_second s (Some o) t false e strings read sound count asked = absurd (let z = asked o refl in cc)

    first_right : (s : List Configuration) → (first_value s == 0) ≡ false → (c : Configuration) (cs : List Configuration) → s ≡ c ∷ cs → is_first_zero kinds.Configuration [] c ≡ false
    first_right [] z c cs e = absurd (cc)
    first_right (d ∷ ds) z c cs e = (let same : d ≡ c = cc in subst (λ x. (x.value == 0) ≡ false) same z)

    some_sets : (s : List Configuration) → (first_value s == 0) ≡ false → length s ≡ dev.configurations → (dev.configurations == 0) ≡ false
    some_sets [] z count = absurd (cc)
    some_sets (c ∷ cs) z count = grind (arith, nat_tests)

    walks_file : (s : List Configuration) (o : Option Other) (t : Option Strings) →
        (let f = file s o t in IsReadable f → W f First (script address dev.packet terms f))
    walks_file s o t d =
        let f = file s o t in
        let b = device_bytes dev in
        let may = terms.choice.other_speed && may_have_second terms.speed dev in
        let more = second_script address dev.packet may f in
        let at : List Configuration → DescriptorFile = λ done. file done None None in
        let count = d.count in
        let w : W f (after_sets terms kinds.Configuration (at ([] ++ s))) more =
        walks_second s o t may refl d.strings d.other d.other_sound d.other_count d.other_asked in
        let sets : W f (sets_due terms kinds.Configuration (at [])) (set_script address dev.packet kinds.Configuration 0 s more) =
        walks_sets f kinds.Configuration dev.packet dev.configurations at (λ done. refl) (λ done. refl) (λ done. refl) (λ done c. refl)
        s [] 0 more refl (omega arith) d.sound d.sets (first_right s d.value) w in
        let fits : (same_bytes (take 8 b) (take 8 b) && not (dev.configurations == 0)) ≡ true =
        both _ _ (same_self (take 8 b)) (ap not (some_sets s d.value count)) in
        let read : W f (device_leads terms (Device (take 8 b)) (take 8 b) b (Some dev)) (set_script address dev.packet kinds.Configuration 0 s more) =
        if_true (λ c. W f c (set_script address dev.packet kinds.Configuration 0 s more)) _ _ _ fits sets in
        let rest : List Exchange = exchange 0 dev.packet (set_address address) Done ∷ exchange address dev.packet (get_descriptor 1 0 0 18) (Bytes b) ∷ set_script address dev.packet kinds.Configuration 0 s more in
        let addressed : W f (Address (take 8 b)) rest =
        (refl, (refl, subst (λ x. W f (device_leads terms (Device (take 8 b)) (take 8 b) b x) (set_script address dev.packet kinds.Configuration 0 s more)) (sym (device_read dev)) read)) in
        (refl, if_true (λ c. W f c rest) (packet_fits terms.speed dev.packet) (Address (take 8 b)) (stopped First Malformed) d.packet addressed)

  pub walks_script : (f : DescriptorFile) → IsReadable f → W f First (script address f.device.packet terms f)
  walks_script f d = walks_file f.device f.sets f.other f.strings d
