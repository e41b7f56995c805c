-- A file of which written sets were let go, beside the whole one.
use Rattle.std.proofs.Common.{◌≡◌, ℕ, zero, suc, ◌+◌, ◌*◌, ◌<◌, ◌≤◌, ◌==◌, ◌||◌, ◌&&◌, not, ltb, Bool, true, false, cond, List, [], ◌∷◌, ◌++◌, Option, Some, None, is_none, is_some, length, refl, ap, sym, ◌∙◌, append-nil, append_assoc, arith}
use Rattle.std.specs.Prelude.{filter}
use Rattle.std.specs.List.{flat_map, list_any, range_with_len}
use Rattle.std.proofs.lemmas.Bool.{eqb-false, eqb-true}
use Rattle.std.proofs.lemmas.List.Folds.{list_any-append}
use Rattle.usb_fields.specs.declared.device.DeviceDescriptor.{DeviceDescriptor}
use Rattle.usb_fields.specs.declared.qualifier.Qualifier.{Qualifier}
use Rattle.usb_set.specs.declared.tree.Configuration.{Configuration}
use Rattle.usb_set.proofs.Growth.{flat_map-snoc}
use Rattle.usb_file_data.specs.declared.file.DescriptorFile.{DescriptorFile}
use Rattle.usb_file_data.specs.declared.file.Other.{Other}
use Rattle.usb_file_data.specs.declared.file.Strings.{Strings}
use Rattle.usb_file_data.specs.File.{device_string_indices, has_wrong_count, named_among, named_indices, set_string_indices, string_indices}
use Rattle.usb_file_data.proofs.Lists.{length-push}
use Rattle.usb_listing.specs.Order.{has_over, is_over}
use Rattle.usb_listing.specs.declared.word.Word.{Word}
use Rattle.usb_listing.specs.declared.word.Word.TheVariants as words
use Rattle.usb_listing.specs.Listings.{IsBegun, is_whole}
use Rattle.usb_listing.specs.inside.Drafts.{strings_total}
use Rattle.usb_listing.specs.inside.Growing.{declared, has_interface, is_string, last_of, may_follow, may_follow_sets, may_stand, open_sets}
use Rattle.usb_listing.specs.inside.Walking.{has_all_strings}
use Rattle.usb_listing.specs.inside.Thinning.{with_open}
use Rattle.usb_listing.proofs.PartLemmas.{last_push, made}
use Rattle.usb_listing.proofs.WholeLemmas.{whole_is}

-- whether the index is one of these
abbrev pub has : ℕ → List ℕ → Bool
has n xs = list_any (λ index. index == n) xs

-- ---- one more set

or_last : (a x : Bool) → ((a || (x || false)) || false) ≡ ((a || false) || x)
or_last true x = refl
or_last false true = refl
or_last false false = refl

or_deep : (s a x : Bool) → (s || (a || (x || false))) ≡ ((s || a) || x)
or_deep true a x = refl
or_deep false true x = refl
or_deep false false true = refl
or_deep false false false = refl

pub over_more : (d : DeviceDescriptor) (ss : List Configuration) (o : Option Other) (s : Option Strings) (c : Configuration)
    → has_over (with_open c (made d ss o s)) ≡ (has_over (made d ss o s) || is_over c)
over_more d ss None s c = ap (λ (b : Bool). b || false) (list_any-append is_over ss (c ∷ [])) ∙ or_last (list_any is_over ss) (is_over c)
over_more d ss (Some o) s c =
    ap (λ (b : Bool). list_any is_over ss || b) (list_any-append is_over o.sets (c ∷ [])) ∙ or_deep (list_any is_over ss) (list_any is_over o.sets) (is_over c)

pub named_more : (d : DeviceDescriptor) (ss : List Configuration) (o : Option Other) (s : Option Strings) (c : Configuration) (n : ℕ)
    → has n (string_indices (with_open c (made d ss o s))) ≡ (has n (string_indices (made d ss o s)) || has n (set_string_indices c))
named_more d ss None s c n =
    let front = device_string_indices d ++ flat_map set_string_indices ss in
    ap (has n) (append-nil _ ∙ ap (λ (xs : List ℕ). device_string_indices d ++ xs) (flat_map-snoc set_string_indices ss c)
    ∙ sym (append_assoc (device_string_indices d) (flat_map set_string_indices ss) (set_string_indices c)))
    ∙ list_any-append (λ index. index == n) front (set_string_indices c)
    ∙ ap (λ (xs : List ℕ). has n xs || has n (set_string_indices c)) (sym (append-nil front))
named_more d ss (Some o) s c n =
    let front = device_string_indices d ++ flat_map set_string_indices ss in
    ap (has n) (ap (λ (xs : List ℕ). front ++ xs) (flat_map-snoc set_string_indices o.sets c)
    ∙ sym (append_assoc front (flat_map set_string_indices o.sets) (set_string_indices c)))
    ∙ list_any-append (λ index. index == n) (front ++ flat_map set_string_indices o.sets) (set_string_indices c)

-- ---- files that look the same to what reads on

abbrev pub LikeOther : Option Other → Option Other → Type 0
LikeOther None None = Unit {0}
LikeOther (Some o) (Some p) = (o.qualifier ≡ p.qualifier) × (length o.sets ≡ length p.sets)
LikeOther None (Some p) = ⊥
LikeOther (Some o) None = ⊥

-- as many sets, the same strings named, and the same without sets
pub record Like (f h : DescriptorFile) : Type 0 where
  pub device : f.device ≡ h.device
  pub strings : f.strings ≡ h.strings
  pub sets : length f.sets ≡ length h.sets
  pub other : LikeOther f.other h.other
  pub over : has_over f ≡ has_over h
  pub named : (n : ℕ) → 1 ≤ n → n < 256 → has n (string_indices f) ≡ has n (string_indices h)

other_refl : (o : Option Other) → LikeOther o o
other_refl None = tt
other_refl (Some o) = (refl, refl)

pub like_refl : (f : DescriptorFile) → Like f f
like_refl f = record { device = refl; strings = refl; sets = refl; other = other_refl f.other; over = refl; named = λ n few lt. refl }

other_trans : (o p q : Option Other) → LikeOther o p → LikeOther p q → LikeOther o q
other_trans None None q a b = b
other_trans (Some o) (Some p) (Some q) a b = (a.0 ∙ b.0, a.1 ∙ b.1)
other_trans None (Some p) q a b = absurd a
other_trans (Some o) None q a b = absurd a
other_trans (Some o) (Some p) None a b = b

pub like_trans : (f g h : DescriptorFile) → Like f g → Like g h → Like f h
like_trans f g h a b = record {
  device = a.device ∙ b.device;
  strings = a.strings ∙ b.strings;
  sets = a.sets ∙ b.sets;
  other = other_trans f.other g.other h.other a.other b.other;
  over = a.over ∙ b.over;
  named = λ n few lt. a.named n few lt ∙ b.named n few lt;
}

push_count : {A : Type 0} (xs ys : List A) (x y : A) → length xs ≡ length ys → length (xs ++ x ∷ []) ≡ length (ys ++ y ∷ [])
push_count xs ys x y e = length-push xs x ∙ ap (λ (n : ℕ). n + 1) e ∙ sym (length-push ys y)

-- two sets that name the same, behind files that are alike
pub like_open : (d e : DeviceDescriptor) (ss es : List Configuration) (o p : Option Other) (s t : Option Strings) (c b : Configuration) → Like (made d ss o s) (made e es p t)
    → has_over (with_open c (made d ss o s)) ≡ has_over (with_open b (made e es p t))
    → ((n : ℕ) → 1 ≤ n → n < 256 → has n (string_indices (with_open c (made d ss o s))) ≡ has n (string_indices (with_open b (made e es p t))))
    → Like (with_open c (made d ss o s)) (with_open b (made e es p t))
like_open d e ss es None None s t c b l over named =
    record { device = l.device; strings = l.strings; sets = push_count ss es c b l.sets; other = tt; over = over; named = named }
like_open d e ss es (Some o) (Some p) s t c b l over named =
    record { device = l.device; strings = l.strings; sets = l.sets; other = (l.other.0, push_count o.sets p.sets c b l.other.1); over = over; named = named }
like_open d e ss es None (Some p) s t c b l over named = absurd l.other
like_open d e ss es (Some o) None s t c b l over named = absurd l.other

pub like_more : (f h : DescriptorFile) (c : Configuration) → Like f h → Like (with_open c f) (with_open c h)
like_more f h c l =
    like_open f.device h.device f.sets h.sets f.other h.other f.strings h.strings c c l
    (over_more f.device f.sets f.other f.strings c ∙ ap (λ (b : Bool). b || is_over c) l.over ∙ sym (over_more h.device h.sets h.other h.strings c))
    (λ n few lt. named_more f.device f.sets f.other f.strings c n ∙ ap (λ (b : Bool). b || has n (set_string_indices c)) (l.named n few lt) ∙ sym (named_more h.device h.sets h.other h.strings c n))

-- ---- what is named

-- of those that pass, whether the index is one
pub has_filter : (q : ℕ → Bool) (n : ℕ) (xs : List ℕ) → has n (filter q xs) ≡ (has n xs && q n)
has_filter q n [] = refl
has_filter q n (x ∷ xs) = cases (has_filter q n xs) (q x) refl (x == n) refl
  where
    none : (b : Bool) → (b && false) ≡ false
    none true = refl
    none false = refl

    cases : has n (filter q xs) ≡ (has n xs && q n) → (b : Bool) → q x ≡ b → (c : Bool) → (x == n) ≡ c → has n (cond b (x ∷ filter q xs) (filter q xs)) ≡ ((c || has n xs) && q n)
    cases more true eb true ec = ap (λ (a : Bool). a || has n (filter q xs)) ec ∙ sym (sym (ap q (eqb-true x n ec)) ∙ eb)
    cases more true eb false ec = ap (λ (a : Bool). a || has n (filter q xs)) ec ∙ more
    cases more false eb true ec =
        let no : q n ≡ false = sym (ap q (eqb-true x n ec)) ∙ eb in more ∙ ap (λ (a : Bool). has n xs && a) no ∙ none (has n xs) ∙ sym no
    cases more false eb false ec = more

has_range : (a k n : ℕ) → a ≤ n → n < a + k → has n (range_with_len a k) ≡ true
has_range a zero n ge lt = absurd (omega (arith, ge, lt))
has_range a (suc k) n ge lt = cases (λ less. has_range (a + 1) k n (omega (arith, less)) (omega (arith, lt))) (a == n) refl
  where
    cases : (a < n → has n (range_with_len (a + 1) k) ≡ true) → (b : Bool) → (a == n) ≡ b → (b || has n (range_with_len (a + 1) k)) ≡ true
    cases more true e = refl
    cases more false e = let other = eqb-false a n e in more (omega (arith, ge, other))

-- an index is among the named ones where it is named
pub has_named : (xs : List ℕ) (n : ℕ) → 1 ≤ n → n < 256 → has n (named_among xs) ≡ has n xs
unfolding named_among
has_named xs n few lt =
    has_filter (λ k. has k xs) n (range_with_len 1 255) ∙ ap (λ (b : Bool). b && has n xs) (has_range 1 255 n few (omega (arith, lt)))

filter_same : (p q : ℕ → Bool) (a k : ℕ) → ((n : ℕ) → a ≤ n → n < a + k → p n ≡ q n) → filter p (range_with_len a k) ≡ filter q (range_with_len a k)
filter_same p q a zero h = refl
filter_same p q a (suc k) h =
    let here : p a ≡ q a = h a (omega arith) (omega arith) in
    let more : filter p (range_with_len (a + 1) k) ≡ filter q (range_with_len (a + 1) k) = filter_same p q (a + 1) k (λ n ge lt. h n (omega (arith, ge)) (omega (arith, lt))) in
    λ i. cond (here i) (a ∷ more i) (more i)

pub like_named : (f h : DescriptorFile) → Like f h → named_indices f ≡ named_indices h
unfolding named_among
like_named f h l = filter_same (λ n. has n (string_indices f)) (λ n. has n (string_indices h)) 1 255 (λ n ge lt. l.named n ge (omega (arith, lt)))

-- ---- what may come next

pub last_open : (d : DeviceDescriptor) (ss : List Configuration) (o : Option Other) (s : Option Strings) (c : Configuration)
    → last_of (open_sets (with_open c (made d ss o s)) (with_open c (made d ss o s)).other) ≡ Some c
last_open d ss None s c = last_push ss c
last_open d ss (Some o) s c = last_push o.sets c

-- what is asked of the sets where a word is judged
record SameSets (f h : DescriptorFile) : Type 0 where
  pub none : is_none f.other ≡ is_none h.other
  pub some : is_some f.other ≡ is_some h.other
  pub count : length (open_sets f f.other) ≡ length (open_sets h h.other)
  pub due : declared f f.other ≡ declared h h.other
  pub last : last_of (open_sets f f.other) ≡ last_of (open_sets h h.other)
  pub named : length (named_indices f) ≡ length (named_indices h)

same_sets_of : (d e : DeviceDescriptor) (ss es : List Configuration) (o p : Option Other) (s t : Option Strings) → Like (made d ss o s) (made e es p t)
    → last_of (open_sets (made d ss o s) o) ≡ last_of (open_sets (made e es p t) p) → SameSets (made d ss o s) (made e es p t)
same_sets_of d e ss es None None s t l last = record {
  none = refl;
  some = refl;
  count = l.sets;
  due = ap (λ (x : DeviceDescriptor). x.configurations) l.device;
  last = last;
  named = ap length (like_named (made d ss None s) (made e es None t) l);
}
same_sets_of d e ss es (Some o) (Some p) s t l last = record {
  none = refl;
  some = refl;
  count = l.other.1;
  due = ap (λ (q : Qualifier). q.configurations) l.other.0;
  last = last;
  named = ap length (like_named (made d ss (Some o) s) (made e es (Some p) t) l);
}
same_sets_of d e ss es None (Some p) s t l last = absurd l.other
same_sets_of d e ss es (Some o) None s t l last = absurd l.other

may_sets : (f h : DescriptorFile) (w : Word) → SameSets f h → may_follow_sets w f f.other ≡ may_follow_sets w h h.other
may_sets f h words.Configuration m = λ i. m.none i && ltb (m.count i) (m.due i)
may_sets f h words.OtherSpeed m = λ i. m.some i && ltb (m.count i) (m.due i)
may_sets f h words.Endpoint m = λ i. has_interface (m.last i)
may_sets f h words.Interface m = λ i. not (m.count i == 0)
may_sets f h (words.Extra x) m = λ i. not (m.count i == 0)
may_sets f h words.Qualifier m = λ i. m.none i && (m.count i == m.due i)
may_sets f h words.Languages m = λ i. (m.count i == m.due i) && not (m.named i == 0)
may_sets f h words.Device m = refl
may_sets f h words.String m = refl

may_strings : (f h : DescriptorFile) (w : Word) (s t : Option Strings) → SameSets f h → s ≡ t → may_follow w f s ≡ may_follow w h t
may_strings f h w s t m e = first s ∙ ap (may_follow w h) e
  where
    first : (s : Option Strings) → may_follow w f s ≡ may_follow w h s
    first None = may_sets f h w m
    first (Some s) = ap (λ (n : ℕ). is_string w && ltb (length s.texts) (length s.languages * n)) m.named

pub may_same : (f h : DescriptorFile) (w : Word) → Like f h → last_of (open_sets f f.other) ≡ last_of (open_sets h h.other) → may_stand (Some f) w ≡ may_stand (Some h) w
may_same f h w l last =
    may_strings f h w f.strings h.strings (same_sets_of f.device h.device f.sets h.sets f.other h.other f.strings h.strings l last) l.strings

-- ---- whether nothing comes next any more

counts_same : (d e : DeviceDescriptor) (ss es : List Configuration) (o p : Option Other) (s t : Option Strings) → Like (made d ss o s) (made e es p t)
    → has_wrong_count (made d ss o s) ≡ has_wrong_count (made e es p t)
counts_same d e ss es None None s t l = λ i. not (l.sets i == (l.device i).configurations) || false
counts_same d e ss es (Some o) (Some p) s t l =
    λ i. not (l.sets i == (l.device i).configurations) || not (l.other.1 i == (l.other.0 i).configurations)
counts_same d e ss es None (Some p) s t l = absurd l.other
counts_same d e ss es (Some o) None s t l = absurd l.other

strings_same : (f h : DescriptorFile) (s t : Option Strings) → length (named_indices f) ≡ length (named_indices h) → s ≡ t
    → has_all_strings f s (strings_total f s) ≡ has_all_strings h t (strings_total h t)
strings_same f h s t named e = first s ∙ ap (λ (x : Option Strings). has_all_strings h x (strings_total h x)) e
  where
    first : (s : Option Strings) → has_all_strings f s (strings_total f s) ≡ has_all_strings h s (strings_total h s)
    first None = ap (λ (n : ℕ). n == 0) named
    first (Some s) = ap (λ (n : ℕ). length s.texts == length s.languages * n) named

pub whole_same : (f h : DescriptorFile) → IsBegun (Some f) → IsBegun (Some h) → Like f h → is_whole (Some f) ≡ is_whole (Some h)
whole_same f h bf bh l =
    let counts = counts_same f.device h.device f.sets h.sets f.other h.other f.strings h.strings l in
    let strings = strings_same f h f.strings h.strings (ap length (like_named f h l)) l.strings in
    sym (whole_is f (strings_total f f.strings) bf refl) ∙ (λ i. not (counts i) && strings i) ∙ whole_is h (strings_total h h.strings) bh refl
