-- What the reads of an attempt cost at most, whatever is replied.
use Rattle.std.proofs.Common.{◌≡◌, ℕ, suc, ◌+◌, ◌-◌, ◌*◌, ◌/◌, ◌<◌, ◌≤◌, ◌==◌, Bool, true, false, not, ◌&&◌, ◌||◌, if◌then◌else◌, nat_lt, List, [], ◌∷◌, ◌++◌, length, take, refl, ap, sym, ◌∙◌, arith, get_or, get_or-take, lit<, lit≤, length-append, slice_index}
use Rattle.std.specs.Prelude.{Option, Some, None}
use Rattle.std.proofs.lemmas.Bool.Decides.{nat_tests}
use Rattle.std.proofs.lemmas.Nat.{le-div, div_below}
use Rattle.std.proofs.Math.Nat.{div-mul-le_self, mul-le-mul_left}
use Rattle.usb_fields.specs.Bytes.{AreBytes}
use Rattle.usb_fields.specs.declared.packet.Speed.{Speed}
use Rattle.usb_host.specs.declared.choice.Terms.{Terms}
use Rattle.usb_fields.specs.declared.packet.Speed.TheVariants.{Low, Full, High}
use Rattle.usb_fields.specs.declared.device.DeviceDescriptor.{DeviceDescriptor}
use Rattle.usb_fields.specs.declared.qualifier.Qualifier.{Qualifier}
use Rattle.usb_set.specs.declared.tree.SetKind.{SetKind}
use Rattle.usb_set.specs.declared.tree.SetKind.TheVariants as kinds
use Rattle.usb_set.specs.declared.tree.Configuration.{Configuration}
use Rattle.usb_set.specs.Descriptors.{type_number}
use Rattle.usb_file_data.specs.declared.file.DescriptorFile.{DescriptorFile}
use Rattle.usb_file_data.specs.declared.file.Other.{Other}
use Rattle.usb_file_data.specs.declared.file.Strings.{Strings}
use Rattle.usb_file_data.specs.File.{named_indices, string_indices}
use Rattle.usb_file_data.specs.Front.{with_set, with_qualifier}
use Rattle.usb_host.specs.declared.why.Why.TheVariants.{Malformed}
use Rattle.usb_host.specs.Plan.{Plan, Begin, Success, GivesUp}
use Rattle.usb_host.specs.Place.{Place, First, Address, Device, Header, Set, Qualifier as SecondSpeed, Languages, Text, Configure, Reported, Stopped}
use Rattle.usb_host.specs.Read.{packet_fits, same_bytes, is_first, may_have_second, total_said, total_in, device_of, qualifier_of, units_of}
use Rattle.usb_host.specs.Order.{is_first_zero, sets_of, declared_sets, other_declared, asks, stopped, texts_due, strings_due, after_sets, sets_due, device_leads, header_leads, set_leads, qualifier_leads, languages_lead, text_leads, bytes_lead, done_leads, refused_leads, is_of_strings, is_spared, spared, stand_in}
use Rattle.usb_host.specs.declared.choice.NamedStrings.{NamedStrings}
use Rattle.usb_host.specs.Terms.{is_asked}
use Rattle.usb_host.specs.Cost.{strings_cost, cost_after, cost, price}
use Rattle.usb_host.specs.inside.Sound.{IsGood}
use Rattle.usb_host.proofs.SpareLemmas.{spares_strings}
use Rattle.usb_host.proofs.ReadLemmas.{same_is, byte_at, device_narrow, qualifier_narrow, units_written}
use Rattle.usb_file_data.proofs.Longest.{named_length}

at_least_8 : (speed : Speed) (p : ℕ) → packet_fits speed p ≡ true → 8 ≤ p
at_least_8 Low p e = grind (arith, nat_tests)
at_least_8 Full p e = grind (arith, nat_tests)
at_least_8 High p e = grind (arith, nat_tests)

pub named_few : (f : DescriptorFile) → length (named_indices f) ≤ 255
named_few f = named_length (string_indices f)

pub few_texts : (x y : ℕ) → x ≤ 126 → y ≤ 255 → x * y ≤ 126 * 255
few_texts x y p q = grind (arith, mul-le-mul_left x q, mul-le-mul_left 255 p)

-- in k at most, and good
abbrev pub Fits : ℕ → Place → Type 0
Fits k place = IsGood place × (cost place ≤ k)

stopped_fits : (k : ℕ) (place : Place) → Fits k (stopped place Malformed)
stopped_fits k place = (tt, omega arith)

if_fits : (k : ℕ) (b : Bool) (x y : Place) → (b ≡ true → Fits k x) → (b ≡ false → Fits k y) → Fits k (if b then x else y)
if_fits k true x y p q = p refl
if_fits k false x y p q = q refl

texts_fit : (k : ℕ) (f : DescriptorFile) (s : Strings) (named : List ℕ) → 8 ≤ f.device.packet → length named ≤ 255 → length s.languages ≤ 126 →
    (length s.languages * length named - length s.texts) * 34 + 3 ≤ k → Fits k (texts_due f s named)
texts_fit k f s named p n l e =
    if_fits k (nat_lt (length s.texts) (length s.languages * length named)) _ _
    (λ t. ((p, grind (arith, nat_tests), n, l), e)) (λ t. (p, omega arith))

strings_fit : (terms : Terms) (k : ℕ) (f : DescriptorFile) → 8 ≤ f.device.packet → strings_cost ≤ k → Fits k (strings_due terms f)
strings_fit terms k f p s =
    if_fits k (not (is_asked terms.choice.strings) || (length (named_indices f) == 0)) _ _ (λ t. (p, omega arith)) (λ t. ((p, named_few f), s))

after_fits : (terms : Terms) (k : ℕ) (kind : SetKind) (f : DescriptorFile) → 8 ≤ f.device.packet → cost_after kind ≤ k → Fits k (after_sets terms kind f)
after_fits terms k kinds.Configuration f p s = if_fits k (terms.choice.other_speed && may_have_second terms.speed f.device) _ _ (λ t. (p, s)) (λ t. strings_fit terms k f p (omega arith))
after_fits terms k kinds.OtherSpeed f p s = strings_fit terms k f p s

sets_fit : (terms : Terms) (k : ℕ) (kind : SetKind) (f : DescriptorFile) → 8 ≤ f.device.packet →
    (declared_sets kind f - length (sets_of kind f)) * 8198 + cost_after kind ≤ k → Fits k (sets_due terms kind f)
sets_fit terms k kind f p s =
    if_fits k (nat_lt (length (sets_of kind f)) (declared_sets kind f)) _ _
    (λ t. ((p, grind (arith, nat_tests)), s)) (λ t. after_fits terms k kind f p (omega arith))

device_fits : (terms : Terms) (k : ℕ) (place : Place) (first b : List ℕ) (o : Option DeviceDescriptor) → AreBytes b → device_of b ≡ o → 8 ≤ slice_index first 7 →
    255 * 8198 + cost_after kinds.Configuration ≤ k → Fits k (device_leads terms place first b o)
device_fits terms k place first b None are e p s = stopped_fits k place
device_fits terms k place first b (Some d) are e p s =
    if_fits k (same_bytes (take 8 b) first && not (d.configurations == 0)) _ _
    (λ t.
    (let w = device_narrow b d are e in
    let same : same_bytes (take 8 b) first ≡ true = grind (arith, nat_tests) in
    let at : get_or first 7 0 ≡ get_or b 7 0 = ap (λ x. get_or x 7 0) (sym (same_is (take 8 b) first same)) ∙ get_or-take 8 b 7 0 (lit< tt) in
    let few = w.0 in
    let packet = w.1 in
    sets_fit terms k kinds.Configuration (record { device = d; sets = []; other = None; strings = None }) (omega arith) (omega arith)))
    (λ t. stopped_fits k place)

total_short : (kind count first kind_said total t : ℕ) → total < 65536 → total_said kind count first kind_said total ≡ Some t → t < 65536
total_short kind count first kind_said total t small e = grind (arith, nat_tests)

header_fits : (k : ℕ) (place : Place) (kind : SetKind) (f : DescriptorFile) (o : Option ℕ) → ((t : ℕ) → o ≡ Some t → t < 65536) → 8 ≤ f.device.packet →
    length (sets_of kind f) < declared_sets kind f → 8194 + (declared_sets kind f - suc (length (sets_of kind f))) * 8198 + cost_after kind ≤ k →
    Fits k (header_leads place kind f o)
header_fits k place kind f None short p below s = stopped_fits k place
header_fits k place kind f (Some t) short p below s = ((p, below, short t refl), s)

-- one set more: its number is counted, and the size of packets and the declared counts stay
record Counts (kind : SetKind) (c : Configuration) (f : DescriptorFile) : Type 0 where
  packet : (with_set kind c f).device.packet ≡ f.device.packet
  declared : declared_sets kind (with_set kind c f) ≡ declared_sets kind f
  sets : length (sets_of kind (with_set kind c f)) ≡ suc (length (sets_of kind f))

other_counts : (c : Configuration) (f : DescriptorFile) (o : Option Other) → f.other ≡ o → 0 < other_declared o → Counts kinds.OtherSpeed c f
other_counts c f None e some = absurd (omega arith)
other_counts c f (Some o) e some =
    let size = length-append o.sets (c ∷ []) in
    record { packet = refl; declared = rw e refl; sets = rw e (omega arith) }

counts : (kind : SetKind) (c : Configuration) (f : DescriptorFile) → length (sets_of kind f) < declared_sets kind f → Counts kind c f
counts kinds.Configuration c f below = (let size = length-append f.sets (c ∷ []) in record { packet = refl; declared = refl; sets = omega arith })
counts kinds.OtherSpeed c f below = other_counts c f f.other refl (omega arith)

with_set_fits : (terms : Terms) (k : ℕ) (kind : SetKind) (f : DescriptorFile) (c : Configuration) → 8 ≤ f.device.packet → length (sets_of kind f) < declared_sets kind f →
    (declared_sets kind f - suc (length (sets_of kind f))) * 8198 + cost_after kind ≤ k → Fits k (sets_due terms kind (with_set kind c f))
with_set_fits terms k kind f c p below s =
    let n = counts kind c f below in
    sets_fit terms k kind (with_set kind c f) (rw n.packet p) (rw (n.declared, n.sets) s)

pub set_fits : (terms : Terms) (k : ℕ) (place : Place) (kind : SetKind) (f : DescriptorFile) (total count : ℕ) (o : Option Configuration) → 8 ≤ f.device.packet →
    length (sets_of kind f) < declared_sets kind f → (declared_sets kind f - suc (length (sets_of kind f))) * 8198 + cost_after kind ≤ k →
    Fits k (set_leads terms place kind f total count o)
set_fits terms k place kind f total count None p below s = stopped_fits k place
set_fits terms k place kind f total count (Some c) p below s =
    if_fits k ((count == total) && (type_number c.kind == type_number kind) && not (is_first_zero kind (sets_of kind f) c)) _ _
    (λ t. with_set_fits terms k kind f c p below s) (λ t. stopped_fits k place)

qualifier_fits : (terms : Terms) (k : ℕ) (place : Place) (f : DescriptorFile) (b : List ℕ) (o : Option Qualifier) → AreBytes b → qualifier_of b ≡ o → 8 ≤ f.device.packet →
    255 * 8198 + strings_cost ≤ k → Fits k (qualifier_leads terms place f o)
qualifier_fits terms k place f b None are e p s = stopped_fits k place
qualifier_fits terms k place f b (Some q) are e p s =
    (let w = qualifier_narrow b q are e in sets_fit terms k kinds.OtherSpeed (with_qualifier q f) p (omega arith))

languages_fit : (k : ℕ) (place : Place) (f : DescriptorFile) (named b : List ℕ) (o : Option (List ℕ)) → units_of b ≡ o → 8 ≤ f.device.packet → length named ≤ 255 →
    126 * 255 * 34 + 3 ≤ k → Fits k (languages_lead place f named o)
languages_fit k place f named b None e p n s = stopped_fits k place
languages_fit k place f named b (Some []) e p n s = stopped_fits k place
languages_fit k place f named b (Some (l ∷ ls)) e p n s =
    (let w = units_written b (l ∷ ls) e in
    let few = few_texts (length (l ∷ ls)) (length named) w.1 n in
    texts_fit k f (record { languages = l ∷ ls; texts = [] }) named p n w.1 (omega arith))

text_fits : (k : ℕ) (place : Place) (f : DescriptorFile) (s : Strings) (named : List ℕ) (o : Option (List ℕ)) → 8 ≤ f.device.packet →
    length s.texts < length s.languages * length named → length named ≤ 255 → length s.languages ≤ 126 →
    (length s.languages * length named - length s.texts) * 34 + 3 ≤ k + 34 → Fits k (text_leads place f s named o)
text_fits k place f s named None p below n l e = stopped_fits k place
text_fits k place f s named (Some u) p below n l e =
    (let size = length-append s.texts (u ∷ []) in texts_fit k f (record s { texts = s.texts ++ u ∷ [] }) named p n l (omega arith))

-- whatever a read brings takes its price at least
pub bytes_fall : (terms : Terms) (place : Place) (b : List ℕ) → IsGood place → AreBytes b → Fits (cost place - price place) (bytes_lead terms place b)
bytes_fall terms First b g w =
    if_fits (cost First - 4) (is_first terms.speed b) (Address b) (stopped First Malformed) (λ t. (at_least_8 terms.speed (get_or b 7 0) (last_of t), omega arith)) (λ t. stopped_fits _ First)
  where
    last_of : is_first terms.speed b ≡ true → packet_fits terms.speed (get_or b 7 0) ≡ true
    last_of t = grind (arith, nat_tests)
bytes_fall terms (Device first) b g w = device_fits terms _ (Device first) first b (device_of b) w refl g (omega arith)
bytes_fall terms (Header kind f) b g w =
    let below = g.1 in
    header_fits (cost (Header kind f) - 4) (Header kind f) kind f (total_in (type_number kind) b)
    (λ t e. total_short (type_number kind) (length b) (get_or b 0 0) (get_or b 1 0) (get_or b 2 0 + 256 * get_or b 3 0) t
    (let low = byte_at b 2 w in let high = byte_at b 3 w in omega arith) e) g.0 g.1 (omega arith)
bytes_fall terms (SecondSpeed f) b g w = qualifier_fits terms (cost (SecondSpeed f) - 4) (SecondSpeed f) f b (qualifier_of b) w refl g (omega arith)
bytes_fall terms (Languages f named) b g w = languages_fit (cost (Languages f named) - 34) (Languages f named) f named b (units_of b) refl g.0 g.1 (omega arith)
bytes_fall terms (Text f s named) b g w =
    (let below = g.1 in text_fits (cost (Text f s named) - 34) (Text f s named) f s named (units_of b) g.0 g.1 g.2 g.3 (omega arith))
bytes_fall terms place b g w = (tt, omega arith)

pub done_falls : (place : Place) → IsGood place → Fits (cost place - price place) (done_leads place)
done_falls (Address first) g = (g, omega arith)
done_falls (Configure f) g = (tt, omega arith)
done_falls place g = (tt, omega arith)

pub refused_falls : (terms : Terms) (place : Place) → IsGood place → Fits (cost place - price place) (refused_leads terms place)
refused_falls terms (SecondSpeed f) g = strings_fit terms (cost (SecondSpeed f) - 4) f g (omega arith)
refused_falls terms place g = (tt, omega arith)

-- and so does a stand-in for strings
stands_in : (place : Place) → is_of_strings place ≡ true → IsGood place → Fits (cost place - price place) (stand_in place)
stands_in (Languages f named) is g =
    let few = few_texts 1 (length named) (lit≤ tt) g.1 in
    texts_fit (cost (Languages f named) - 34) f (record { languages = 0x0409 ∷ []; texts = [] }) named g.0 g.1 (lit≤ tt) (omega arith)
stands_in (Text f s named) is g =
    (let below = g.1 in text_fits (cost (Text f s named) - 34) (Text f s named) f s named (Some []) g.0 g.1 g.2 g.3 (omega arith))
stands_in First is g = absurd (cc)
stands_in (Address first) is g = absurd (cc)
stands_in (Device first) is g = absurd (cc)
stands_in (Header kind f) is g = absurd (cc)
stands_in (Set kind f total) is g = absurd (cc)
stands_in (SecondSpeed f) is g = absurd (cc)
stands_in (Configure f) is g = absurd (cc)
stands_in (Reported f) is g = absurd (cc)
stands_in (Stopped trouble) is g = absurd (cc)

pub spared_falls : (texts : NamedStrings) (place there : Place) → IsGood place → Fits (cost place - price place) there →
    Fits (cost place - price place) (spared texts place there)
spared_falls texts place there g fits =
    if_fits (cost place - price place) (is_spared texts place there) _ _ (λ t. stands_in place (spares_strings texts place there t) g) (λ t. fits)

-- what a read costs, by its plan
abbrev pub Pays : Plan → ℕ → Type 0
Pays (Begin a p q) k = (8 ≤ p) × (q.length / p + 3 ≤ k)
Pays Success k = Unit {0}
Pays (GivesUp why) k = Unit {0}

fewer : (w p k : ℕ) → 8 ≤ p → w / 8 + 3 ≤ k → (8 ≤ p) × (w / p + 3 ≤ k)
fewer w p k h e =
    (let a : (w / p) * 8 ≤ (w / p) * p = mul-le-mul_left (w / p) h in
    let b = div-mul-le_self w p in
    let c : w / p ≤ w / 8 = le-div (w / p) w 8 (lit< tt) (omega arith) in
    (h, omega arith))

pub pays : (address : ℕ) (place : Place) → IsGood place → Pays (asks address place) (price place)
pays address First g = (lit≤ tt, lit≤ tt)
pays address (Address first) g = fewer 0 (slice_index first 7) 3 g (lit≤ tt)
pays address (Device first) g = fewer 18 (slice_index first 7) 5 g (lit≤ tt)
pays address (Header kind f) g = fewer 9 f.device.packet 4 g.0 (lit≤ tt)
pays address (Set kind f total) g = fewer total f.device.packet 8194 g.0 (let e = div_below total 8 8192 (omega arith) g.2 in omega arith)
pays address (SecondSpeed f) g = fewer 10 f.device.packet 4 g (lit≤ tt)
pays address (Languages f named) g = fewer 255 f.device.packet 34 g.0 (lit≤ tt)
pays address (Text f s named) g = fewer 255 f.device.packet 34 g.0 (lit≤ tt)
pays address (Configure f) g = fewer 0 f.device.packet 3 g (lit≤ tt)
pays address (Reported f) g = tt
pays address (Stopped trouble) g = tt

pub priced : (place : Place) → IsGood place → price place ≤ cost place
priced First g = omega arith
priced (Address first) g = omega arith
priced (Device first) g = omega arith
priced (Header kind f) g = (let below = g.1 in omega arith)
priced (Set kind f total) g = omega arith
priced (SecondSpeed f) g = omega arith
priced (Languages f named) g = omega arith
priced (Text f s named) g = (let below = g.1 in omega arith)
priced (Configure f) g = omega arith
priced (Reported f) g = omega arith
priced (Stopped trouble) g = omega arith
