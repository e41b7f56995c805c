-- A host that receives bytes sends requests whose fields have their widths, to addresses of 7 bits.
use Rattle.std.proofs.Common.{◌≡◌, ◌<◌, ◌≤◌, ◌==◌, ◌&&◌, ◌||◌, ◌+◌, ◌*◌, ◌/◌, ◌%◌, ◌++◌, not, nat_lt, ℕ, zero, suc, Bool, true, false, if◌then◌else◌, List, [], ◌∷◌, length, take, get_or, inl, inr, refl, sym, subst, arith, lit<}
use Rattle.std.specs.Prelude.{Option, Some, None, Result, Ok, Err, drop, filter}
use Rattle.std.specs.List.{AllByRecursion, flat_map, list_any, range_with_len}
use Rattle.std.proofs.lemmas.Bool.Decides.{nat_tests}
use Rattle.usb_fields.specs.Bytes.{AreBytes, little_endian, little_endian_at}
use Rattle.usb_fields.specs.declared.device.DeviceDescriptor.{DeviceDescriptor}
use Rattle.usb_fields.specs.declared.packet.Toggle.{Toggle}
use Rattle.usb_fields.specs.declared.packet.Toggle.TheVariants.{Data0, Data1}
use Rattle.usb_fields.specs.declared.qualifier.Qualifier.{Qualifier}
use Rattle.usb_fields.specs.Packets.{DataReply, NakReply, NoReply, Reply, Sent, is_same_toggle}
use Rattle.usb_fields.specs.Units.{units_bytes}
use Rattle.usb_fields.proofs.ByteParts.{bytes_append}
use Rattle.usb_set.specs.declared.decoder.Progress.{Progress}
use Rattle.usb_set.specs.declared.decoder.Progress.TheVariants.{Done, More}
use Rattle.usb_set.specs.declared.fault.SetFault.{SetFault}
use Rattle.usb_set.specs.declared.tree.Configuration.{Configuration}
use Rattle.usb_set.specs.declared.tree.SetKind.{SetKind}
use Rattle.usb_set.specs.declared.tree.SetKind.TheVariants as kinds
use Rattle.usb_set.specs.Decoding.{Answers, Decoding, gathers, has, refused}
use Rattle.usb_set.specs.Descriptors.{type_number}
use Rattle.usb_set.specs.Faults.{Begins}
use Rattle.usb_file_data.specs.declared.file.DescriptorFile.{DescriptorFile}
use Rattle.usb_file_data.specs.declared.file.Other.{Other}
use Rattle.usb_file_data.specs.declared.file.Strings.{Strings}
use Rattle.usb_file_data.specs.File.{named_among, named_indices, string_indices}
use Rattle.usb_file_data.specs.Front.{other_with, with_qualifier, with_set, with_strings}
use Rattle.usb_host.specs.declared.choice.NamedStrings.{NamedStrings}
use Rattle.usb_host.specs.declared.choice.Terms.{Terms}
use Rattle.usb_host.specs.declared.step.Trouble.{Trouble}
use Rattle.usb_host.specs.declared.transfer.TransferStage.{TransferStage}
use Rattle.usb_host.specs.declared.transfer.TransferStage.TheVariants as stages
use Rattle.usb_host.specs.declared.why.Why.TheVariants as whys
use Rattle.usb_host.specs.Cost.{BringsBytes}
use Rattle.usb_host.specs.Keeping as kept
use Rattle.usb_host.specs.Keeping.{Kept, nothing_kept, set_kept}
use Rattle.usb_host.specs.Limits.{LimitView}
use Rattle.usb_host.specs.Order.{after_sets, asks, bytes_lead, declared_sets, device_leads, done_leads, first_value, header_leads, index_due, is_first_zero, is_spared, language_due, languages_lead, other_declared, qualifier_leads, refused_leads, set_leads, sets_due, sets_of, spared, stand_in, strings_due, text_leads, texts_due}
use Rattle.usb_host.specs.Place.{Place, First, Address, Device, Header, Set, Qualifier as SecondSpeed, Languages, Text, Configure, Reported, Stopped}
use Rattle.usb_host.specs.Plan.{Plan, Begin, Success, GivesUp}
use Rattle.usb_host.specs.Read.{device_of, get_descriptor, is_first, may_have_second, qualifier_of, same_bytes, set_address, set_configuration, total_in, total_said, units_of}
use Rattle.usb_host.specs.Steps.{Ended, HostPhase, HostView, KeepsReceived, Reading, ResetDue, Takes, TakesIn, TakesReceived, WantsSent, blames_bus, completed_leads, enter, entered, goes_on, read_leads, reset, reset_in, sends, settled, terms_of, wanted}
use Rattle.usb_host.specs.Terms.{is_asked}
use Rattle.usb_host.specs.Transfer.{Brings, Completes, Fails, Goes, HeardView, Taken, TransferView, addressed, delayed, failed, struck, taken, taken_at, taken_data, taken_status, token_due, kept_packet}
use Rattle.usb_host.proofs.LowerLemmas.{HasBytesOf, receives_bytes}
use Rattle.usb_host.proofs.ReadLemmas.{byte_at, device_narrow, qualifier_narrow, units_written}
use Rattle.usb_recorded_runs.proofs.ByteLemmas.{IsHostRequest, IsHostToken}

-- ---- numbers of two bytes

abbrev AreWords : List ℕ → Type 0
AreWords units = AllByRecursion (λ n. n < 65536) units

word_at : (units : List ℕ) (i : ℕ) → AreWords units → get_or units i 0 < 65536
word_at [] i are = lit< tt
word_at (n ∷ units) zero are = are.0
word_at (n ∷ units) (suc i) are = word_at units i are.1

written_words : (units : List ℕ) → AreBytes (flat_map little_endian units) → AreWords units
written_words [] are = tt
written_words (n ∷ units) are = (let high : n / 256 < 256 = are.1.0 in omega (arith, high), written_words units are.1.1)

units_are : (b units : List ℕ) → AreBytes b → units_of b ≡ Some units → AreWords units
units_are b units are e = let all : AreBytes (units_bytes units) = subst AreBytes (units_written b units e).0 are in written_words units all.1.1

-- ---- the indices of strings

range_small : (first count : ℕ) → first + count ≤ 256 → AreBytes (range_with_len first count)
range_small first zero few = tt
range_small first (suc count) few = (
  omega (arith, few),
  let next : suc first ≡ first + 1 = omega arith in
      subst (λ n. AreBytes (range_with_len n count)) next (range_small (suc first) count (omega (arith, few))),
)

filtered : (test : ℕ → Bool) (xs : List ℕ) → AreBytes xs → AreBytes (filter test xs)
filtered test [] are = tt
filtered test (x ∷ xs) are = of (test x) (filtered test xs are.1)
  where
    of : (c : Bool) → AreBytes (filter test xs) → AreBytes (if c then x ∷ filter test xs else filter test xs)
    of true later = (are.0, later)
    of false later = later

among_small : (indices : List ℕ) → AreBytes (named_among indices)
unfolding named_among
among_small indices = filtered (λ n. list_any (λ index. index == n) indices) (range_with_len 1 255) (range_small 1 255 (omega arith))

named_small : (f : DescriptorFile) → AreBytes (named_indices f)
named_small f = among_small (string_indices f)

-- ---- what was read

-- the numbers of a file that a host asks by
record HasWidths (f : DescriptorFile) : Type 0 where
  sets : f.device.configurations < 256
  others : other_declared f.other < 256
  value : first_value f.sets < 256

declared_small : (kind : SetKind) (f : DescriptorFile) → HasWidths f → declared_sets kind f < 256
declared_small kinds.Configuration f widths = widths.sets
declared_small kinds.OtherSpeed f widths = widths.others

abbrev IsNarrow : Place → Type 0
IsNarrow (Header kind f) = HasWidths f × (length (sets_of kind f) < 256)
IsNarrow (Set kind f total) = HasWidths f × (length (sets_of kind f) < 256) × (total < 65536)
IsNarrow (SecondSpeed f) = HasWidths f
IsNarrow (Languages f named) = HasWidths f × AreBytes named
IsNarrow (Text f s named) = HasWidths f × AreBytes named × AreWords s.languages
IsNarrow (Configure f) = HasWidths f
IsNarrow place = Unit {0}

either_narrow : (c : Bool) (x y : Place) → (c ≡ true → IsNarrow x) → IsNarrow y → IsNarrow (if c then x else y)
either_narrow true x y p q = p refl
either_narrow false x y p q = q

texts_narrow : (f : DescriptorFile) (s : Strings) (named : List ℕ) → HasWidths f → AreBytes named → AreWords s.languages → IsNarrow (texts_due f s named)
texts_narrow f s named widths are words =
    either_narrow (nat_lt (length s.texts) (length s.languages * length named)) (Text f s named) (Configure (with_strings s f)) (λ c. (widths, are, words))
    (record { sets = widths.sets; others = widths.others; value = widths.value })

strings_narrow : (terms : Terms) (f : DescriptorFile) → HasWidths f → IsNarrow (strings_due terms f)
strings_narrow terms f widths =
    either_narrow (not (is_asked terms.choice.strings) || (length (named_indices f) == 0)) (Configure f) (Languages f (named_indices f))
    (λ c. widths) (widths, named_small f)

after_narrow : (terms : Terms) (kind : SetKind) (f : DescriptorFile) → HasWidths f → IsNarrow (after_sets terms kind f)
after_narrow terms kinds.Configuration f widths =
    either_narrow (terms.choice.other_speed && may_have_second terms.speed f.device) (SecondSpeed f) (strings_due terms f)
    (λ c. widths) (strings_narrow terms f widths)
after_narrow terms kinds.OtherSpeed f widths = strings_narrow terms f widths

few_sets : (count declared : ℕ) → declared < 256 → nat_lt count declared ≡ true → count < 256
few_sets count declared small e = grind (arith, nat_tests)

sets_narrow : (terms : Terms) (kind : SetKind) (f : DescriptorFile) → HasWidths f → IsNarrow (sets_due terms kind f)
sets_narrow terms kind f widths =
    either_narrow (nat_lt (length (sets_of kind f)) (declared_sets kind f)) (Header kind f) (after_sets terms kind f)
    (λ c. (widths, few_sets (length (sets_of kind f)) (declared_sets kind f) (declared_small kind f widths) c)) (after_narrow terms kind f widths)

device_narrow_at : (terms : Terms) (first b : List ℕ) (o : Option DeviceDescriptor) → AreBytes b → device_of b ≡ o
    → IsNarrow (device_leads terms (Device first) first b o)
device_narrow_at terms first b None are e = tt
device_narrow_at terms first b (Some d) are e =
    either_narrow (same_bytes (take 8 b) first && not (d.configurations == 0)) (sets_due terms kinds.Configuration read) _
    (λ c. sets_narrow terms kinds.Configuration read (record { sets = (device_narrow b d are e).0; others = lit< tt; value = lit< tt })) tt
  where
    read : DescriptorFile
    read = record { device = d; sets = []; other = None; strings = None }

total_small : (kind count long_said kind_said total t : ℕ) → total < 65536 → total_said kind count long_said kind_said total ≡ Some t → t < 65536
total_small kind count long_said kind_said total t small e = grind (arith, nat_tests)

word_small : (b : List ℕ) (at : ℕ) → AreBytes b → little_endian_at b at < 65536
word_small b at are = let low = byte_at b at are in let high = byte_at b (at + 1) are in omega (arith, low, high)

header_narrow : (kind : SetKind) (f : DescriptorFile) (b : List ℕ) (o : Option ℕ) → HasWidths f × (length (sets_of kind f) < 256) → AreBytes b
    → total_in (type_number kind) b ≡ o → IsNarrow (header_leads (Header kind f) kind f o)
header_narrow kind f b None widths are e = tt
header_narrow kind f b (Some total) widths are e =
    (widths.0, widths.1, total_small (type_number kind) (length b) (get_or b 0 0) (get_or b 1 0) (little_endian_at b 2) total (word_small b 2 are) e)

other_same : (c : Configuration) (o : Option Other) → other_declared (other_with c o) ≡ other_declared o
other_same c None = refl
other_same c (Some o) = refl

first_small : (sets : List Configuration) (c : Configuration) → first_value sets < 256 → c.value < 256 → first_value (sets ++ c ∷ []) < 256
first_small [] c small one = one
first_small (d ∷ sets) c small one = small

with_set_has : (kind : SetKind) (c : Configuration) (f : DescriptorFile) → HasWidths f → c.value < 256 → HasWidths (with_set kind c f)
with_set_has kinds.Configuration c f widths one = record { sets = widths.sets; others = widths.others; value = first_small f.sets c widths.value one }
with_set_has kinds.OtherSpeed c f widths one =
    record { sets = widths.sets; others = subst (λ n. n < 256) (sym (other_same c f.other)) widths.others; value = widths.value }

set_narrow : (terms : Terms) (kind : SetKind) (f : DescriptorFile) (total count : ℕ) (o : Option Configuration) → HasWidths f
    → ((c : Configuration) → o ≡ Some c → c.value < 256) → IsNarrow (set_leads terms (Set kind f total) kind f total count o)
set_narrow terms kind f total count None widths each = tt
set_narrow terms kind f total count (Some c) widths each =
    either_narrow ((count == total) && (type_number c.kind == type_number kind) && not (is_first_zero kind (sets_of kind f) c))
    (sets_due terms kind (with_set kind c f)) _
    (λ t. sets_narrow terms kind (with_set kind c f) (with_set_has kind c f widths (each c refl))) tt

qualifier_narrow_at : (terms : Terms) (f : DescriptorFile) (b : List ℕ) (o : Option Qualifier) → HasWidths f → AreBytes b → qualifier_of b ≡ o
    → IsNarrow (qualifier_leads terms (SecondSpeed f) f o)
qualifier_narrow_at terms f b None widths are e = tt
qualifier_narrow_at terms f b (Some q) widths are e =
    sets_narrow terms kinds.OtherSpeed (with_qualifier q f) (record { sets = widths.sets; others = qualifier_narrow b q are e; value = widths.value })

languages_narrow : (f : DescriptorFile) (named b : List ℕ) (o : Option (List ℕ)) → HasWidths f → AreBytes named → AreBytes b → units_of b ≡ o
    → IsNarrow (languages_lead (Languages f named) f named o)
languages_narrow f named b None widths small are e = tt
languages_narrow f named b (Some []) widths small are e = tt
languages_narrow f named b (Some (l ∷ ls)) widths small are e =
    texts_narrow f (record { languages = l ∷ ls; texts = [] }) named widths small (units_are b (l ∷ ls) are e)

text_narrow : (f : DescriptorFile) (s : Strings) (named : List ℕ) (o : Option (List ℕ)) → HasWidths f → AreBytes named → AreWords s.languages
    → IsNarrow (text_leads (Text f s named) f s named o)
text_narrow f s named None widths small words = tt
text_narrow f s named (Some u) widths small words = texts_narrow f (record s { texts = s.texts ++ u ∷ [] }) named widths small words

bytes_narrow : (terms : Terms) (place : Place) (b : List ℕ) → IsNarrow place → AreBytes b → IsNarrow (bytes_lead terms place b)
bytes_narrow terms First b is are = either_narrow (is_first terms.speed b) (Address b) _ (λ c. tt) tt
bytes_narrow terms (Device first) b is are = device_narrow_at terms first b (device_of b) are refl
bytes_narrow terms (Header kind f) b is are = header_narrow kind f b (total_in (type_number kind) b) is are refl
bytes_narrow terms (SecondSpeed f) b is are = qualifier_narrow_at terms f b (qualifier_of b) is are refl
bytes_narrow terms (Languages f named) b is are = languages_narrow f named b (units_of b) is.0 is.1 are refl
bytes_narrow terms (Text f s named) b is are = text_narrow f s named (units_of b) is.0 is.1 is.2
bytes_narrow terms place b is are = tt

-- ---- what is kept of a read

abbrev KeepsBytes : Kept → Type 0
KeepsBytes (kept.Bytes bytes) = AreBytes bytes
KeepsBytes (kept.Set (gathers s) over) = Unit {0}
KeepsBytes (kept.Set (has c) over) = c.value < 256
KeepsBytes (kept.Set (refused fault) over) = Unit {0}

nothing_keeps : (place : Place) → KeepsBytes (nothing_kept place)
nothing_keeps (Set kind f total) = tt
nothing_keeps place = tt

-- bConfigurationValue of a set that was read from bytes
value_small : (b : List ℕ) (c : Configuration) (n : ℕ) → Begins b c n → c.value < 256
value_small b c n begins = (subst AreBytes begins.layout.bytes begins.layout.fits).1.1.1.1.1.0

set_keeps : (d e : Decoding) (over now : Bool) (piece : List ℕ) (result : Result Progress SetFault) → KeepsBytes (kept.Set d over)
    → Answers d piece result e → KeepsBytes (kept.Set e now)
set_keeps (gathers s) e over now piece (Ok More) keeps answers = subst (λ d. KeepsBytes (kept.Set d now)) (sym answers.1) tt
set_keeps (gathers s) e over now piece (Ok (Done used)) keeps (c, begins, within, is) =
    subst (λ d. KeepsBytes (kept.Set d now)) (sym is) (value_small (s ++ piece) c (length s + used) begins)
set_keeps (gathers s) e over now piece (Err fault) keeps answers = subst (λ d. KeepsBytes (kept.Set d now)) (sym answers.0) tt
set_keeps (has c) e over now piece result keeps answers = subst (λ d. KeepsBytes (kept.Set d now)) (sym answers.1) keeps
set_keeps (refused fault) e over now piece result keeps answers = subst (λ d. KeepsBytes (kept.Set d now)) (sym answers.1) tt

received_keeps : (old new : Kept) (received : HeardView) (result : Result Progress SetFault) → KeepsBytes old → HasBytesOf received
    → KeepsReceived old received result new → KeepsBytes new
received_keeps old new Goes result keeps are same = subst KeepsBytes (sym same) keeps
received_keeps old new Completes result keeps are same = subst KeepsBytes (sym same) keeps
received_keeps old new (Fails why) result keeps are same = subst KeepsBytes (sym same) keeps
received_keeps (kept.Bytes b) (kept.Bytes new) (Brings piece) result keeps are same = subst AreBytes (sym same) (bytes_append b piece keeps are)
received_keeps (kept.Bytes b) (kept.Set e now) (Brings piece) result keeps are same = absurd same
received_keeps (kept.Set d over) (kept.Bytes new) (Brings piece) result keeps are same = absurd same
received_keeps (kept.Set d over) (kept.Set e now) (Brings piece) result keeps are same = set_keeps d e over now piece result keeps same.0

kept_value : (d : Decoding) (over : Bool) (c : Configuration) → KeepsBytes (kept.Set d over) → set_kept d over ≡ Some c → c.value < 256
kept_value (gathers s) over c keeps e = absurd (let w : ⊥ = cc in w)
kept_value (refused fault) over c keeps e = absurd (let w : ⊥ = cc in w)
kept_value (has d) true c keeps e = absurd (let w : ⊥ = cc in w)
kept_value (has d) false c keeps e = let same : d ≡ c = cc in subst (λ s. s.value < 256) same keeps

-- ---- where a read leads to

read_narrow : (terms : Terms) (place : Place) (count : ℕ) (k : Kept) → IsNarrow place → KeepsBytes k → IsNarrow (read_leads terms place count k)
read_narrow terms place count (kept.Bytes b) is keeps = bytes_narrow terms place b is keeps
read_narrow terms (Set kind f total) count (kept.Set d over) is keeps =
    set_narrow terms kind f total count (set_kept d over) is.0 (λ c e. kept_value d over c keeps e)
read_narrow terms place count (kept.Set d over) is keeps = tt

done_narrow : (place : Place) → IsNarrow (done_leads place)
done_narrow (Address first) = tt
done_narrow (Configure f) = tt
done_narrow place = tt

stand_narrow : (place : Place) → IsNarrow place → IsNarrow (stand_in place)
stand_narrow (Languages f named) is = texts_narrow f (record { languages = 0x0409 ∷ []; texts = [] }) named is.0 is.1 (lit< tt, tt)
stand_narrow (Text f s named) is = texts_narrow f (record s { texts = s.texts ++ [] ∷ [] }) named is.0 is.1 is.2
stand_narrow place is = is

spared_narrow : (texts : NamedStrings) (here there : Place) → IsNarrow here → IsNarrow there → IsNarrow (spared texts here there)
spared_narrow texts here there is next = either_narrow (is_spared texts here there) (stand_in here) there (λ c. stand_narrow here is) next

completed_narrow : (terms : Terms) (place : Place) (t : TransferView) (k : Kept) → IsNarrow place → KeepsBytes k
    → IsNarrow (spared terms.choice.strings place (completed_leads terms place t k))
completed_narrow terms place t k is keeps =
    spared_narrow terms.choice.strings place (completed_leads terms place t k) is
    (either_narrow (t.request.length == 0) (done_leads place) (read_leads terms place t.kept k)
    (λ c. done_narrow place) (read_narrow terms place t.kept k is keeps))

refused_narrow : (terms : Terms) (place : Place) → IsNarrow place → IsNarrow (refused_leads terms place)
refused_narrow terms (SecondSpeed f) is = strings_narrow terms f is
refused_narrow terms place is = tt

-- ---- requests

descriptor_fits : (kind index language size : ℕ) → kind < 256 → index < 256 → language < 65536 → size < 65536
    → IsHostRequest (get_descriptor kind index language size)
descriptor_fits kind index language size k i l s = record {
  bytes = (
    lit< tt,
    (lit< tt, (omega arith, (omega (arith, k, i), (omega arith, (omega (arith, l), (omega arith, (omega (arith, s), tt))))))),
  );
  asks = inl (refl, refl);
}

address_fits : (address : ℕ) → address < 128 → IsHostRequest (set_address address)
address_fits address small = record {
  bytes = (lit< tt, (lit< tt, (omega arith, (omega (arith, small), (lit< tt, (lit< tt, (lit< tt, (lit< tt, tt))))))));
  asks = inr refl;
}

value_fits : (value : ℕ) → value < 256 → IsHostRequest (set_configuration value)
value_fits value small = record {
  bytes = (lit< tt, (lit< tt, (omega arith, (omega (arith, small), (lit< tt, (lit< tt, (lit< tt, (lit< tt, tt))))))));
  asks = inr refl;
}

kind_small : (kind : SetKind) → type_number kind < 256
kind_small kinds.Configuration = lit< tt
kind_small kinds.OtherSpeed = lit< tt

-- an address and a request that are sent
abbrev IsHostTransfer : TransferView → Type 0
IsHostTransfer t = (t.address < 128) × IsHostRequest t.request

abbrev IsHostPlan : Plan → Type 0
IsHostPlan (Begin address packet q) = (address < 128) × IsHostRequest q
IsHostPlan Success = Unit {0}
IsHostPlan (GivesUp why) = Unit {0}

asks_fits : (address : ℕ) (place : Place) → address < 128 → IsNarrow place → IsHostPlan (asks address place)
asks_fits address First low is = (lit< tt, descriptor_fits 1 0 0 8 (lit< tt) (lit< tt) (lit< tt) (lit< tt))
asks_fits address (Address first) low is = (lit< tt, address_fits address low)
asks_fits address (Device first) low is = (low, descriptor_fits 1 0 0 18 (lit< tt) (lit< tt) (lit< tt) (lit< tt))
asks_fits address (Header kind f) low is = (low, descriptor_fits (type_number kind) (length (sets_of kind f)) 0 9 (kind_small kind) is.1 (lit< tt) (lit< tt))
asks_fits address (Set kind f total) low is = (low, descriptor_fits (type_number kind) (length (sets_of kind f)) 0 total (kind_small kind) is.1 (lit< tt) is.2)
asks_fits address (SecondSpeed f) low is = (low, descriptor_fits 6 0 0 10 (lit< tt) (lit< tt) (lit< tt) (lit< tt))
asks_fits address (Languages f named) low is = (low, descriptor_fits 3 0 0 255 (lit< tt) (lit< tt) (lit< tt) (lit< tt))
asks_fits address (Text f s named) low is = (
  low,
  descriptor_fits 3 (index_due named (length s.texts)) (language_due s.languages named (length s.texts)) 255 (lit< tt)
      (byte_at named (length s.texts % length named) is.1) (word_at s.languages (length s.texts / length named) is.2) (lit< tt),
)
asks_fits address (Configure f) low is = (low, value_fits (first_value f.sets) is.value)
asks_fits address (Reported f) low is = tt
asks_fits address (Stopped trouble) low is = tt

-- ---- a transfer keeps its address and its request

either_fits : (c : Bool) (x y : Taken) → IsHostTransfer x.transfer → IsHostTransfer y.transfer → IsHostTransfer (if c then x else y).transfer
either_fits true x y p q = p
either_fits false x y p q = q

struck_fits : (t : TransferView) → IsHostTransfer t → IsHostTransfer (struck t).transfer
struck_fits t fits = either_fits (nat_lt t.strikes 2) _ (failed t whys.NoAnswer) fits fits

delayed_fits : (t : TransferView) → IsHostTransfer t → IsHostTransfer (delayed t).transfer
delayed_fits t fits = either_fits (nat_lt t.nak_count t.naks) _ (failed t whys.Busy) fits fits

data_fits : (t : TransferView) (toggle : Toggle) (bytes : List ℕ) → IsHostTransfer t → IsHostTransfer (taken_data t toggle bytes).transfer
data_fits t toggle bytes fits =
    either_fits (nat_lt t.packet (length bytes)) (failed t whys.TooLong) _ fits
    (either_fits (is_same_toggle toggle t.awaited) _ (struck t)
    (either_fits (nat_lt t.request.length (t.kept + length bytes)) (failed t whys.TooLong) (kept_packet t bytes) fits fits)
    (struck_fits t fits))

status_fits : (t : TransferView) (toggle : Toggle) (bytes : List ℕ) → IsHostTransfer t → IsHostTransfer (taken_status t toggle bytes).transfer
status_fits t Data0 (byte ∷ bytes) fits = fits
status_fits t Data1 (byte ∷ bytes) fits = fits
status_fits t Data0 [] fits = struck_fits t fits
status_fits t Data1 [] fits = fits

taken_fits : (t : TransferView) (stage : TransferStage) (reply : Reply) → IsHostTransfer t → IsHostTransfer (taken_at t stage reply).transfer
taken_fits t stages.Setup NoReply fits = struck_fits t fits
taken_fits t stages.DataIn NakReply fits = delayed_fits t fits
taken_fits t stages.DataIn (DataReply toggle bytes) fits = data_fits t toggle bytes fits
taken_fits t stages.DataIn NoReply fits = struck_fits t fits
taken_fits t stages.DataOut NakReply fits = delayed_fits t fits
taken_fits t stages.DataOut NoReply fits = struck_fits t fits
taken_fits t stages.StatusOut NakReply fits = delayed_fits t fits
taken_fits t stages.StatusOut NoReply fits = struck_fits t fits
taken_fits t stages.StatusIn NakReply fits = delayed_fits t fits
taken_fits t stages.StatusIn (DataReply toggle bytes) fits = status_fits t toggle bytes fits
taken_fits t stages.StatusIn NoReply fits = struck_fits t fits
taken_fits t stage reply fits = fits

-- ---- a host

record IsReading (place : Place) (t : TransferView) (k : Kept) : Type 0 where
  narrow : IsNarrow place
  keeps : KeepsBytes k
  fits : IsHostTransfer t

abbrev IsHostPhase : HostPhase → Type 0
IsHostPhase ResetDue = Unit {0}
IsHostPhase (Reading place t k) = IsReading place t k
IsHostPhase (Ended place) = Unit {0}

pub record IsNarrowHost (v : HostView) : Type 0 where
  address : v.limits.address < 128
  phase : IsHostPhase v.phase

entered_fits : (naks : ℕ) (place : Place) (plan : Plan) → IsNarrow place → IsHostPlan plan → IsHostPhase (entered naks place plan)
entered_fits naks place (Begin address packet q) is fits = record { narrow = is; keeps = nothing_keeps place; fits = fits }
entered_fits naks place Success is fits = tt
entered_fits naks place (GivesUp why) is fits = tt

enter_fits : (limits : LimitView) (place : Place) → limits.address < 128 → IsNarrow place → IsHostPhase (enter limits place)
enter_fits limits place low is = entered_fits limits.naks place (asks limits.address place) is (asks_fits limits.address place low is)

goes_fits : (limits : LimitView) (terms : Terms) (place : Place) (t : TransferView) (k : Kept) (stage : TransferStage) → limits.address < 128
    → IsReading place t k → IsHostPhase (goes_on limits terms place t k stage)
goes_fits limits terms place t k stages.Completed low is =
    enter_fits limits (spared terms.choice.strings place (completed_leads terms place t k)) low (completed_narrow terms place t k is.narrow is.keeps)
goes_fits limits terms place t k (stages.Failed whys.Stalled) low is =
    enter_fits limits (spared terms.choice.strings place (refused_leads terms place)) low
    (spared_narrow terms.choice.strings place (refused_leads terms place) is.narrow (refused_narrow terms place is.narrow))
goes_fits limits terms place t k (stages.Failed why) low is = tt
goes_fits limits terms place t k stage low is = is

received_fits : (limits : LimitView) (terms : Terms) (place : Place) (t : TransferView) (old : Kept) (reply : Reply) (new : HostPhase)
    (before after : List Trouble) → limits.address < 128 → IsReading place t old → BringsBytes reply → TakesReceived limits terms place old (taken t reply) new before after → IsHostPhase new
received_fits limits terms place t old reply new b a low is bytes (result, k, keeps, inl (lacks, e, same)) = subst IsHostPhase (sym e) tt
received_fits limits terms place t old reply new b a low is bytes (result, k, keeps, inr (lacks, e, adds)) =
    subst IsHostPhase (sym e)
    (goes_fits limits terms place (taken t reply).transfer k (taken t reply).transfer.stage low (record {
      narrow = is.narrow;
      keeps = received_keeps old k (taken t reply).received result is.keeps (receives_bytes t t.stage reply bytes) keeps;
      fits = taken_fits t t.stage reply is.fits;
    }))

either_phase : (c : Bool) (x y : HostPhase) → IsHostPhase x → IsHostPhase y → IsHostPhase (if c then x else y)
either_phase true x y p q = p
either_phase false x y p q = q

settled_fits : (attempts resets : ℕ) (phase : HostPhase) → IsHostPhase phase → IsHostPhase (settled attempts resets phase)
settled_fits attempts resets (Ended (Stopped trouble)) fits =
    either_phase (blames_bus trouble.why && nat_lt resets attempts) ResetDue (Ended (Stopped trouble)) tt tt
settled_fits attempts resets phase fits = fits

takes_in : (v w : HostView) (phase : HostPhase) (reply : Reply) → IsNarrowHost v → IsHostPhase phase → BringsBytes reply
    → TakesIn v phase reply w → IsNarrowHost w
takes_in v w ResetDue reply is fits bytes e = subst IsNarrowHost (sym e) is
takes_in v w (Ended place) reply is fits bytes e = subst IsNarrowHost (sym e) is
takes_in v w (Reading place t k) reply is fits bytes (phase, received, e) =
    subst IsNarrowHost (sym e) (record {
      address = is.address;
      phase = settled_fits v.limits.attempts v.resets phase
          (received_fits v.limits (terms_of v) place t k reply phase v.forgiven w.forgiven is.address fits bytes received);
    })

pub takes_fits : (v w : HostView) (reply : Reply) → IsNarrowHost v → BringsBytes reply → Takes v reply w → IsNarrowHost w
takes_fits v w reply is bytes takes = takes_in v w v.phase reply is is.phase bytes takes

reset_in_fits : (v : HostView) (phase : HostPhase) → IsNarrowHost v → IsNarrowHost (reset_in v phase)
reset_in_fits v ResetDue is = record { address = is.address; phase = enter_fits v.limits First is.address tt }
reset_in_fits v (Reading place t k) is = is
reset_in_fits v (Ended place) is = is

pub reset_fits : (v w : HostView) → IsNarrowHost v → w ≡ reset v → IsNarrowHost w
reset_fits v w is e = subst IsNarrowHost (sym e) (reset_in_fits v v.phase is)

pub new_fits : (v : HostView) → v.limits.address < 128 → v.phase ≡ ResetDue → IsNarrowHost v
new_fits v low due = record { address = low; phase = subst IsHostPhase (sym due) tt }

-- ---- what it sends

abbrev pub IsHostSent : Sent → Type 0
IsHostSent sent = (sent.address < 128) × IsHostToken sent.token

same_fits : (s sent : Sent) → WantsSent s ≡ WantsSent sent → IsHostSent s → IsHostSent sent
same_fits s sent e fits = let same : s ≡ sent = cc in subst IsHostSent same fits

none_due : (n k : ℕ) → AreBytes (take n (drop k []))
none_due zero zero = tt
none_due zero (suc k) = tt
none_due (suc n) zero = tt
none_due (suc n) (suc k) = tt

token_fits : (t : TransferView) (stage : TransferStage) (sent : Sent) → IsHostTransfer t → sends (addressed t.address (token_due t [] stage)) ≡ WantsSent sent
    → IsHostSent sent
token_fits t stages.Setup sent fits e = same_fits _ sent e (fits.0, (t.request, refl, fits.1))
token_fits t stages.DataIn sent fits e = same_fits _ sent e (fits.0, tt)
token_fits t stages.DataOut sent fits e = same_fits _ sent e (fits.0, none_due t.packet t.kept)
token_fits t stages.StatusOut sent fits e = same_fits _ sent e (fits.0, tt)
token_fits t stages.StatusIn sent fits e = same_fits _ sent e (fits.0, tt)
token_fits t stages.Completed sent fits e = absurd (let w : ⊥ = cc in w)
token_fits t (stages.Failed why) sent fits e = absurd (let w : ⊥ = cc in w)

due_in : (phase : HostPhase) (sent : Sent) → IsHostPhase phase → wanted phase ≡ WantsSent sent → IsHostSent sent
due_in ResetDue sent fits e = absurd (let w : ⊥ = cc in w)
due_in (Reading place t k) sent fits e = token_fits t t.stage sent fits.fits e
due_in (Ended place) sent fits e = absurd (let w : ⊥ = cc in w)

pub due_fits : (v : HostView) (sent : Sent) → IsNarrowHost v → wanted v.phase ≡ WantsSent sent → IsHostSent sent
due_fits v sent is e = due_in v.phase sent is.phase e
