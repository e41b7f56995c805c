-- What recorded transfers say of a device's packet size.
use Rattle.std.proofs.Common.{◌≡◌, ◌⊎◌, inl, inr, ◌≢◌, ◌<◌, ◌≤◌, ◌%◌, ◌/◌, ◌==◌, ◌&&◌, ◌||◌, nat_lt, ℕ, Bool, true, false, not, if◌then◌else◌, List, [], ◌∷◌, ◌++◌, length, take, refl, sym, ◌∙◌, ap, subst, arith}
use Rattle.std.specs.Prelude.{Option, Some, None, slice_index, slice_index_or, slice_set}
use Rattle.std.specs.List.{AllByRecursion}
use Rattle.std.proofs.lemmas.Bool.Decides.{nat_tests}
use Rattle.std.proofs.lemmas.List.{get_or-replicate, get_or-set_other, get_or-set_same, length-set}
use Rattle.usb_fields.specs.declared.setup.Setup.{Setup}
use Rattle.usb_capture.specs.declared.control_transfer.ControlTransfer.{ControlTransfer}
use Rattle.usb_capture.specs.declared.ending.Ending.{Ending}
use Rattle.usb_capture.specs.declared.ending.Ending.TheVariants as endings
use Rattle.usb_capture.specs.declared.transaction.Transaction.{Transaction}
use Rattle.usb_capture.specs.BusTransfers.{ended_so}
use Rattle.usb_capture.specs.Findings.{is_answered, is_stall, reads_status}
use Rattle.usb_capture.specs.PacketSizes.{gives_address, no_sizes, says_size, size_at, sizes_after, sizes_in, sizes_with}
use Rattle.usb_capture.specs.Readings.{full_length, is_done, is_whole, reads_descriptor}

-- Where a transfer says a size, it is this one.
abbrev pub Says : ℕ → ControlTransfer → Type 0
Says size transfer = says_size transfer ≡ true → slice_index transfer.data 7 ≡ size

-- So it is in these bytes, if they are all of the device descriptor that was asked for so.
abbrev pub TellsSize : ℕ → Setup → List ℕ → Type 0
TellsSize size q bytes = reads_descriptor q ≡ true → (q.value / 256 == 1) ≡ true → is_whole (q.value / 256) bytes ≡ true → slice_index bytes 7 ≡ size

-- and in more than seven of them
abbrev pub TellsLong : ℕ → Setup → List ℕ → Type 0
TellsLong size q bytes = reads_descriptor q ≡ true → (q.value / 256 == 1) ≡ true → 7 < length bytes → slice_index bytes 7 ≡ size

-- The list begins with these.
abbrev pub IsFront : List ℕ → List ℕ → Type 0
IsFront xs all = (rest : List ℕ) × (xs ++ rest ≡ all)

-- Fewer than eight of them are none or all that was asked for, where each packet but the last has eight or more.
abbrev pub IsNoneOrAll : ℕ → (Setup → List ℕ) → Setup → List ℕ → Type 0
IsNoneOrAll size described q bytes = 8 ≤ size → length bytes < 8 → (length bytes ≡ 0) ⊎ (bytes ≡ take q.length (described q))

-- what the bytes that have come of this request's answer say, where a device has these descriptors
pub record Tells (size : ℕ) (described : Setup → List ℕ) (q : Setup) (bytes : List ℕ) : Type 0 where
  pub whole : TellsSize size q bytes
  pub front : reads_descriptor q ≡ true → IsFront bytes (described q)
  pub few : reads_descriptor q ≡ true → IsNoneOrAll size described q bytes

-- the first bytes of an answer to this request
pub record Fronts (size : ℕ) (described : Setup → List ℕ) (q : Setup) (front : List ℕ) : Type 0 where
  pub tells : Tells size described q front
  pub few : length front ≤ q.length
  pub long : TellsLong size q front

-- what is known of a transfer that is open: of its bytes, unless some are cut off, and of its request
pub record Reported (size : ℕ) (described : Setup → List ℕ) (transfer : ControlTransfer) : Type 0 where
  pub tells : (transfer.is_cut ≡ true) ⊎ Tells size described transfer.setup transfer.data
  pub few : transfer.length ≤ transfer.setup.length
  pub asked : reads_status transfer.setup ≡ false

-- and of one that is over
pub record IsSound (size : ℕ) (described : Setup → List ℕ) (transfer : ControlTransfer) : Type 0 where
  pub front : reads_descriptor transfer.setup ≡ true → is_done transfer.ending ≡ true → not transfer.is_cut ≡ true → IsFront transfer.data (described transfer.setup)
  pub short : reads_descriptor transfer.setup ≡ true → is_done transfer.ending ≡ true → not transfer.is_cut ≡ true → IsNoneOrAll size described transfer.setup transfer.data
  pub says : Says size transfer
  pub few : is_answered transfer.ending ≡ true → transfer.length ≤ transfer.setup.length
  pub asked : is_stall transfer.ending ≡ true → reads_status transfer.setup ≡ false

-- This holds of the transfer that is over, if one is.
abbrev pub IfOver : (ControlTransfer → Type 0) → Option ControlTransfer → Type 0
IfOver P None = Unit {0}
IfOver P (Some transfer) = P transfer

record SaysParts (reads done kept whole device : Bool) : Type 0 where
  is_read : reads ≡ true
  is_ended : done ≡ true
  is_kept : kept ≡ true
  has_all : whole ≡ true
  of_device : device ≡ true

says_parts : (reads done kept whole device : Bool) → ((reads && done && kept && whole) && device) ≡ true → SaysParts reads done kept whole device
says_parts true true true true true e = record { is_read = refl; is_ended = refl; is_kept = refl; has_all = refl; of_device = refl }
says_parts reads done kept whole device e = absurd (let w : ⊥ = cc in w)

parts_of : (t : ControlTransfer) → says_size t ≡ true
    → SaysParts (reads_descriptor t.setup) (is_done t.ending) (not t.is_cut) (is_whole (t.setup.value / 256) t.data) (t.setup.value / 256 == 1)
parts_of t e = says_parts (reads_descriptor t.setup) (is_done t.ending) (not t.is_cut) (is_whole (t.setup.value / 256) t.data) (t.setup.value / 256 == 1) e

false_true : {A : Type 0} → false ≡ true → A
false_true e = absurd (let w : ⊥ = cc in w)

-- one whose end wasn't seen
pub unseen_over : (size : ℕ) (described : Setup → List ℕ) (t : ControlTransfer) → t.ending ≡ endings.Unseen → IsSound size described t
unseen_over size described t unseen = record {
  front = λ read done kept. false_true (sym (ap is_done unseen) ∙ done);
  short = λ read done kept. false_true (sym (ap is_done unseen) ∙ done);
  says = λ e. false_true (sym (ap is_done unseen) ∙ (parts_of t e).is_ended);
  few = λ e. false_true (sym (ap is_answered unseen) ∙ e);
  asked = λ e. false_true (sym (ap is_stall unseen) ∙ e);
}

-- and one that was open
pub reported_over : (size : ℕ) (described : Setup → List ℕ) (transaction : Transaction) (ending : Ending) (t : ControlTransfer) → Reported size described t
    → IsSound size described (ended_so transaction ending t)
reported_over size described transaction ending t report =
    record { front = front report.tells; short = short report.tells; says = says report.tells; few = λ e. report.few; asked = λ e. report.asked }
  where
    says : (t.is_cut ≡ true) ⊎ Tells size described t.setup t.data → Says size (ended_so transaction ending t)
    says (inl cut) e = false_true (ap not (sym cut) ∙ (parts_of (ended_so transaction ending t) e).is_kept)
    says (inr tells) e = let parts = parts_of (ended_so transaction ending t) e in tells.whole parts.is_read parts.of_device parts.has_all

    front : (t.is_cut ≡ true) ⊎ Tells size described t.setup t.data → reads_descriptor t.setup ≡ true → is_done ending ≡ true → not t.is_cut ≡ true
        → IsFront t.data (described t.setup)
    front (inl cut) read done kept = false_true (ap not (sym cut) ∙ kept)
    front (inr tells) read done kept = tells.front read

    short : (t.is_cut ≡ true) ⊎ Tells size described t.setup t.data → reads_descriptor t.setup ≡ true → is_done ending ≡ true → not t.is_cut ≡ true
        → IsNoneOrAll size described t.setup t.data
    short (inl cut) read done kept = false_true (ap not (sym cut) ∙ kept)
    short (inr tells) read done kept = tells.few read

pub all_says : (size : ℕ) (described : Setup → List ℕ) (ts : List ControlTransfer) → AllByRecursion (IsSound size described) ts → AllByRecursion (Says size) ts
all_says size described [] each = tt
all_says size described (t ∷ ts) each = (each.0.says, all_says size described ts each.1)

none_whole : (kind : ℕ) → is_whole kind [] ≡ false
none_whole kind = of ((kind == 2) || (kind == 7)) (0 == full_length kind [])
  where
    of : (set all : Bool) → (nat_lt (if set then 3 else 1) 0 && (0 == kind) && all) ≡ false
    of true all = refl
    of false all = refl

-- Without bytes nothing is reported.
pub nothing_tells : (size : ℕ) (described : Setup → List ℕ) (q : Setup) → Tells size described q []
nothing_tells size described q = record {
  whole = λ read device whole. false_true (sym (none_whole (q.value / 256)) ∙ whole);
  front = λ read. (described q, refl);
  few = λ read whole less. inl refl;
}

-- ---- the sizes that are known

abbrev IsOwn : ℕ → ℕ → Type 0
IsOwn size n = (n ≡ 0) ⊎ (n ≡ size)

record AreOwn (size : ℕ) (sizes : List ℕ) : Type 0 where
  room : length sizes ≡ 256
  each : (address : ℕ) → address < 256 → IsOwn size (slice_index_or sizes address 0)

none_own : (size : ℕ) → AreOwn size no_sizes
unfolding no_sizes
none_own size = record { room = refl; each = λ address small. inl (get_or-replicate 256 address 0 0 small) }

set_own : (size : ℕ) (sizes : List ℕ) (at n : ℕ) → at < 256 → IsOwn size n → AreOwn size sizes → AreOwn size (slice_set sizes at n)
set_own size sizes at n small own are = record { room = length-set sizes at n ∙ are.room; each = λ address low. of address low (address == at) refl }
  where
    same : (m k : ℕ) → (m == k) ≡ true → m ≡ k
    same m k e = grind (arith, nat_tests)

    other : (m k : ℕ) → (m == k) ≡ false → m ≢ k
    other m k e = grind (arith, nat_tests)

    of : (address : ℕ) → address < 256 → (here : Bool) → (address == at) ≡ here → IsOwn size (slice_index_or (slice_set sizes at n) address 0)
    of address low true e =
        subst (λ a. IsOwn size (slice_index_or (slice_set sizes at n) a 0)) (sym (same address at e))
        (subst (IsOwn size) (sym (get_or-set_same sizes at n 0 (subst (λ m. at < m) (sym are.room) small))) own)
    of address low false e = subst (IsOwn size) (sym (get_or-set_other sizes at address n 0 (other address at e))) (are.each address low)

with_own : (size : ℕ) (t : ControlTransfer) (sizes : List ℕ) → Says size t → AreOwn size sizes → AreOwn size (sizes_with t sizes)
with_own size t sizes says are = of (says_size t) (gives_address t) refl
  where
    below : (n : ℕ) → n % 256 < 256
    below n = omega arith

    of : (said gives : Bool) → says_size t ≡ said
        → AreOwn size (if said then slice_set sizes (t.device % 256) (slice_index t.data 7) else (if gives then slice_set sizes (t.setup.value % 256) 0 else sizes))
    of true gives e = set_own size sizes (t.device % 256) (slice_index t.data 7) (below t.device) (inr (says e)) are
    of false true e = set_own size sizes (t.setup.value % 256) 0 (below t.setup.value) (inl refl) are
    of false false e = are

after_own : (size : ℕ) (sizes : List ℕ) (ts : List ControlTransfer) → AllByRecursion (Says size) ts → AreOwn size sizes → AreOwn size (sizes_after sizes ts)
after_own size sizes [] says are = are
after_own size sizes (t ∷ ts) says are = after_own size (sizes_with t sizes) ts says.1 (with_own size t sizes says.0 are)

-- Of an address no other size is known.
pub own_size : (size : ℕ) (ts : List ControlTransfer) (address : ℕ) → AllByRecursion (Says size) ts → address < 256
    → (size_at address (sizes_in ts) ≡ 0) ⊎ (size_at address (sizes_in ts) ≡ size)
own_size size ts address says small = of (address == 0)
  where
    of : (none : Bool) → IsOwn size (if none then 0 else slice_index_or (sizes_in ts) address 0)
    of true = inl refl
    of false = (after_own size no_sizes ts says (none_own size)).each address small
