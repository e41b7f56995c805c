-- What is written of a descriptor is read, and nothing else is.
use Rattle.std.proofs.Common.{◌≡◌, ℕ, ◌+◌, ◌*◌, ◌/◌, ◌%◌, ◌≤◌, ◌<◌, Bool, true, false, if◌then◌else◌, nat_lt, List, [], ◌∷◌, length, Option, Some, None, refl, ap, sym, ◌∙◌, arith, subst, slice_index, get_or, zero, suc, lit<}
use Rattle.std.specs.Prelude.{IsSome, IsTrue, ◌↔◌}
use Rattle.std.specs.List.{flat_map}
use Rattle.std.proofs.lemmas.Bool.Decides.{nat_tests}
use Rattle.usb_fields.specs.Bytes.{AreBytes, little_endian}
use Rattle.usb_fields.specs.declared.device.DeviceDescriptor.{DeviceDescriptor}
use Rattle.usb_fields.specs.declared.qualifier.Qualifier.{Qualifier}
use Rattle.usb_fields.specs.declared.fault.FieldFault.{FieldFault}
use Rattle.usb_fields.specs.declared.fault.UnitFault.{UnitFault}
use Rattle.usb_fields.specs.Device.{device_bytes, device_fault, field_fault, qualifier_bytes, qualifier_fault, device_of_bytes, qualifier_of_bytes}
use Rattle.usb_fields.specs.declared.fault.UnitFault.TheVariants as units
use Rattle.usb_fields.specs.Units.{units_bytes, unit_fault, ReadUnitsFails}
use Rattle.usb_host.specs.Read.{same_bytes, if_written, pairs, unit_fields, device_of, qualifier_of, units_of}
use Rattle.usb_fields.proofs.UnitLemmas.{unit_fault-units_bytes}
use Rattle.usb_set.proofs.Items.{two_bytes}

pub same_is : (xs ys : List ℕ) → same_bytes xs ys ≡ true → xs ≡ ys
same_is [] [] e = refl
same_is [] (y ∷ ys) e = absurd (cc)
same_is (x ∷ xs) [] e = absurd (cc)
same_is (x ∷ xs) (y ∷ ys) e =
    let head : x ≡ y = grind (arith, nat_tests) in
    let tail : xs ≡ ys = same_is xs ys (grind (arith, nat_tests)) in
    cc

pub same_self : (b : List ℕ) → same_bytes b b ≡ true
same_self [] = refl
same_self (x ∷ b) = (let rest = same_self b in grind (arith, nat_tests))

pub written : {X : Type 0} (write : X → List ℕ) (x y : X) (b : List ℕ) → if_written write x b ≡ Some y → (b ≡ write y) × (x ≡ y)
written write x y b e = by_test (same_bytes (write x) b) refl e
  where
    by_test : (t : Bool) → same_bytes (write x) b ≡ t → (if t then Some x else None) ≡ Some y → (b ≡ write y) × (x ≡ y)
    by_test true t e =
        let is : x ≡ y = cc in
        (sym (same_is (write x) b t) ∙ ap write is, is)
    by_test false t e = absurd (cc)

pub writes : {X : Type 0} (write : X → List ℕ) (x y : X) → x ≡ y → if_written write x (write y) ≡ Some y
writes write x y is =
    let same : same_bytes (write x) (write y) ≡ true = subst (λ z. same_bytes (write z) (write y) ≡ true) (sym is) (same_self (write y)) in
    rw same (ap Some is)

device_back : (d : DeviceDescriptor) → device_of_bytes (device_bytes d) ≡ d
device_back d = rw (two_bytes d.usb, two_bytes d.vendor, two_bytes d.product, two_bytes d.release) refl

qualifier_back : (q : Qualifier) → qualifier_of_bytes (qualifier_bytes q) ≡ q
qualifier_back q = rw (two_bytes q.usb) refl

pairs_back : (u : List ℕ) → pairs (flat_map little_endian u) ≡ u
pairs_back [] = refl
pairs_back (n ∷ u) = rw (two_bytes n, pairs_back u) refl

-- a descriptor is read back
pub device_read : (d : DeviceDescriptor) → device_of (device_bytes d) ≡ Some d
device_read d = writes device_bytes (device_of_bytes (device_bytes d)) d (device_back d)

pub qualifier_read : (q : Qualifier) → qualifier_of (qualifier_bytes q) ≡ Some q
qualifier_read q = writes qualifier_bytes (qualifier_of_bytes (qualifier_bytes q)) q (qualifier_back q)

pub units_read : (u : List ℕ) → length u ≤ 126 → units_of (units_bytes u) ≡ Some u
units_read u few =
    let back : unit_fields (units_bytes u) ≡ u = pairs_back u in
    let short : nat_lt 126 (length u) ≡ false = grind (arith, nat_tests) in
    rw (back, short) (writes units_bytes u u refl)

-- and what was read was written
pub device_written : (b : List ℕ) (d : DeviceDescriptor) → device_of b ≡ Some d → b ≡ device_bytes d
device_written b d e = (written device_bytes (device_of_bytes b) d b e).0

pub qualifier_written : (b : List ℕ) (q : Qualifier) → qualifier_of b ≡ Some q → b ≡ qualifier_bytes q
qualifier_written b q e = (written qualifier_bytes (qualifier_of_bytes b) q b e).0

pub units_written : (b u : List ℕ) → units_of b ≡ Some u → (b ≡ units_bytes u) × (length u ≤ 126)
units_written b u e = by_test (nat_lt 126 (length (unit_fields b))) refl e
  where
    by_test : (t : Bool) → nat_lt 126 (length (unit_fields b)) ≡ t → (if t then None else if_written units_bytes (unit_fields b) b) ≡ Some u →
        (b ≡ units_bytes u) × (length u ≤ 126)
    by_test true t e = absurd (cc)
    by_test false t e =
        let w = written units_bytes (unit_fields b) u b e in
        let size : length (unit_fields b) ≡ length u = ap length w.1 in
        (w.0, grind (arith, nat_tests))

-- ---- bytes

pub byte_at : (b : List ℕ) (i : ℕ) → AreBytes b → get_or b i 0 < 256
byte_at [] i h = lit< tt
byte_at (x ∷ b) zero h = h.0
byte_at (x ∷ b) (suc i) h = byte_at b i h.1

-- what the fields of bytes are
pub device_narrow : (b : List ℕ) (d : DeviceDescriptor) → AreBytes b → device_of b ≡ Some d → (d.configurations < 256) × (d.packet ≡ slice_index b 7)
device_narrow b d fits e =
    let is = device_written b d e in
    let small = byte_at b 17 fits in
    let at : get_or b 17 0 ≡ d.configurations = ap (λ x. get_or x 17 0) is in
    (omega arith, sym (ap (λ x. get_or x 7 0) is))

pub qualifier_narrow : (b : List ℕ) (q : Qualifier) → AreBytes b → qualifier_of b ≡ Some q → q.configurations < 256
qualifier_narrow b q fits e =
    let is = qualifier_written b q e in
    let small = byte_at b 8 fits in
    let at : get_or b 8 0 ≡ q.configurations = ap (λ x. get_or x 8 0) is in
    omega arith

-- ---- what the readers of usb_fields answer

pub device_is : (b : List ℕ) (d : DeviceDescriptor) → b ≡ device_bytes d → device_of b ≡ Some d
device_is b d e = subst (λ x. device_of x ≡ Some d) (sym e) (device_read d)

pub device_long : (b : List ℕ) (d : DeviceDescriptor) → b ≡ device_bytes d → length b ≡ 18
device_long b d e = ap length e

none_faulty : (size kind : ℕ) (b : List ℕ) (fault : FieldFault) → field_fault size kind b ≡ Some fault → length b ≡ size → slice_index b 0 ≡ size → slice_index b 1 ≡ kind → ⊥
none_faulty size kind b fault e long first second = grind (arith, nat_tests)

pub device_not : (b : List ℕ) (fault : FieldFault) → device_fault b ≡ Some fault → device_of b ≡ None
device_not b fault e = by_read (device_of b) refl
  where
    by_read : (o : Option DeviceDescriptor) → device_of b ≡ o → device_of b ≡ None
    by_read None r = r
    by_read (Some d) r =
        let is = device_written b d r in
        absurd (none_faulty 18 1 b fault e (ap length is) (ap (λ x. slice_index x 0) is) (ap (λ x. slice_index x 1) is))

pub qualifier_is : (b : List ℕ) (q : Qualifier) → b ≡ qualifier_bytes q → qualifier_of b ≡ Some q
qualifier_is b q e = subst (λ x. qualifier_of x ≡ Some q) (sym e) (qualifier_read q)

pub qualifier_not : (b : List ℕ) (fault : FieldFault) → qualifier_fault b ≡ Some fault → qualifier_of b ≡ None
qualifier_not b fault e = by_read (qualifier_of b) refl
  where
    by_read : (o : Option Qualifier) → qualifier_of b ≡ o → qualifier_of b ≡ None
    by_read None r = r
    by_read (Some q) r =
        let is = qualifier_written b q r in
        absurd (none_faulty 10 6 b fault e (ap length is) (ap (λ x. slice_index x 0) is) (ap (λ x. slice_index x 1) is))

pub units_are : (b u : List ℕ) → b ≡ units_bytes u → length u ≤ 126 → units_of b ≡ Some u
units_are b u e few = subst (λ x. units_of x ≡ Some u) (sym e) (units_read u few)

pub units_not : (b : List ℕ) (fault : UnitFault) → unit_fault b ≡ Some fault → units_of b ≡ None
units_not b fault e = by_read (units_of b) refl
  where
    by_read : (o : Option (List ℕ)) → units_of b ≡ o → units_of b ≡ None
    by_read None r = r
    by_read (Some u) r =
        let none : unit_fault b ≡ None = subst (λ x. unit_fault x ≡ None) (sym (units_written b u r).0) (unit_fault-units_bytes u) in
        absurd (cc)

pub units_refused : (b : List ℕ) (fault : UnitFault) → ReadUnitsFails b fault → (fault ≡ units.Memory → ⊥) → units_of b ≡ None
units_refused b units.Memory fails not_so = absurd (not_so refl)
units_refused b units.Length fails not_so = units_not b units.Length fails
units_refused b units.Kind fails not_so = units_not b units.Kind fails
units_refused b units.Odd fails not_so = units_not b units.Odd fails
units_refused b units.TooLong fails not_so = units_not b units.TooLong fails

-- ---- bytes without a fault are those of units

pairs_joined : (b : List ℕ) → AreBytes b → length b % 2 ≡ 0 → (flat_map little_endian (pairs b) ≡ b) × (2 * length (pairs b) ≡ length b)
pairs_joined [] fits even = (refl, refl)
pairs_joined (x ∷ []) fits even = absurd (cc)
pairs_joined (low ∷ high ∷ b) fits even =
    let (l, (h, more)) = fits in
    let rest = pairs_joined b more (omega arith) in
    let size = rest.1 in
    let first : (low + 256 * high) % 256 ≡ low = omega arith in
    let second : (low + 256 * high) / 256 ≡ high = omega arith in
    (rw (first, second, rest.0) refl, omega arith)

fault_free : (b : List ℕ) → unit_fault b ≡ None → (2 ≤ length b) × (slice_index b 0 ≡ length b) × (slice_index b 1 ≡ 3) × (slice_index b 0 % 2 ≡ 0)
fault_free b e = grind (arith, nat_tests)

pub units_there : (b : List ℕ) → AreBytes b → ReadUnitsFails b units.Memory → IsSome (units_of b)
units_there [] fits none = (let f = (fault_free [] none).0 in absurd (omega arith))
units_there (x ∷ []) fits none = (let f = (fault_free (x ∷ []) none).0 in absurd (omega arith))
units_there (x ∷ y ∷ b) fits none =
    let (some, long, kind, even) = fault_free (x ∷ y ∷ b) none in
    let (l, (h, more)) = fits in
    let joined = pairs_joined b more (omega arith) in
    let size = joined.1 in
    let first : x ≡ 2 + 2 * length (pairs b) = omega arith in
    let is : x ∷ y ∷ b ≡ units_bytes (pairs b) = rw (first, kind, joined.0) refl in
    let there = units_are (x ∷ y ∷ b) (pairs b) is (omega arith) in
    rw there refl

-- a comparison of slices
pub same_or_not : (xs ys : List ℕ) (t : Bool) → (IsTrue t ↔ (xs ≡ ys)) → t ≡ same_bytes xs ys
same_or_not xs ys true e = (let is : xs ≡ ys = e.0 refl in sym (subst (λ z. same_bytes xs z ≡ true) is (same_self xs)))
same_or_not xs ys false e = by_test (same_bytes xs ys) refl
  where
    by_test : (t : Bool) → same_bytes xs ys ≡ t → false ≡ same_bytes xs ys
    by_test false s = sym s
    by_test true s = (let not_so : IsTrue false = e.1 (same_is xs ys s) in absurd (cc))
