-- Sets that are refused for no reason have a layout.
use Rattle.std.proofs.Common.{◌≡◌, ◌↔◌, ℕ, ◌+◌, ◌<◌, Bool, true, false, ltb, List, [], ◌∷◌, length, Some, None, if◌then◌else◌, refl, sym, ap, arith}
use Rattle.std.proofs.lemmas.Bool.{or_parts}
use Rattle.std.proofs.lemmas.Bool.Decides.{nat_tests}
use Rattle.std.specs.List.{AllByRecursion, flat_map, list_any}
use Rattle.usb_fields.specs.Bytes.{AreBytes}
use Rattle.usb_set.specs.declared.tree.Configuration.{Configuration}
use Rattle.usb_set.specs.declared.fault.EncodeFault.TheVariants.{Tail, RawKind, TooLong}
use Rattle.usb_set.specs.Descriptors.{Descriptor, descriptor_bytes}
use Rattle.usb_set.specs.Layout.{set_bytes, set_descriptors, Layout, is_long, has_long_descriptor, has_typed_raw, refusal_of, set_length, FieldsFit, AllFieldsFit}
use Rattle.usb_set.proofs.Sets.{length-set_bytes, no_refusal, has_length}
use Rattle.usb_fields.proofs.ByteParts.{bytes_append}

descriptor_fits : (d : Descriptor) → FieldsFit d → is_long d ≡ false → AreBytes (descriptor_bytes d)
descriptor_fits d fit short = (grind (arith, nat_tests), fit)

descriptors_fit : (ds : List Descriptor) → AllByRecursion FieldsFit ds → list_any is_long ds ≡ false → AreBytes (flat_map descriptor_bytes ds)
descriptors_fit [] fit short = tt
descriptors_fit (d ∷ ds) fit short =
    let parts = or_parts (is_long d) (list_any is_long ds) short in
    bytes_append (descriptor_bytes d) (flat_map descriptor_bytes ds) (descriptor_fits d fit.0 parts.0) (descriptors_fit ds fit.1 parts.1)

-- the first descriptor fits with any wTotalLength of two bytes
with_total : (c : Configuration) (total : ℕ) → total < 65536 → AllFieldsFit c → AllByRecursion FieldsFit (set_descriptors c total)
with_total c total within fit = ((fit.0.0, (omega arith, (omega arith, fit.0.1.1.1))), fit.1)

-- the set is refused for no reason
record Unrefused (c : Configuration) : Type 0 where
  within_255 : has_long_descriptor c ≡ false
  raws_are_raw : has_typed_raw c ≡ false
  short : ltb 65535 (set_length c) ≡ false

all_false : (a b d : Bool) → (if a then Some Tail else if b then Some RawKind else if d then Some TooLong else None) ≡ None → (a ≡ false) × ((b ≡ false) × (d ≡ false))
all_false true b d e = cc
all_false false true d e = cc
all_false false false true e = cc
all_false false false false e = (refl, (refl, refl))

none_holds : (c : Configuration) → refusal_of c ≡ None → Unrefused c
none_holds c none =
    let tests = all_false (has_long_descriptor c) (has_typed_raw c) (ltb 65535 (set_length c)) none in
    record { within_255 = tests.0; raws_are_raw = tests.1.0; short = tests.1.1 }

at_most : (limit n : ℕ) → ltb limit n ≡ false → n < limit + 1
at_most limit n e = grind (arith, nat_tests)

layout_of_unrefused : (c : Configuration) → AllFieldsFit c → Unrefused c → Layout c (set_bytes c (set_length c))
layout_of_unrefused c fit is =
    let total = set_length c in
    let same : length (set_bytes c total) ≡ total = length-set_bytes c total 0 in
    let within : total < 65536 = at_most 65535 total is.short in
    record {
      bytes = ap (λ n. set_bytes c n) (sym same);
      fits = descriptors_fit (set_descriptors c total) (with_total c total within fit) is.within_255;
      within_255 = is.within_255;
      raws_are_raw = is.raws_are_raw;
      short = omega (arith, same, within);
    }

pub unrefused : (c : Configuration) → AllFieldsFit c → (refusal_of c ≡ None) ↔ ((b : List ℕ) × Layout c b)
unrefused c fit = (
  λ none. (set_bytes c (set_length c), layout_of_unrefused c fit (none_holds c none)),
  λ some. no_refusal c (length some.0) (has_length c some.0 some.1),
)
