-- The bytes of a whole set.
use Rattle.std.proofs.Common.{◌≡◌, ℕ, ltb, List, length, None, ap, ◌∙◌, length-append, arith}
use Rattle.std.proofs.lemmas.Bool.{le-ltb, cond-false}
use Rattle.usb_set.specs.declared.tree.Configuration.{Configuration}
use Rattle.usb_fields.specs.Bytes.{AreBytes}
use Rattle.usb_set.specs.Layout.{set_bytes, Layout, has_long_descriptor, has_typed_raw, refusal_of, set_length}
use Rattle.usb_set.specs.inside.Trees.{HasLength}

-- wTotalLength takes two bytes, whatever it is
pub length-set_bytes : (c : Configuration) (m n : ℕ) → length (set_bytes c m) ≡ length (set_bytes c n)
length-set_bytes c m n = simp length-append

-- what is written for a set that is refused for no reason is its layout
pub layout_of : (c : Configuration) (b : List ℕ) (total : ℕ) → HasLength c total → b ≡ set_bytes c total → AreBytes b → Layout c b
layout_of c b total h is fits =
    let same : length b ≡ total = omega (arith, ap length is, length-set_bytes c total 0, h.is_length) in
    record { bytes = rw same is; fits = fits; within_255 = h.within_255; raws_are_raw = h.raws_are_raw; short = omega (arith, h.short) }

-- a set that has a length is refused for no reason
pub no_refusal : (c : Configuration) (total : ℕ) → HasLength c total → refusal_of c ≡ None
no_refusal c total h =
    cond-false (has_long_descriptor c) _ _ h.within_255
    ∙ cond-false (has_typed_raw c) _ _ h.raws_are_raw
    ∙ cond-false (ltb 65535 (set_length c)) _ _ (le-ltb 65535 (set_length c) (omega (arith, h.is_length, h.short)))

-- a set with a layout has a length
pub has_length : (c : Configuration) (b : List ℕ) → Layout c b → HasLength c (length b)
has_length c b h = record {
  within_255 = h.within_255;
  raws_are_raw = h.raws_are_raw;
  is_length = ap length h.bytes ∙ length-set_bytes c (length b) 0;
  short = omega (arith, h.short);
}
