-- What the table of a source's characters says.
use Rattle.std.proofs.Common.{◌≡◌, ℕ, ◌<◌, ◌==◌, ◌&&◌, ◌||◌, Bool, true, false, not, slice_index, refl}
use Rattle.usb_hex.specs.Hexadecimal.{is_of_source}
use Rattle.usb_hex.specs.declared.hexadecimal.TheConstants.{SOURCES}
use Rattle.usb_text.proofs.Printables.{all_below, all_below-at}

abbrev pub same : Bool → Bool → Bool
same true b = b
same false b = not b

abbrev agrees : ℕ → Bool
agrees c = same (slice_index SOURCES c == 35) (is_of_source c)

all_agree : all_below agrees 256 ≡ true
all_agree = refl

pub are_same : (a b : Bool) → same a b ≡ true → a ≡ b
are_same true true e = refl
are_same true false e = cc
are_same false true e = cc
are_same false false e = refl

pub says : (c : ℕ) → c < 256 → (slice_index SOURCES c == 35) ≡ is_of_source c
says c lt = are_same (slice_index SOURCES c == 35) (is_of_source c) (all_below-at agrees 256 c all_agree lt)
