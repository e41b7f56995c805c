-- What the table of pairs of digits says.
use Rattle.std.proofs.Common.{◌≡◌, ℕ, ◌+◌, ◌*◌, ◌/◌, ◌%◌, ◌<◌, ◌==◌, ◌&&◌, Bool, true, slice_index, refl}
use Rattle.std.proofs.lemmas.Bool.{and_parts, eqb-true}
use Rattle.hex.specs.Hex.{lower_digits}
use Rattle.usb_text.specs.declared.digits.TheConstants.{PAIRS}
use Rattle.usb_text.proofs.Printables.{all_below, all_below-at, high_digit, low_digit}

abbrev table_agrees : ℕ → Bool
table_agrees b = (slice_index PAIRS (2 * b) == high_digit b) && (slice_index PAIRS (2 * b + 1) == low_digit b)

all_agree : all_below table_agrees 256 ≡ true
all_agree = refl

agrees : (b : ℕ) → b < 256 → table_agrees b ≡ true
agrees b lt = all_below-at table_agrees 256 b all_agree lt

pub high_is : (b : ℕ) → b < 256 → slice_index PAIRS (2 * b) ≡ slice_index lower_digits (b / 16)
high_is b lt = eqb-true _ _ (and_parts (slice_index PAIRS (2 * b) == high_digit b) (slice_index PAIRS (2 * b + 1) == low_digit b) (agrees b lt)).0

pub low_is : (b : ℕ) → b < 256 → slice_index PAIRS (2 * b + 1) ≡ slice_index lower_digits (b % 16)
low_is b lt = eqb-true _ _ (and_parts (slice_index PAIRS (2 * b) == high_digit b) (slice_index PAIRS (2 * b + 1) == low_digit b) (agrees b lt)).1
