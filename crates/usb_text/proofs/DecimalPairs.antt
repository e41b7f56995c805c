-- What the table of pairs of decimal digits says.
use Rattle.std.proofs.Common.{◌≡◌, ℕ, ◌+◌, ◌*◌, ◌/◌, ◌%◌, ◌<◌, ◌==◌, ◌&&◌, Bool, true, slice_index, refl}
use Rattle.std.proofs.lemmas.Bool.{and_parts, eqb-true}
use Rattle.usb_text.specs.declared.digits.TheConstants.{DECIMALS}
use Rattle.usb_text.proofs.Printables.{all_below, all_below-at}

abbrev table_agrees : ℕ → Bool
table_agrees n = (slice_index DECIMALS (2 * n) == 48 + n / 10) && (slice_index DECIMALS (2 * n + 1) == 48 + n % 10)

all_agree : all_below table_agrees 100 ≡ true
all_agree = refl

agrees : (n : ℕ) → n < 100 → table_agrees n ≡ true
agrees n lt = all_below-at table_agrees 100 n all_agree lt

pub tens_are : (n : ℕ) → n < 100 → slice_index DECIMALS (2 * n) ≡ 48 + n / 10
tens_are n lt = eqb-true _ _ (and_parts (slice_index DECIMALS (2 * n) == 48 + n / 10) (slice_index DECIMALS (2 * n + 1) == 48 + n % 10) (agrees n lt)).0

pub ones_are : (n : ℕ) → n < 100 → slice_index DECIMALS (2 * n + 1) ≡ 48 + n % 10
ones_are n lt = eqb-true _ _ (and_parts (slice_index DECIMALS (2 * n) == 48 + n / 10) (slice_index DECIMALS (2 * n + 1) == 48 + n % 10) (agrees n lt)).1
