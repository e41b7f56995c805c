-- Rows and columns of the strings, and what is kept of a read.
use Rattle.std.proofs.Common.{◌≡◌, ℕ, zero, suc, ◌*◌, ◌/◌, ◌%◌, ◌<◌, refl, sym, arith, subst}
use Rattle.std.specs.Prelude.{List, ◌++◌, false, Ok}
use Rattle.std.proofs.lemmas.Bool.Decides.{nat_tests}
use Rattle.std.proofs.Math.Nat.{mod-lt}
use Rattle.usb_set.specs.declared.decoder.Progress.TheVariants.{More}
use Rattle.usb_set.specs.declared.tree.SetKind.{SetKind}
use Rattle.usb_set.specs.Decoding.{Decoding, Answers}
use Rattle.usb_host.specs.declared.due.Due.{Due}
use Rattle.usb_host.specs.declared.due.Due.TheVariants as dues
use Rattle.usb_host.specs.declared.held.Held.{Held}
use Rattle.usb_host.specs.inside.Places.{Adds, kept_of}

positive : (k rows columns : ℕ) → k < rows * columns → 0 < columns
positive k rows zero below = grind arith
positive k rows (suc columns) below = omega arith

pub row_below : (k rows columns : ℕ) → k < rows * columns → (0 < columns) × (k / columns < rows)
row_below k rows columns below = (let some = positive k rows columns below in (some, grind (arith, nat_tests)))

pub column_below : (k rows columns : ℕ) → k < rows * columns → (0 < columns) × (k % columns < columns)
column_below k rows columns below = (let some = positive k rows columns below in (some, mod-lt k some))

-- what any other read than that of a set keeps are its bytes
pub adds_short : (here : Due) (h : Held) (piece new : List ℕ) → ((kind : SetKind) (total : ℕ) → here ≡ dues.Set kind total → ⊥) → new ≡ h.bytes ++ piece →
    Adds (kept_of here h) piece false (kept_of here (record h { bytes = new }))
adds_short (dues.Set kind total) h piece new other e = absurd (other kind total refl)
adds_short here h piece new other e = (Ok More, e, λ lacks. lacks)

-- what a decoder keeps that goes on, of the read of a set
pub adds_kept : (here : Due) (h : Held) (piece : List ℕ) (new : Decoding) (kind : SetKind) (total : ℕ) → here ≡ dues.Set kind total →
    Answers h.decoder piece (Ok More) new → Adds (kept_of here h) piece false (kept_of here (record h { decoder = new }))
adds_kept here h piece new kind total e answers =
    subst (λ d. Adds (kept_of d h) piece false (kept_of d (record h { decoder = new }))) (sym e) (Ok More, (answers, refl), λ lacks. lacks)
