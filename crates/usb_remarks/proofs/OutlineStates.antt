-- Where one stands at the start, and where one looks ahead.
use Rattle.std.proofs.Common.{◌≡◌, ℕ, List, Option, arith, refl}
use Rattle.usb_walk.specs.declared.role.Role.{Role}
use Rattle.usb_walk.specs.declared.role.Role.TheVariants.{Device, Qualifier, Configuration, Association, Interface, Endpoint, Raw, Languages, Text}
use Rattle.usb_remarks.specs.declared.speed.SetSpeed.{SetSpeed}
use Rattle.usb_remarks.specs.declared.outline_state.OutlineState.{OutlineState}
use Rattle.usb_remarks.specs.SetStart.{entered, looked, surveyed}
use Rattle.usb_remarks.specs.OutlineStates.{AreCounted, start}
use Rattle.usb_walk.proofs.Positions.{counted_at, same_at}

-- the first place is 0
pub start_at : start.position.at ≡ 0
unfolding start
start_at = refl

pub start_number : start.descriptors ≡ 0
unfolding start
start_number = refl

-- looking ahead doesn't move
pub looked_position : (role : Role) (running : Option SetSpeed) (ahead : List ℕ) (s : OutlineState) → (looked role running ahead s).position ≡ s.position
unfolding surveyed
looked_position Device running ahead s = refl
looked_position Qualifier running ahead s = refl
looked_position Configuration running ahead s = refl
looked_position Association running ahead s = refl
looked_position Interface running ahead s = refl
looked_position Endpoint running ahead s = refl
looked_position Raw running ahead s = refl
looked_position Languages running ahead s = refl
looked_position Text running ahead s = refl

pub looked_number : (role : Role) (running : Option SetSpeed) (ahead : List ℕ) (s : OutlineState) → (looked role running ahead s).descriptors ≡ s.descriptors
unfolding surveyed
looked_number Device running ahead s = refl
looked_number Qualifier running ahead s = refl
looked_number Configuration running ahead s = refl
looked_number Association running ahead s = refl
looked_number Interface running ahead s = refl
looked_number Endpoint running ahead s = refl
looked_number Raw running ahead s = refl
looked_number Languages running ahead s = refl
looked_number Text running ahead s = refl

-- entering keeps the counts
pub counted_entered : (role : Role) (running : Option SetSpeed) (ahead : List ℕ) (s : OutlineState) → AreCounted s → AreCounted (entered role running ahead s)
counted_entered role running ahead s counted = record {
  in_position = counted_at role ahead s.position counted.in_position;
  descriptors = omega (arith, counted.descriptors, looked_number role running ahead s, same_at role ahead s.position);
}
