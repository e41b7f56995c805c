-- How many endpoints a set of low speed has: two at most beside endpoint zero (USB 2.0, 5.3.1.2).
use Rattle.std.specs.Prelude.{ℕ, List, [], ◌∷◌, slice_index, Bool, not, ◌==◌, ◌&&◌, Option, Some, None, is_some, option_and_then, if◌then◌else◌}
use Rattle.usb_set.specs.Descriptors.{number_of}
use Rattle.usb_remarks.specs.declared.remark.Remark.{Remark}
use Rattle.usb_remarks.specs.declared.remark.Remark.TheVariants as remarks
use Rattle.usb_remarks.specs.declared.speed.SetSpeed.{SetSpeed}
use Rattle.usb_remarks.specs.declared.speed.SetSpeed.TheVariants.{Low}
use Rattle.usb_remarks.specs.RemarkValues.{remark_if}
use Rattle.usb_walk.specs.Roles.{is_endpoint}
use Rattle.usb_walk.specs.Trees.{descriptors}

-- an endpoint that isn't endpoint zero and has neither of these addresses
abbrev pub is_another : ℕ → ℕ → List ℕ → Bool
is_another one other d =
    let address = slice_index d 2 in
    is_endpoint d && (not (number_of address == 0) && (not (address == one) && not (address == other)))

-- the address of the first such endpoint
unfoldable pub another : ℕ → ℕ → List (List ℕ) → Option ℕ
another one other [] = None
another one other (d ∷ ds) = if is_another one other d then Some (slice_index d 2) else another one other ds

-- after one address and another one, a third
abbrev pub third : List (List ℕ) → Option ℕ
third ds = option_and_then (λ one. option_and_then (λ other. another one other ds) (another one one ds)) (another 0 0 ds)

-- a set of low speed, all of which is there, has more than two
abbrev pub endpoints_remark : SetSpeed → Option (List ℕ) → Option Remark
endpoints_remark Low (Some rest) = remark_if (is_some (third (descriptors rest))) remarks.ManyEndpoints
endpoints_remark speed rest = None
