-- The descriptors of a walk are those of the outline.
use Rattle.std.specs.Prelude.{◌≡◌, ℕ, List, map, Option}
use Rattle.usb_file_data.specs.declared.cause.Found.{Found}
use Rattle.usb_walk.specs.Numbered.{Numbered}
use Rattle.usb_walk.specs.WalkedDescriptors.{all_as_numbers, nothing, walked}
use Rattle.usb_remarks.specs.declared.speed.SetSpeed.{SetSpeed}
use Rattle.usb_remarks.specs.Outline.{Entry, entries}

-- a descriptor of an outline by its position
abbrev pub by_position : Entry → Numbered
by_position e = record { position = e.state.position; role = e.role; bytes = e.bytes }

-- the walk from the first descriptor on has the descriptors of the outline, whatever is known of the bytes beside: each as the
-- numbers of its position
abbrev pub WalkIsOutline : Type 0
WalkIsOutline =
    (running : Option SetSpeed) (found : List Found) (b : List ℕ) → walked b ≡ all_as_numbers b nothing (map by_position (entries running found b))
