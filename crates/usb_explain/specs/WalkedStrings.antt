-- The strings of a walk are placed as an explanation shows them.
use Rattle.std.specs.Prelude.{◌≡◌, ℕ, List, map, length, Option, Some, Ok}
use Rattle.std.specs.List.{range_with_len}
use Rattle.usb_file_data.specs.declared.file.Input.{Input}
use Rattle.usb_file_data.specs.Inputs.{IsInput}
use Rattle.usb_walk.specs.declared.string_place.StringPlace.{StringPlace}
use Rattle.usb_walk.specs.WalkedStrings.{IndexedString, in_language, strings_walked}
use Rattle.usb_explain.specs.declared.manner.Manner.{Manner}
use Rattle.usb_explain.specs.Subjects.{place_of, subject_of}

-- the index and the language that a walk gives of a string
abbrev pub walked_place : IndexedString → Option StringPlace
walked_place s = Some (in_language s.language s.index)

-- by their numbers, the strings of a walk over an input have the indices and the languages that its explanation shows
abbrev pub WalkIsAsExplained : Type 0
WalkIsAsExplained =
    (manner : Manner) (input : Input) (b : List ℕ) → IsInput input b →
    let strings = strings_walked b in
    map walked_place strings ≡ map (place_of (subject_of manner (Ok input))) (range_with_len 0 (length strings))
