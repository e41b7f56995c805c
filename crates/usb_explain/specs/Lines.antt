-- The forms of lines: headings and fields, each at the depth of its descriptor.
use Rattle.std.specs.Prelude.{ℕ, ◌+◌, ◌*◌, List, [], ◌∷◌, ◌++◌, if◌then◌else◌}
use Rattle.usb_text.specs.Shown.{Shown, End, Indent, Name, Number}
use Rattle.usb_explain.specs.declared.manner.Look.{Look}

-- where a descriptor starts in the input, and how many bytes it has, where places are shown
abbrev pub place_shown : Look → ℕ → ℕ → List Shown
place_shown look at count = if look.places then Number at ∷ Number count ∷ [] else []

-- the line that a descriptor begins with
abbrev pub heading_line : Look → ℕ → List Shown → ℕ → ℕ → List Shown
heading_line look depth shown at count = Indent (2 * depth) ∷ shown ++ place_shown look at count ++ End ∷ []

-- the line of a field of this name
abbrev pub field_line : ℕ → List ℕ → List Shown → List Shown
field_line depth name shown = Indent (2 * depth + 4) ∷ Name name ∷ shown ++ End ∷ []

-- a line below the heading that it speaks of
abbrev pub line_below : ℕ → List Shown → List Shown
line_below depth shown = Indent (2 * depth + 2) ∷ shown ++ End ∷ []
