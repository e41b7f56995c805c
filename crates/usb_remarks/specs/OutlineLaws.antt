-- What holds of the outline of an input: each byte is in one descriptor, and of an input no bytes are left. Each finding stands
-- at its descriptor, with its cause, and the descriptors are those of the input's tree, each with its owner.
use Rattle.std.specs.Prelude.{◌≡◌, ◌<◌, ◌≤◌, ℕ, ◌+◌, List, [], ◌∷◌, ◌++◌, length, map, take, drop, flat_map, slice_index, Option}
use Rattle.std.specs.List.{AllByRecursion}
use Rattle.usb_fields.specs.Bytes.{AreBytes}
use Rattle.usb_file_data.specs.declared.file.Input.{Input}
use Rattle.usb_file_data.specs.declared.fault.InputFault.{InputFault}
use Rattle.usb_file_data.specs.Inputs.{InputRefused, IsInput}
use Rattle.usb_file_data.specs.Findings.{found_in_order, input_findings}
use Rattle.usb_file_data.specs.declared.cause.Found.{Found}
use Rattle.usb_remarks.specs.declared.speed.SetSpeed.{SetSpeed}
use Rattle.usb_remarks.specs.FaultPlaces.{place_of_fault}
use Rattle.usb_remarks.specs.Findings.{IsAtPlace}
use Rattle.usb_remarks.specs.Outline.{Described, Entry, bytes_of, end_of, entries, findings_of, outline}
use Rattle.usb_remarks.specs.Uncovered.{most_uncovered}
use Rattle.usb_walk.specs.Trees.{TreeDescriptor, tree_descriptor, tree_descriptors}

-- a place and a length
pub record Span : Type 0 where
  pub start : ℕ
  pub count : ℕ

-- the place and the length of a descriptor
abbrev pub span_of : Described → Span
span_of d = record { start = d.at; count = length d.bytes }

-- spans from a place to another one: the first begins at the one, each begins where the one before ends, and the last ends
-- at the other; none is empty
abbrev pub Follow : ℕ → List Span → ℕ → Type 0
Follow from [] to = from ≡ to
Follow from (x ∷ xs) to = (x.start ≡ from) × (0 < x.count) × Follow (from + x.count) xs to

-- these bytes are descriptors one after another, each as long as its first byte says, and then a rest
abbrev pub Cut : List ℕ → List Entry → List ℕ → Type 0
Cut bytes [] rest = bytes ≡ rest
Cut bytes (d ∷ ds) rest = (bytes ≡ d.bytes ++ d.after) × (slice_index d.bytes 0 ≡ length d.bytes) × Cut d.after ds rest

-- Each byte once: the descriptors follow each other from the first byte on, each at its place, and then comes the rest.
pub record EachByteOnce (running : Option SetSpeed) (found : List Found) (b : List ℕ) : Type 0 where
  pub parts : b ≡ bytes_of (outline running found b) ++ drop (end_of running found b) b
  pub cut : Cut b (entries running found b) (drop (end_of running found b) b)
  pub spans : Follow 0 (map span_of (outline running found b)) (end_of running found b)

-- so it is of any bytes, whatever is found in them
abbrev pub AllEachByteOnce : Type 0
AllEachByteOnce = (running : Option SetSpeed) (found : List Found) (b : List ℕ) → EachByteOnce running found b

-- of an input nothing is left
abbrev pub WholeHasNoRest : Type 0
WholeHasNoRest =
    (running : Option SetSpeed) (input : Input) (b : List ℕ) → IsInput input b →
    end_of running (found_in_order input) b ≡ length b

-- of bytes that are no input, the descriptors before the place of the fault come up to it, but for `most_uncovered` bytes at most
abbrev pub BrokenCoversUpToFault : Type 0
BrokenCoversUpToFault =
    (running : Option SetSpeed) (fault : InputFault) (b : List ℕ) → AreBytes b → InputRefused b fault →
    let before = take (place_of_fault fault) b in
    length before ≤ end_of running [] before + most_uncovered fault

-- what stands at a descriptor are findings of its own: each is at its place, and of a rule that such a descriptor can break
abbrev pub HasItsOwnFindings : Entry → Type 0
HasItsOwnFindings d = AllByRecursion (λ f. IsAtPlace d.state.position d.role f.finding f.cause) (findings_of d)

-- what stands at each of these descriptors has its number, which is this one for the first
abbrev pub AreNumbered : ℕ → List Entry → Type 0
AreNumbered n [] = Unit {0}
AreNumbered n (d ∷ ds) = AllByRecursion (λ f. f.descriptor ≡ n) (findings_of d) × AreNumbered (n + 1) ds

-- Each finding once, with the cause by which its rule was judged: what stands at the descriptors is, in its order, all that is
-- found in the input. The findings that are counted are as many as those that are checked.
pub record EachFindingOnce (running : Option SetSpeed) (input : Input) (b : List ℕ) : Type 0 where
  pub reported : flat_map (λ d. d.findings) (outline running (found_in_order input) b) ≡ found_in_order input
  pub own : AllByRecursion HasItsOwnFindings (entries running (found_in_order input) b)
  pub numbered : AreNumbered 0 (entries running (found_in_order input) b)
  pub count : length (found_in_order input) ≡ length (input_findings input)

-- so it is of each input
abbrev pub WholeReportsFindings : Type 0
WholeReportsFindings =
    (running : Option SetSpeed) (input : Input) (b : List ℕ) → IsInput input b → EachFindingOnce running input b

-- a descriptor, by its role, its depth, its owner and its bytes
abbrev pub as_in_tree : Described → TreeDescriptor
as_in_tree d = tree_descriptor d.role d.depth d.owner d.bytes

-- the descriptors of an input are those of its tree, in their order, as deep as there, and with the owners that they have there
abbrev pub WholeShowsTree : Type 0
WholeShowsTree =
    (running : Option SetSpeed) (input : Input) (b : List ℕ) → IsInput input b →
    map as_in_tree (outline running (found_in_order input) b) ≡ tree_descriptors input
