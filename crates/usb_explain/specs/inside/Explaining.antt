-- What is done to a page and a writer while the lines of an explanation are put, and what is kept of it where these are lines.
use Rattle.std.specs.Prelude.{◌≡◌, ◌⊎◌, ℕ, ◌+◌, List, [], ◌∷◌, ◌++◌, flat_map, length, take}
use Rattle.usb_text.specs.Output.{Held}
use Rattle.usb_text.specs.Shown.{Shown, ends, showing_all}
use Rattle.usb_text.specs.Written.{LineBytes, PutsLines, WritesLess, WritesLines, Written, no_lines, written}
use Rattle.usb_text.specs.declared.output.OutFault.{OutFault}
use Rattle.usb_text.specs.declared.output.OutFault.TheVariants as outs
use Rattle.usb_explain.specs.declared.manner.Manner.{Manner}
use Rattle.usb_explain.specs.Descriptors.{lines_of}
use Rattle.usb_explain.specs.Explanations.{descriptors_of, ending, first_line}
use Rattle.usb_remarks.specs.Outline.{Described, bytes_of}
use Rattle.usb_explain.specs.Subjects.{Reading, Subject, subject_of}

-- Any page and writer.

-- what a page and a writer were, and what they are after lines were passed on
abbrev pub Passing : Type 0 → Type 0 → Type 1
Passing P W = P → W → P → W → Type 0

-- the page that a writer failed to take lines from, and what the writer was and is
abbrev pub Breaking : Type 0 → Type 0 → Type 1
Breaking P W = P → W → W → Type 0

-- this is shown on a page, whose lines may be passed on then, and this is done with what is left
pub record ShowsAndThen {S P W : Type 0} (seen : P → S) (showing : Shown → S → S) (passed : Passing P W) (shown : List Shown) (from : P) (old : W) (Later : P → W → Type 0) : Type 0 where
  pub put : P
  pub shows : seen put ≡ showing_all showing shown (seen from)
  pub next : P
  pub mid : W
  pub passes : passed put old next mid
  pub later : Later next mid

-- this is shown on a page, of which a writer failed to take lines then
pub record ShowsInVain {S P W : Type 0} (seen : P → S) (showing : Shown → S → S) (broken : Breaking P W) (shown : List Shown) (from : P) (old new : W) : Type 0 where
  pub put : P
  pub shows : seen put ≡ showing_all showing shown (seen from)
  pub breaks : broken put old new

-- The lines of each of these descriptors are shown, in order and nothing else.
abbrev pub ShowsEach : {S P W : Type 0} → (P → S) → (Shown → S → S) → Passing P W → Subject → List Described → P → W → P → W → Type 0
ShowsEach seen showing passed subject [] from old to new = (to ≡ from) × (new ≡ old)
ShowsEach seen showing passed subject (d ∷ ds) from old to new =
    ShowsAndThen seen showing passed (lines_of subject d) from old (λ next mid. ShowsEach seen showing passed subject ds next mid to new)

-- So they are up to one of them: memory was wanting there, or a writer failed then.
abbrev pub StopsAtOne : {S P W : Type 0} → (P → S) → (Shown → S → S) → Passing P W → Breaking P W → Subject → List Described → P → W → W → OutFault → Type 0
StopsAtOne seen showing passed broken subject [] from old new fault = ⊥
StopsAtOne seen showing passed broken subject (d ∷ ds) from old new fault =
    ((fault ≡ outs.Memory) × (new ≡ old))
    ⊎ (((fault ≡ outs.Write) × ShowsInVain seen showing broken (lines_of subject d) from old new)
    ⊎ ShowsAndThen seen showing passed (lines_of subject d) from old (λ next mid. StopsAtOne seen showing passed broken subject ds next mid new fault))

-- Of these descriptors the first are shown, and then the others are left.
pub record ShowsSoFar {S P W : Type 0} (seen : P → S) (showing : Shown → S → S) (passed : Passing P W) (broken : Breaking P W) (subject : Subject) (ds left : List Described) (from : P) (old : W) (now : P) (mid : W) : Type 0 where
  pub all : (to : P) (new : W) → ShowsEach seen showing passed subject left now mid to new → ShowsEach seen showing passed subject ds from old to new
  pub stops : (new : W) (fault : OutFault) → StopsAtOne seen showing passed broken subject left now mid new fault
      → StopsAtOne seen showing passed broken subject ds from old new fault

-- The explanation of bytes of which this was read is shown: its first line, the lines of their descriptors, and what ends it.
pub record ShowsExplanation {S P W : Type 0} (seen : P → S) (showing : Shown → S → S) (passed : Passing P W) (m : Manner) (read : Reading) (b : List ℕ) (from : P) (old : W) (to : P) (new : W) : Type 0 where
  pub begun : P
  pub begins : seen begun ≡ showing_all showing (first_line (length b)) (seen from)
  pub gone : P
  pub each : ShowsEach seen showing passed (subject_of m read) (descriptors_of m read b) begun old gone new
  pub ended : seen to ≡ showing_all showing (ending m read b (length (bytes_of (descriptors_of m read b)))) (seen gone)

-- so it is up to one of the descriptors
pub record StopsWithin {S P W : Type 0} (seen : P → S) (showing : Shown → S → S) (passed : Passing P W) (broken : Breaking P W) (m : Manner) (read : Reading) (b : List ℕ) (from : P) (old new : W) (fault : OutFault) : Type 0 where
  pub begun : P
  pub begins : seen begun ≡ showing_all showing (first_line (length b)) (seen from)
  pub stops : StopsAtOne seen showing passed broken (subject_of m read) (descriptors_of m read b) begun old new fault

-- or up to its end
pub record StopsBeforeEnd {S P W : Type 0} (seen : P → S) (showing : Shown → S → S) (passed : Passing P W) (m : Manner) (read : Reading) (b : List ℕ) (from : P) (old new : W) : Type 0 where
  pub begun : P
  pub begins : seen begun ≡ showing_all showing (first_line (length b)) (seen from)
  pub gone : P
  pub each : ShowsEach seen showing passed (subject_of m read) (descriptors_of m read b) begun old gone new

-- Putting an explanation stops out of memory before any descriptor or after all of them, or at one of them.
abbrev pub StopsExplanation : {S P W : Type 0} → (P → S) → (Shown → S → S) → Passing P W → Breaking P W → Manner → Reading → List ℕ → P → W → W → OutFault → Type 0
StopsExplanation seen showing passed broken m read b from old new fault =
    ((fault ≡ outs.Memory) × (new ≡ old))
    ⊎ (((fault ≡ outs.Memory) × StopsBeforeEnd seen showing passed m read b from old new)
    ⊎ StopsWithin seen showing passed broken m read b from old new fault)

-- Lines as that page.

-- lines were passed on to the writer, all of them or none
abbrev pub PassesLines : LineBytes → Held → LineBytes → Held → Type 0
PassesLines from old to new = PutsLines old new (written from) (written to) 0 × ((to ≡ from) ⊎ (to ≡ no_lines from.utf8))

-- a writer that failed has not all of them
abbrev pub LosesLines : LineBytes → Held → Held → Type 0
LosesLines from old new = WritesLess from.utf8 (written from).ended old new

-- how many lines descriptors have
abbrev pub line_count : Subject → List Described → ℕ
line_count subject ds = ends (flat_map (lines_of subject) ds)

-- after the lines that there were, the writer gained those of the first `count` descriptors
pub record EndsAfter (subject : Subject) (ds : List Described) (before : Written) (old new : Held) : Type 0 where
  pub count : ℕ
  pub written : WritesLines before.utf8 (before.ended + line_count subject (take count ds)) old new

-- or it gained no line
abbrev pub StopsBetween : Subject → List Described → Written → Held → Held → Type 0
StopsBetween subject ds before old new = WritesLines before.utf8 0 old new ⊎ EndsAfter subject ds before old new

-- the lines of the descriptors that were gone over are put, and the others are left
pub record DoneSoFar (subject : Subject) (ds left : List Described) (old new : Held) (before after : Written) : Type 0 where
  pub done : List Described
  pub parts : ds ≡ done ++ left
  pub puts : PutsLines old new before after (line_count subject done)
  pub between : StopsBetween subject ds before old new
