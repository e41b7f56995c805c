-- On what a task makes of an input.
use Rattle.std.proofs.Common.{◌≡◌, ◌≢◌, ℕ, List, [], ◌∷◌, ◌++◌, Result, Ok, Err, inl, inr, refl, sym, subst}
use Rattle.std.specs.Prelude.{IfErr, IfOk, IsErrAnd}
use Rattle.std.specs.Io.KnownBytes.{Appends}
use Rattle.usb_file_data.specs.declared.file.Input.{Input}
use Rattle.usb_file_data.specs.declared.finding.Finding.{Finding}
use Rattle.usb_file_data.specs.FindingLine.{check_text, finding_lines}
use Rattle.usb_text.specs.Output.{Held}
use Rattle.usb_text.proofs.Pages.{keeps_refl}
use Rattle.usb_tool.specs.Endings.{Extent, Left, Refusal, Refuses, Telling, Writes}
use Rattle.usb_tool.specs.Inputs.{SetOrFileShows}
use Rattle.usb_tool.specs.Works.{Gives, GivesNone, RefusesWork, TellsWork, WorkFails, form_of, lines_or_none, show_task, shows_of, work_extent, work_status, work_text}
use Rattle.usb_tool.specs.inside.Taking.{IsNone, TakesNone}
use Rattle.usb_tool.specs.inside.Telling.{EndsWith, IsCut}
use Rattle.usb_tool.specs.declared.fault.ToolFault.{ToolFault}
use Rattle.usb_tool.specs.declared.fault.ToolFault.TheVariants as faults
use Rattle.usb_tool.specs.declared.source.Source.{Source}
use Rattle.usb_tool.specs.declared.source.Source.TheVariants as sources
use Rattle.usb_tool.specs.declared.task.Task.{Task}
use Rattle.usb_tool.proofs.Reading.{when_err}
use Rattle.usb_tool.proofs.Refusals.{cut_short}

-- with more lines after them there are some, where something is found
pub more_lines_found : (found : List Finding) (more : List ℕ) → found ≢ [] → lines_or_none (finding_lines found ++ more) ≡ check_text found ++ more
more_lines_found [] more some = absurd (some refl)
more_lines_found (f ∷ found) more some = refl

-- what is reported of an input
pub work_reported : (t : Task) (b bytes : List ℕ) (input : Input) → Gives t.source b bytes → form_of t.taken input bytes
    → TellsWork t b (work_text t.work input bytes) (work_status t.work input bytes)
work_reported t b bytes input given taken = record { bytes = bytes; given = given; input = input; taken = taken; made = refl; ended = refl }

given_none : (s : Source) (extent : Extent) (tells : Telling) (refuses : Refusal) (b : List ℕ) (held : Held) (fault : ToolFault) → GivesNone s b fault
    → refuses b held held fault → Refuses extent tells refuses b held held fault
given_none sources.Bytes extent tells refuses b held fault none h = absurd none
given_none sources.Hexadecimal extent tells refuses b held (faults.Hex line column) none h = h
given_none sources.Hexadecimal extent tells refuses b held faults.Memory none h = inl (keeps_refl held)
given_none sources.Hexadecimal extent tells refuses b held faults.Read none h = absurd none
given_none sources.Hexadecimal extent tells refuses b held faults.Write none h = absurd none
given_none sources.Hexadecimal extent tells refuses b held faults.TooLarge none h = absurd none
given_none sources.Hexadecimal extent tells refuses b held (faults.File fault) none h = absurd none
given_none sources.Hexadecimal extent tells refuses b held (faults.List fault) none h = absurd none
given_none sources.Hexadecimal extent tells refuses b held (faults.Set fault) none h = absurd none
given_none sources.Hexadecimal extent tells refuses b held (faults.Trailing at) none h = absurd none
given_none sources.Hexadecimal extent tells refuses b held (faults.Capture why at) none h = absurd none
given_none sources.Hexadecimal extent tells refuses b held (faults.Lack device lack) none h = absurd none

-- an input that gives no bytes
pub not_given : (t : Task) (b : List ℕ) (held : Held) (fault : ToolFault) → GivesNone t.source b fault
    → Refuses (work_extent t.work) (TellsWork t) (RefusesWork t) b held held fault
not_given t b held fault none = given_none t.source (work_extent t.work) (TellsWork t) (RefusesWork t) b held fault none (inl none, keeps_refl held)

-- one whose bytes are taken for nothing
pub not_shown : (t : Task) (b bytes : List ℕ) (held : Held) (fault : ToolFault) → Gives t.source b bytes → IsNone (shows_of t.taken) bytes fault
    → Refuses (work_extent t.work) (TellsWork t) (RefusesWork t) b held held fault
not_shown t b bytes held (faults.File fault) given h = (inr (record { bytes = bytes; given = given; shown = h }), keeps_refl held)
not_shown t b bytes held (faults.Set fault) given h = (inr (record { bytes = bytes; given = given; shown = h }), keeps_refl held)
not_shown t b bytes held (faults.Trailing at) given h = (inr (record { bytes = bytes; given = given; shown = h }), keeps_refl held)
not_shown t b bytes held faults.Memory given h = inl (keeps_refl held)
not_shown t b bytes held faults.Read given h = absurd h
not_shown t b bytes held faults.Write given h = absurd h
not_shown t b bytes held faults.TooLarge given h = absurd h
not_shown t b bytes held (faults.List fault) given h = absurd h
not_shown t b bytes held (faults.Hex line column) given h = absurd h
not_shown t b bytes held (faults.Capture why at) given h = absurd h
not_shown t b bytes held (faults.Lack device lack) given h = absurd h

-- and that of `show`, as it is read
pub not_listed : (from to : Left) (held : Held) (r : Result ℕ ToolFault) (e : ToolFault) → IsErrAnd r (λ fault. fault ≡ e) → TakesNone SetOrFileShows from to e
    → IfErr r (WorkFails show_task from to held held)
not_listed from to held r e is none = when_err r e _ is (by none)
  where
    by : TakesNone SetOrFileShows from to e → WorkFails show_task from to held held e
    by (inl fails) = inl (fails, keeps_refl held)
    by (inr reads) = inr (record { bytes = reads.bytes; read = reads.read; refused = not_shown show_task reads.bytes reads.bytes held e refl reads.shown })

module _ (extent : Extent) (tells : Telling) (b text : List ℕ) (ended : ℕ) (tell : tells b text ended) (held holds : Held) where
  -- all of it was written
  pub all_written : (r : Result ℕ ToolFault) → IfOk r (EndsWith text ended held holds) → IfOk r (Writes Appends tells b held holds)
  all_written (Ok status) (written, same) = record { text = text; report = subst (tells b text) (sym same) tell; written = written }
  all_written (Err fault) ends = tt

  -- or not
  pub not_written : (refuses : Refusal) (r : Result ℕ ToolFault) → IfErr r (IsCut extent text held holds) → IfErr r (Refuses extent tells refuses b held holds)
  not_written refuses (Ok status) short = tt
  not_written refuses (Err fault) short = cut_short extent tells refuses b text ended held holds fault tell short
