-- On the faults of inputs and listings, as they are reported.
use Rattle.std.proofs.Common.{◌≡◌, ℕ, ◌⊎◌, Bool, true, false, List, [], Err, refl, sym, subst, inl, inr}
use Rattle.usb_set.specs.declared.fault.SetFault.{SetFault}
use Rattle.usb_set.specs.declared.fault.SetWhy.{SetWhy}
use Rattle.usb_set.specs.declared.fault.SetWhy.TheVariants as sets
use Rattle.usb_set.specs.Decoding.{WantsMemory}
use Rattle.usb_fields.specs.declared.packet.Speed.{Speed}
use Rattle.usb_file_data.specs.File.{File}
use Rattle.usb_file_data.specs.declared.file.DescriptorFile.{DescriptorFile}
use Rattle.usb_file_data.specs.declared.fault.FileFault.{FileFault}
use Rattle.usb_file_data.specs.declared.fault.FileWhy.{FileWhy}
use Rattle.usb_file_data.specs.declared.fault.FileWhy.TheVariants as files
use Rattle.usb_file_data.specs.declared.fault.InputFault.{InputFault}
use Rattle.usb_file_data.specs.declared.fault.InputFault.TheVariants as inputs
use Rattle.usb_file_data.specs.FileFaults.{FileFaulty, ReadRefused}
use Rattle.usb_file_data.specs.Inputs.{DeviceRefused, HasFault, InputFaulty, InputRefused, IsNoDump, is_one_set}
use Rattle.usb_listing.specs.declared.fault.ListFault.{ListFault}
use Rattle.usb_listing.specs.declared.fault.ListWhy.{ListWhy}
use Rattle.usb_listing.specs.declared.fault.ListWhy.TheVariants as lists
use Rattle.usb_listing.specs.Comments.{CommentedFaulty}
use Rattle.usb_listing.specs.Listings.{ListFaulty}
use Rattle.usb_device.specs.Accepted.{Refuses as RefusesDescription}
use Rattle.usb_device.specs.declared.acceptance.DescriptionFault.{DescriptionFault}
use Rattle.usb_device.specs.declared.acceptance.DescriptionFault.TheVariants as descriptions
use Rattle.usb_c.specs.Enumerations.{RefusesRun}
use Rattle.usb_c.specs.Answers.{Fills, set_by}
use Rattle.usb_c.specs.declared.answer.Verdict.{Verdict}
use Rattle.usb_c.specs.declared.answer.Verdict.TheVariants as verdicts
use Rattle.usb_explain.specs.declared.manner.Manner.{Manner}
use Rattle.usb_explain.specs.Explanations.{IsExplanation}
use Rattle.usb_c.specs.inside.Refusals.{file_by, file_wants, list_by, refused_description, refused_file, refused_input, refused_list, set_wants, wants_memory}
use Rattle.usb_c.specs.Facts.{CompletionFaulty}
use Rattle.usb_c.specs.Texts.{Explains, Refuses, RefusesList}
use Rattle.usb_c.specs.inside.Taking.{BuildRefused}

-- a set's fault, by what says which bytes show it
module _ (IsFault : List ℕ → InputFault → Type 0) (b : List ℕ) (e : SetFault) (shows : HasFault b e → IsFault b (inputs.Set e)) where
  pub set_refuses : (why : SetWhy) → e.why ≡ why → HasFault b e ⊎ WantsMemory [] b e → Refuses IsFault b (set_by why e)
  set_refuses sets.Memory is h = tt
  set_refuses why is (inl h) = (shows h, refl)
  set_refuses why is (inr wants) = let memory = wants.why in cc

-- a file's fault, by what says which bytes show it
module _ (IsFault : List ℕ → InputFault → Type 0) (b : List ℕ) (e : FileFault) (shows : FileFaulty b e.at e.why × IsNoDump b → IsFault b (inputs.File e)) where
  pub file_refuses : (why : FileWhy) → e.why ≡ why → DeviceRefused b e.at why → Refuses IsFault b (file_by why e)
  file_refuses files.Memory is h = tt
  file_refuses why is h = (shows (subst (FileFaulty b e.at) (sym is) h.0, h.1), refl)

-- bytes that are no file and no dump
pub completion_refuses : (b : List ℕ) (e : FileFault) → DeviceRefused b e.at e.why → Refuses CompletionFaulty b (refused_file e)
completion_refuses b e h = file_refuses CompletionFaulty b e (λ shown. shown) e.why refl h

-- bytes that are no input are reported with the fault that they show, or as out of memory
pub input_refuses : (b : List ℕ) (e : InputFault) → InputRefused b e → Refuses InputFaulty b (refused_input e)
input_refuses b (inputs.Set fault) h = set_refuses InputFaulty b fault (λ shown. (h.0, shown)) fault.why refl h.1
input_refuses b (inputs.Trailing at) h = (h, refl)
input_refuses b (inputs.File fault) h = file_refuses InputFaulty b fault (λ shown. (h.0, shown.0, shown.1)) fault.why refl h.1

set_shows : (b : List ℕ) (e : SetFault) (why : SetWhy) → e.why ≡ why → set_wants why ≡ false → HasFault b e ⊎ WantsMemory [] b e → HasFault b e
set_shows b e sets.Memory is known h = cc
set_shows b e why is known (inl h) = h
set_shows b e why is known (inr wants) = let memory = wants.why in cc

file_shows : (b : List ℕ) (e : FileFault) (why : FileWhy) → e.why ≡ why → file_wants why ≡ false → is_one_set b ≡ false → DeviceRefused b e.at why → InputFaulty b (inputs.File e)
file_shows b e files.Memory is known none h = cc
file_shows b e why is known none h = (none, subst (FileFaulty b e.at) (sym is) h.0, h.1)

-- and they show it, where memory was not wanting
pub shown_fault : (b : List ℕ) (e : InputFault) → InputRefused b e → wants_memory e ≡ false → InputFaulty b e
shown_fault b (inputs.Set fault) h known = (h.0, set_shows b fault fault.why refl known h.1)
shown_fault b (inputs.Trailing at) h known = h
shown_fault b (inputs.File fault) h known = file_shows b fault fault.why refl known h.0 h.1

-- what is made of bytes that are no input is their explanation
pub broken_explained : (m : Manner) (b old new text slice : List ℕ) (e : InputFault) (v : Verdict) → InputRefused b e → wants_memory e ≡ false
    → IsExplanation m (Err e) b text → slice ≡ text → Fills (verdicts.Broken e) slice old new v → Explains m b old new v
broken_explained m b old new text slice e v refused known explains same fills =
    inr (inl (record {
      fault = e;
      shows = shown_fault b e refused known;
      fills = record {
        text = text;
        is = explains;
        fills = subst (λ (t : List ℕ). Fills (verdicts.Broken e) t old new v) same fills;
      };
    }))

list_refuses_by : (comments : Bool) (text : List ℕ) (e : ListFault) (why : ListWhy) → e.why ≡ why → BuildRefused comments text e.line why → RefusesList comments text (list_by why e)
list_refuses_by comments text e lists.Memory is h = tt
list_refuses_by true text e why is h = subst (CommentedFaulty text e.line) (sym is) h
list_refuses_by false text e why is h = subst (ListFaulty text e.line) (sym is) h

-- a text that is no listing
pub list_refuses : (comments : Bool) (text : List ℕ) (e : ListFault) → BuildRefused comments text e.line e.why → RefusesList comments text (refused_list e)
list_refuses comments text e h = list_refuses_by comments text e e.why refl h

module _ (b : List ℕ) (speed : Speed) where
  run_by : (e : FileFault) (why : FileWhy) → e.why ≡ why → ReadRefused b e.at why → RefusesRun b speed (file_by why e)
  run_by e files.Memory is h = tt
  run_by e why is h = (refl, subst (FileFaulty b e.at) (sym is) h)

  -- bytes that are no file have no enumeration
  pub no_file_runs : (e : FileFault) → ReadRefused b e.at e.why → RefusesRun b speed (refused_file e)
  no_file_runs e h = run_by e e.why refl h

  -- nor has a file that no device of the speed has
  pub no_description_runs : (f : DescriptorFile) (e : DescriptionFault) → File f b → RefusesDescription f speed e → RefusesRun b speed (refused_description e)
  no_description_runs f (descriptions.Finding finding) file why = record { file = f; layout = file; why = why }
  no_description_runs f descriptions.Texts file why = record { file = f; layout = file; why = why }
  no_description_runs f descriptions.Speed file why = record { file = f; layout = file; why = why }
  no_description_runs f descriptions.Memory file why = tt
  no_description_runs f descriptions.Unwritable file why = record { file = f; layout = file; why = why }
