-- On what a command takes its input for, and what it tells of that.
use Rattle.std.proofs.Common.{◌≡◌, ℕ, List, Result, Ok, Err, inl, inr, refl, sym, subst}
use Rattle.std.specs.Prelude.{IfErr, IfOk}
use Rattle.usb_file_data.specs.FileFaults.{FileFaulty, ReadRefused}
use Rattle.usb_file_data.specs.Inputs.{InputFaulty, InputRefused}
use Rattle.usb_file_data.specs.declared.fault.FileFault.{FileFault}
use Rattle.usb_file_data.specs.declared.fault.FileWhy.{FileWhy}
use Rattle.usb_file_data.specs.declared.fault.FileWhy.TheVariants as files
use Rattle.usb_file_data.specs.declared.fault.InputFault.{InputFault}
use Rattle.usb_file_data.specs.declared.fault.InputFault.TheVariants as inputs
use Rattle.usb_text.specs.Output.{Held}
use Rattle.usb_tool.specs.Endings.{Extent, Fails, Refusal, Refuses, Telling, Reported, Left, ReadsAll}
use Rattle.usb_tool.specs.Faults.{fault_of_file, fault_of_input, file_fault_by_why}
use Rattle.usb_tool.specs.Inputs.{Faulty}
use Rattle.usb_tool.specs.inside.Taking.{IsNone}
use Rattle.usb_tool.specs.inside.Telling.{EndsWith, IsCut}
use Rattle.usb_tool.specs.declared.fault.ToolFault.{ToolFault}
use Rattle.usb_tool.proofs.Refusals.{IsReported, as_reported, cut_short, is_reported}

none_shown : (shows : Faulty) (b : List ℕ) (e : InputFault) → shows b e → IsNone shows b (as_reported e)
none_shown shows b (inputs.Set fault) h = h
none_shown shows b (inputs.Trailing at) h = h
none_shown shows b (inputs.File fault) h = h

-- bytes that are no set, no file and no dump
pub no_input : (b : List ℕ) (e : InputFault) → InputRefused b e → IsNone InputFaulty b (fault_of_input e)
no_input b e refused = by (is_reported b e refused)
  where
    by : IsReported b e (fault_of_input e) → IsNone InputFaulty b (fault_of_input e)
    by (inl memory) = subst (IsNone InputFaulty b) (sym memory) tt
    by (inr h) = subst (IsNone InputFaulty b) (sym h.1) (none_shown InputFaulty b e h.0)

-- bytes that are no file
pub no_file : (shows : Faulty) (b : List ℕ) (e : FileFault) → (FileFaulty b e.at e.why → shows b (inputs.File e)) → ReadRefused b e.at e.why
    → IsNone shows b (fault_of_file e)
no_file shows b e shown = by e.why refl
  where
    by : (why : FileWhy) → e.why ≡ why → ReadRefused b e.at why → IsNone shows b (file_fault_by_why why e)
    by files.Memory is h = tt
    by why is h = shown (subst (FileFaulty b e.at) (sym is) h)

module _ (extent : Extent) (tells : Telling) (limit : ℕ) (from to : Left) (bytes : List ℕ) (read : ReadsAll limit from to bytes) (text : List ℕ) (ended : ℕ)
    (tell : tells bytes text ended) (held holds : Held) where
  -- a command that has written what it tells of its input
  pub report : (r : Result ℕ ToolFault) → IfOk r (EndsWith text ended held holds) → IfOk r (Reported limit tells from to held holds)
  report (Ok status) (written, same) = record {
    bytes = bytes;
    read = read;
    written = record { text = text; report = subst (tells bytes text) (sym same) tell; written = written };
  }
  report (Err fault) ends = tt

  -- one that has not written all of it
  pub cut : (refuses : Refusal) (r : Result ℕ ToolFault) → IfErr r (IsCut extent text held holds) → IfErr r (Fails limit (Refuses extent tells refuses) from to held holds)
  cut refuses (Ok status) short = tt
  cut refuses (Err fault) short = inr (record {
    bytes = bytes;
    read = read;
    refused = cut_short extent tells refuses bytes text ended held holds fault tell short;
  })
