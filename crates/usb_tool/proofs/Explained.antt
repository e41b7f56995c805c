-- On the explanation of bytes after a heading.
use Rattle.std.proofs.Common.{◌≡◌, ◌≢◌, ℕ, Bool, true, List, ◌++◌, Ok, Err, Result, inl, inr, refl, subst, sym, replicate}
use Rattle.std.specs.Prelude.{IfErr, IfOk, OnOk}
use Rattle.std.specs.Io.KnownBytes.{Appends, Keeps}
use Rattle.usb_text.specs.Output.{AppendsLess, Held}
use Rattle.usb_text.specs.Shown.{Shown, ends}
use Rattle.usb_text.specs.Written.{WritesLess, WritesLines}
use Rattle.usb_text.specs.declared.output.OutFault.{OutFault}
use Rattle.usb_text.specs.declared.output.OutFault.TheVariants as outs
use Rattle.usb_text.proofs.Pages.{appends_kept, appends_more, front_longer, front_whole}
use Rattle.usb_text.proofs.WrittenLines.{less_completed, some_lines}
use Rattle.usb_explain.specs.declared.manner.Manner.{Manner}
use Rattle.usb_explain.specs.Subjects.{Reading}
use Rattle.usb_tool.specs.Explains.{Explains, ExplainsFault, ExplainsFaultAs, RefusesAs, RefusesToExplain, ReportsFragment, WithoutMemory, WritesAfter, WritesExplained}
use Rattle.usb_tool.specs.Faults.{fault_of_input, fault_of_output}
use Rattle.usb_tool.specs.Endings.{Extent}
use Rattle.usb_tool.specs.inside.Telling.{CutsAfter, CutsExplained, CutsFragment}
use Rattle.usb_tool.specs.declared.fault.ToolFault.{ToolFault}
use Rattle.usb_tool.specs.declared.fault.ToolFault.TheVariants as faults
use Rattle.usb_file_data.specs.Inputs.{InputFaulty, InputRefused, IsInput}
use Rattle.usb_file_data.specs.declared.fault.InputFault.{InputFault}
use Rattle.usb_file_data.specs.declared.fault.InputFault.TheVariants as inputs
use Rattle.usb_file_data.specs.declared.file.Input.{Input}
use Rattle.usb_tool.proofs.Refusals.{IsReported, as_reported, cut_short, is_reported, shown_fault}
use Rattle.usb_tool.proofs.Telling.{cut_by, less_after}

module _ (utf8 : Bool) (shown : List Shown) (heading : List ℕ) where
  -- a heading and then the lines
  pub explained : (x y z : Held) → Appends x y heading → WritesLines utf8 (ends shown) y z → WritesAfter Appends utf8 shown heading x z
  explained x y z headed lines = record {
    text = heading ++ lines.text;
    explains = record { lines = lines.text; is = lines.lines; joined = refl };
    written = appends_more x y z heading lines.text headed lines.written;
  }

  -- or not all of them
  pub explained_less : (x y z : Held) → Appends x y heading → WritesLess utf8 (ends shown) y z → WritesAfter AppendsLess utf8 shown heading x z
  explained_less x y z headed less =
      let whole = less_completed utf8 (ends shown) y z less in
      record {
        text = heading ++ whole.text;
        explains = record { lines = whole.text; is = whole.lines; joined = refl };
        written = less_after x y z heading whole.text headed whole.less;
      }

  -- or not all of the heading
  pub headed_less : (x z : Held) → AppendsLess x z heading → WritesAfter AppendsLess utf8 shown heading x z
  headed_less x z less =
      let lines : List ℕ = replicate (ends shown) 10 in
      record {
        text = heading ++ lines;
        explains = record { lines = lines; is = some_lines utf8 (ends shown); joined = refl };
        written = front_longer x z heading lines less;
      }

  -- all of it, and then the writer was flushed
  pub flushed : {T : Type 0} (r : Result T ToolFault) (x y z : Held) → WritesAfter Appends utf8 shown heading x y → Keeps y z
      → OnOk r (WritesAfter Appends utf8 shown heading x z)
  flushed (Ok v) x y z w kept = record { text = w.text; explains = w.explains; written = appends_kept x y z w.text w.written kept }
  flushed (Err fault) x y z w kept = tt

  -- or the flush failed
  pub not_flushed : {T : Type 0} (extent : Extent) (r : Result T ToolFault) (x y z : Held) → WritesAfter Appends utf8 shown heading x y → Keeps y z
      → IfErr r (λ fault. fault ≡ faults.Write) → IfErr r (CutsAfter extent utf8 shown heading x z)
  not_flushed extent (Ok v) x y z w kept why = tt
  not_flushed extent (Err fault) x y z w kept why =
      subst (λ (f : ToolFault). CutsAfter extent utf8 shown heading x z f) (sym why) (record { text = w.text; explains = w.explains; cut = front_whole x y z w.text w.written kept })

  -- or not all of it was written
  pub cut_explained : (o : OutFault) (x z : Held) → WritesAfter AppendsLess utf8 shown heading x z → CutsAfter AppendsLess utf8 shown heading x z (fault_of_output o)
  cut_explained o x z w = record { text = w.text; explains = w.explains; cut = cut_by o w.text x z w.written }

  -- or out of memory the heading alone
  pub cut_headed : (o : OutFault) (x z : Held) → WritesAfter AppendsLess utf8 shown heading x z → (o ≡ outs.Memory → Appends x z heading)
      → CutsAfter (WithoutMemory true heading) utf8 shown heading x z (fault_of_output o)
  cut_headed outs.Write x z w headed = record { text = w.text; explains = w.explains; cut = cut_by outs.Write w.text x z w.written }
  cut_headed outs.Memory x z w headed = record { text = w.text; explains = w.explains; cut = inr (headed refl) }

-- out of memory nothing was written after a heading
pub only_headed : {T : Type 0} (r : Result T OutFault) (heading : List ℕ) (x y z : Held) → Appends x y heading → IfErr r (λ fault. fault ≡ outs.Memory → Keeps y z)
    → IfErr r (λ fault. fault ≡ outs.Memory → Appends x z heading)
only_headed (Ok v) heading x y z headed kept = tt
only_headed (Err fault) heading x y z headed kept = λ memory. appends_kept x y z heading headed (kept memory)

-- the explanation of a fragment was left unfinished
pub cut_fragment : (m : Manner) (heading b : List ℕ) (x z : Held) (fault : ToolFault) → CutsFragment m heading b x z fault
    → RefusesAs true m heading b x z fault
cut_fragment m heading b x z fault cut =
    cut_short (WithoutMemory true heading) (ReportsFragment m heading) (ExplainsFaultAs true m heading) b cut.text 0 x z fault (record { explains = cut.explains; ended = refl }) cut.cut

-- ---- bytes of which this was read

module _ (m : Manner) (heading b : List ℕ) where
  -- the explanation of an input was left unfinished
  pub cut_input : (read : Reading) (input : Input) (x z : Held) (fault : ToolFault) → read ≡ Ok input → IfOk read (λ input. IsInput input b)
      → CutsExplained m read heading b x z fault → RefusesToExplain m heading b x z fault
  cut_input (Ok known) input x z fault e is cut =
      cut_short AppendsLess (Explains m heading) (ExplainsFault m heading) b cut.text 0 x z fault
      (inl (record { input = known; is = is; explains = cut.explains; ended = refl })) cut.cut
  cut_input (Err other) input x z fault e is cut = cc

  -- that of bytes that are none
  pub cut_broken : (read : Reading) (e : InputFault) (x z : Held) (fault : ToolFault) → read ≡ Err e → IfErr read (InputRefused b) → fault_of_input e ≢ faults.Memory
      → CutsExplained m read heading b x z fault → RefusesToExplain m heading b x z fault
  cut_broken read e x z fault is refused known cut =
      let own = subst (λ (r : Reading). CutsExplained m r heading b x z fault) is cut in
      let shows = shown_fault b e (subst (λ (r : Reading). IfErr r (InputRefused b)) is refused) known in
      cut_short AppendsLess (Explains m heading) (ExplainsFault m heading) b own.text 3 x z fault
      (inr (record { fault = e; shows = shows; explains = own.explains; ended = refl })) own.cut

  by_reported : (e : InputFault) (x z : Held) → InputFaulty b e × WritesExplained Appends m (Err e) heading b x z → RefusesToExplain m heading b x z (as_reported e)
  by_reported (inputs.Set fault) x z p = p
  by_reported (inputs.Trailing at) x z p = p
  by_reported (inputs.File fault) x z p = p

  -- or it was written, and the fault is reported
  pub fault_reported : (read : Reading) (e : InputFault) (x z : Held) → read ≡ Err e → IfErr read (InputRefused b) → fault_of_input e ≢ faults.Memory
      → WritesExplained Appends m read heading b x z → RefusesToExplain m heading b x z (fault_of_input e)
  fault_reported read e x z is refused known w = by (is_reported b e (subst (λ (r : Reading). IfErr r (InputRefused b)) is refused))
    where
      by : IsReported b e (fault_of_input e) → RefusesToExplain m heading b x z (fault_of_input e)
      by (inl memory) = absurd (known memory)
      by (inr h) =
          subst (λ (f : ToolFault). RefusesToExplain m heading b x z f) (sym h.1)
          (by_reported e x z (h.0, subst (λ (r : Reading). WritesExplained Appends m r heading b x z) is w))
