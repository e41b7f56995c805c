-- On telling what came of an enumeration.
use Rattle.std.proofs.Common.{◌≡◌, ◌≢◌, ℕ, Bool, true, false, List, [], ◌∷◌, ◌++◌, ◌<◌, length, length-append, arith, Some, Result, Ok, Err, refl, sym, ap, ◌∙◌, inl, inr, subst, append_assoc}
use Rattle.std.specs.Prelude.{IfErr, IfOk, IsErrAnd}
use Rattle.std.specs.Io.KnownBytes.{Appends}
use Rattle.usb_fields.specs.declared.packet.Speed.{Speed}
use Rattle.usb_file_data.specs.declared.file.DescriptorFile.{DescriptorFile}
use Rattle.usb_file_data.specs.Inputs.{IsNoDump, DeviceRefused}
use Rattle.usb_file_data.specs.FileFaults.{FileFaulty, ReadRefused}
use Rattle.usb_file_data.specs.declared.fault.FileFault.{FileFault}
use Rattle.usb_file_data.specs.declared.fault.FileWhy.{FileWhy}
use Rattle.usb_file_data.specs.declared.fault.FileWhy.TheVariants as files
use Rattle.usb_text.specs.declared.output.OutFault.{OutFault}
use Rattle.usb_text.specs.declared.output.OutFault.TheVariants as outs
use Rattle.usb_text.specs.Output.{AppendsLess, Held}
use Rattle.usb_text.proofs.Pages.{appends_more, appends_nothing, less_is_front, stopped}
use Rattle.usb_device.specs.Accepted.{Accepted, Refuses, refusal_of}
use Rattle.usb_device.specs.declared.acceptance.DescriptionFault.{DescriptionFault}
use Rattle.usb_device.specs.declared.acceptance.DescriptionFault.TheVariants as refusals
use Rattle.usb_bus.specs.declared.enumeration.Run.{Run}
use Rattle.usb_bus.specs.declared.wire.change.BitChange.{BitChange}
use Rattle.usb_host.specs.declared.step.Trouble.{Trouble}
use Rattle.usb_tool.specs.Enumerations.{Conditions, IsNotTaken, IsRun, IsRunOver, IsTaken, RefusesToEnumerate, StopsShort, Tells, WritesResult, WritesResultFront, has_bytes, run_text, refused_line, success_line, trouble_line}
use Rattle.usb_tool.specs.EnumerationEnds.{end_of}
use Rattle.usb_tool.specs.declared.enumeration_end.EnumerationEnd.{EnumerationEnd}
use Rattle.usb_tool.specs.declared.enumeration_end.EnumerationEnd.TheVariants as ends
use Rattle.usb_tool.specs.Faults.{fault_of_output}
use Rattle.usb_tool.specs.inside.Telling.{BreaksRun, EndsWith, IsCutShort}
use Rattle.usb_tool.specs.declared.fault.ToolFault.{ToolFault}
use Rattle.usb_tool.specs.declared.settings.EnumerateFlags.{EnumerateFlags}
use Rattle.usb_tool.specs.declared.fault.ToolFault.TheVariants as faults

-- eight texts, joined from the left or from the right
pub eight_joined : (a b c d e f g h : List ℕ)
    → a ++ b ++ c ++ d ++ e ++ f ++ g ++ h ≡ a ++ (b ++ (c ++ (d ++ (e ++ (f ++ (g ++ h))))))
eight_joined a b c d e f g h =
    append_assoc (a ++ b ++ c ++ d ++ e ++ f) g h ∙ append_assoc (a ++ b ++ c ++ d ++ e) f (g ++ h)
    ∙ append_assoc (a ++ b ++ c ++ d) e (f ++ (g ++ h)) ∙ append_assoc (a ++ b ++ c) d (e ++ (f ++ (g ++ h)))
    ∙ append_assoc (a ++ b) c (d ++ (e ++ (f ++ (g ++ h)))) ∙ append_assoc a b (c ++ (d ++ (e ++ (f ++ (g ++ h)))))

-- a refusal that is not *out of memory* is for the first reason
pub first_reason : (f : DescriptorFile) (s : Speed) (fault : DescriptionFault) → Refuses f s fault → fault ≢ refusals.Memory
    → refusal_of f s ≡ Some fault
first_reason f s (refusals.Finding finding) why known = why
first_reason f s refusals.Texts why known = why
first_reason f s refusals.Speed why known = why
first_reason f s refusals.Memory why known = absurd (known refl)
first_reason f s refusals.Unwritable why known = why

-- ---- bytes that are not taken

refused : (b : List ℕ) (at : ℕ) (why : FileWhy) → ReadRefused b at why → why ≢ files.Memory → FileFaulty b at why
refused b at files.Memory h other = absurd (other refl)
refused b at why h other = h

refused_both : (b : List ℕ) (at : ℕ) (why : FileWhy) → DeviceRefused b at why → why ≢ files.Memory → FileFaulty b at why × IsNoDump b
refused_both b at files.Memory h other = absurd (other refl)
refused_both b at why h other = h

pub no_file : (r : Result DescriptorFile FileFault) (b : List ℕ) (with_strings : Bool) → with_strings ≡ false → IfErr r (λ fault. ReadRefused b fault.at fault.why)
    → IfErr r (λ fault. fault.why ≢ files.Memory → IsNotTaken with_strings b fault)
no_file (Ok f) b with_strings is h = tt
no_file (Err e) b with_strings is h = λ other. subst (λ s. IsNotTaken s b e) (sym is) (refused b e.at e.why h other)

pub no_dump_either : (r : Result DescriptorFile FileFault) (b : List ℕ) (with_strings : Bool) → with_strings ≡ true → IfErr r (λ fault. DeviceRefused b fault.at fault.why)
    → IfErr r (λ fault. fault.why ≢ files.Memory → IsNotTaken with_strings b fault)
no_dump_either (Ok f) b with_strings is h = tt
no_dump_either (Err e) b with_strings is h = λ other. subst (λ s. IsNotTaken s b e) (sym is) (refused_both b e.at e.why h other)

-- what is reported of a file that no device can be made of
pub refusal_reported : (c : Conditions) (f : DescriptorFile) (b : List ℕ) (fault : DescriptionFault) → IsTaken c.flags.with_strings f b
    → refusal_of f c.speed ≡ Some fault → Tells c b [] (refused_line fault) (ends.Refused fault)
refusal_reported c f b fault taken why =
    record { file = f; taken = taken; report = inl (record { fault = fault; why = why; report = refl; ended = refl }, refl) }

-- what is reported of a run
pub run_reported : (c : Conditions) (f : DescriptorFile) (b : List ℕ) (run : Run) (log : List ℕ) → IsTaken c.flags.with_strings f b → Accepted f c.speed
    → IsRun c f run log → Tells c b log (run_text run.outcome run) (end_of run.outcome)
run_reported c f b run log taken accepted enumerated = record {
  file = f;
  taken = taken;
  report = inr (record { run = run; accepted = accepted; enumerated = enumerated; report = refl; ended = refl });
}

-- a run over a bus of bytes or not, and with a log or not
pub run_is : (bytes logged : Bool) (c : Conditions) (f : DescriptorFile) (run : Run) (log : List ℕ) → has_bytes c.changes c.flags ≡ bytes → c.flags.log ≡ logged
    → IsRunOver bytes logged c f run log → IsRun c f run log
run_is bytes logged c f run log is asked made =
    subst (λ b. IsRunOver b c.flags.log c f run log) (sym is) (subst (λ l. IsRunOver bytes l c f run log) (sym asked) made)

-- a bus that carries no bytes changes none
pub none_changed : (changes : List BitChange) (flags : EnumerateFlags) → has_bytes changes flags ≡ false → (changes ≡ []) × (flags.packets ≡ false)
none_changed [] flags is = (refl, is)
none_changed (change ∷ more) flags is = absurd (cc)

-- a text that was not written to its end
pub cut_by : (o : OutFault) (text : List ℕ) (held holds : Held) → AppendsLess held holds text → IsCutShort text held holds (fault_of_output o)
cut_by outs.Write text held holds less = less_is_front held holds text less
cut_by outs.Memory text held holds less = inr less

-- a text, and after it not all of another one
pub less_after : (a b c : Held) (s t : List ℕ) → Appends a b s → AppendsLess b c t → AppendsLess a c (s ++ t)
less_after a b c s t whole less = record {
  front = s ++ less.front;
  missing = less.missing;
  rest = less.rest;
  parts = ap (λ l. s ++ l) less.parts ∙ sym (append_assoc s less.front (less.missing ∷ less.rest));
  written = appends_more a b c s less.front whole less.written;
}

module _ (c : Conditions) (b log text : List ℕ) (ended : EnumerationEnd) (held between holds : Held) (tells : Tells c b log text ended) (logged : Appends held between log) where
  -- what was written is what comes of the bytes
  pub result_written : (r : Result EnumerationEnd ToolFault) → IfOk r (EndsWith text ended between holds) → IfOk r (WritesResult c b held holds)
  result_written (Ok end) (written, is) =
      record { log = log; text = text; tells = subst (Tells c b log text) (sym is) tells; written = appends_more held between holds log text logged written }
  result_written (Err fault) ends = tt

  cut_off : (fault : OutFault) → StopsShort fault between holds text → WritesResultFront c b held holds fault
  cut_off fault short =
      record { log = log; text = text; end = ended; tells = tells; between = between; logged = logged; written = short }

  -- and where it was cut short, a front of that
  pub result_cut : (r : Result EnumerationEnd ToolFault) → 0 < length text → IfErr r (IsCutShort text between holds) → IfErr r (RefusesToEnumerate c b held holds)
  result_cut (Ok end) some cut = tt
  result_cut (Err faults.Write) some front = inr (cut_off outs.Write front)
  result_cut (Err faults.Memory) some (inl keeps) =
      inr (inr (cut_off outs.Memory (stopped between holds text [] text refl (appends_nothing between holds keeps) some)))
  result_cut (Err faults.Memory) some (inr less) = inr (inr (cut_off outs.Memory less))
  result_cut (Err faults.Read) some cut = elim cut [ ]
  result_cut (Err faults.TooLarge) some cut = elim cut [ ]
  result_cut (Err (faults.File fault)) some cut = elim cut [ ]
  result_cut (Err (faults.List fault)) some cut = elim cut [ ]
  result_cut (Err (faults.Set fault)) some cut = elim cut [ ]
  result_cut (Err (faults.Trailing at)) some cut = elim cut [ ]
  result_cut (Err (faults.Hex line column)) some cut = elim cut [ ]
  result_cut (Err (faults.Capture why at)) some cut = elim cut [ ]
  result_cut (Err (faults.Lack device lack)) some cut = elim cut [ ]

-- the line of a result is there
success_some : (run : Run) → 0 < length (success_line run)
unfolding success_line
success_some run = rw length-append (omega arith)

trouble_some : (trouble : Trouble) (run : Run) → 0 < length (trouble_line trouble run)
unfolding trouble_line
trouble_some trouble run = rw length-append (omega arith)

pub run_text_some : (o : Result DescriptorFile Trouble) (run : Run) → 0 < length (run_text o run)
run_text_some (Ok f) run = rw length-append (omega (arith, success_some run))
run_text_some (Err trouble) run = trouble_some trouble run

pub refused_some : (fault : DescriptionFault) → 0 < length (refused_line fault)
unfolding refused_line
refused_some (refusals.Finding finding) = rw length-append (omega arith)
refused_some refusals.Texts = rw length-append (omega arith)
refused_some refusals.Speed = rw length-append (omega arith)
refused_some refusals.Memory = rw length-append (omega arith)
refused_some refusals.Unwritable = rw length-append (omega arith)

-- a step of the enumeration of a device with these descriptors broke its log
pub run_broken : (c : Conditions) (f : DescriptorFile) (b : List ℕ) (held holds : Held) (fault : ToolFault) → IsTaken c.flags.with_strings f b → Accepted f c.speed
    → BreaksRun c f held holds fault → RefusesToEnumerate c b held holds fault
run_broken c f b held holds faults.Write taken accepted broke = inl (record { file = f; taken = taken; accepted = accepted; asked = broke.0; written = broke.1 })
run_broken c f b held holds faults.Memory taken accepted broke = inr (inl (record { file = f; taken = taken; accepted = accepted; asked = broke.0; written = broke.1 }))
run_broken c f b held holds faults.Read taken accepted broke = absurd broke
run_broken c f b held holds faults.TooLarge taken accepted broke = absurd broke
run_broken c f b held holds (faults.File fault) taken accepted broke = absurd broke
run_broken c f b held holds (faults.List fault) taken accepted broke = absurd broke
run_broken c f b held holds (faults.Set fault) taken accepted broke = absurd broke
run_broken c f b held holds (faults.Trailing at) taken accepted broke = absurd broke
run_broken c f b held holds (faults.Hex line column) taken accepted broke = absurd broke
run_broken c f b held holds (faults.Capture why at) taken accepted broke = absurd broke
run_broken c f b held holds (faults.Lack device lack) taken accepted broke = absurd broke

-- and the fault is passed on
pub same_broken : {T : Type 0} (P : ToolFault → Type 0) (r : Result T ToolFault) (e : ToolFault) → IsErrAnd r (λ fault. fault ≡ e) → P e → IfErr r P
same_broken P (Ok v) e same p = tt
same_broken P (Err fault) e same p = subst P (sym same) p
