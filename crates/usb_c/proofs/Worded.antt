-- On words that were put, as they are reported.
use Rattle.std.proofs.Common.{◌≡◌, ℕ, List, Option, Some, None, true, false, inl, is_some, refl, subst}
use Rattle.usb_text.specs.Shown.{Shown}
use Rattle.usb_text.specs.Written.{LineBytes}
use Rattle.usb_c.specs.declared.answer.Verdict.{Verdict}
use Rattle.usb_c.specs.declared.answer.Verdict.TheVariants as verdicts
use Rattle.usb_host.specs.declared.step.Step.{Step}
use Rattle.usb_host.specs.declared.step.Step.TheVariants as steps
use Rattle.usb_host.specs.declared.why.Why.{Why}
use Rattle.usb_host.specs.declared.why.Why.TheVariants as reasons
use Rattle.usb_host.specs.Why.{why_number}
use Rattle.usb_c.specs.Transfers.{why_in}
use Rattle.usb_c.specs.Hosts.{step_numbers}
use Rattle.usb_file_data.specs.declared.fault.InputFault.{InputFault}
use Rattle.usb_file_data.specs.Inputs.{InputRefused}
use Rattle.usb_explain.specs.FaultWords.{fault_words}
use Rattle.usb_remarks.specs.FaultPlaces.{place_of_fault}
use Rattle.usb_c.specs.Answers.{Fills, Puts}
use Rattle.usb_c.specs.inside.Refusals.{wants_memory}
use Rattle.usb_c.specs.Words.{Means, Show, TellsShown, TroublesAreReported, inner_number, shown_by, step_given}
use Rattle.usb_c.proofs.InputFaults.{shown_fault}

-- where there is something to show, its words are in the buffer
pub words_reported : (shown : Option (List Shown)) (words : LineBytes) (text old new : List ℕ) (v : Verdict) → is_some shown ≡ true → Show (shown_by shown) words
    → text ≡ words.bytes → Puts verdicts.Done text old new v → TellsShown shown old new v
words_reported None words text old new v there show same puts = cc
words_reported (Some shown) words text old new v there show same puts =
    record { words = words; show = show; puts = subst (λ (t : List ℕ). Puts verdicts.Done t old new v) same puts }

-- where memory was not wanting, the words of the fault are in the buffer
pub fault_means : (b old new : List ℕ) (e : InputFault) (v : Verdict) → InputRefused b e → wants_memory e ≡ false
    → Fills (verdicts.Meant (inner_number e) (place_of_fault e)) (fault_words e) old new v → Means b old new v
fault_means b old new e v refused known fills = inl (record { fault = e; shows = shown_fault b e refused known; fills = fills })

step_back : (step : Step) → step_given (step_numbers step).step (step_numbers step).index (step_numbers step).language ≡ Some step
step_back steps.First = refl
step_back steps.Address = refl
step_back steps.Device = refl
step_back (steps.Header index) = refl
step_back (steps.Set index) = refl
step_back steps.Qualifier = refl
step_back (steps.OtherHeader index) = refl
step_back (steps.OtherSet index) = refl
step_back steps.Languages = refl
step_back (steps.Text language index) = refl
step_back steps.Configure = refl

why_back : (why : Why) → why_in (why_number why) ≡ Some why
why_back reasons.NoAnswer = refl
why_back reasons.Busy = refl
why_back reasons.Stalled = refl
why_back reasons.TooLong = refl
why_back reasons.Unexpected = refl
why_back reasons.Malformed = refl
why_back reasons.Memory = refl

-- a trouble is read back from its numbers
pub troubles_are_reported : TroublesAreReported
troubles_are_reported t = rw (step_back t.step) (rw (why_back t.why) refl)
