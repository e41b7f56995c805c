-- What calls do to a host that C holds, or to none, and its outcome.
use Rattle.std.specs.Prelude.{◌≡◌, ℕ, ◌⊎◌, ◌==◌, if◌then◌else◌, List, Option, Some, None, Result, Ok, Err, Bool, true, false, slice_get}
use Rattle.std.specs.Option.{option_map}
use Rattle.usb_file_data.specs.File.{File, write_refusal}
use Rattle.usb_file_data.specs.declared.refusal.WriteFault.{WriteFault}
use Rattle.usb_file_data.specs.declared.refusal.WriteFault.TheVariants as writes
use Rattle.usb_file_data.specs.declared.file.DescriptorFile.{DescriptorFile}
use Rattle.usb_host.specs.Why.{why_number}
use Rattle.usb_host.specs.declared.choice.Choice.{Choice}
use Rattle.usb_host.specs.declared.choice.NamedStrings.{NamedStrings}
use Rattle.usb_host.specs.declared.choice.NamedStrings.TheVariants as texts
use Rattle.usb_host.specs.declared.step.Step.{Step}
use Rattle.usb_host.specs.declared.step.Step.TheVariants as steps
use Rattle.usb_host.specs.declared.step.Trouble.{Trouble}
use Rattle.usb_c.specs.declared.answer.Verdict.{Verdict}
use Rattle.usb_c.specs.declared.answer.Verdict.TheVariants as verdicts
use Rattle.usb_c.specs.declared.outcome.StepNumbers.{StepNumbers}
use Rattle.usb_c.specs.declared.outcome.NzgTrouble.{NzgTrouble}
use Rattle.usb_c.specs.declared.step.NzgStep.{NzgStep}
use Rattle.usb_c.specs.Answers.{Fills}
use Rattle.usb_fields.specs.Packets.{Reply}
use Rattle.usb_fields.specs.declared.packet.Speed.{Speed}
use Rattle.usb_host.specs.Limits.{limit_fault, limit_fault_number}
use Rattle.usb_host.specs.declared.limits.LimitFault.{LimitFault}
use Rattle.usb_fields.specs.Setup.{setup_bytes}
use Rattle.usb_host.specs.Order.{step_of}
use Rattle.usb_host.specs.Steps.{HostPhase, HostView, ResetDue, Reading, Ended, Takes, Wanted, WantsNothing, WantsReset, WantsSent, chosen_host, outcome_of}
use Rattle.usb_host.specs.Terms.{IsUnread, everything}
use Rattle.usb_host.specs.Transfer.{TransferView}
use Rattle.usb_c.specs.declared.transaction.NzgTransaction.{NzgTransaction}
use Rattle.usb_c.specs.Transactions.{transaction_of}

-- The outcome of a host.

abbrev pub numbered : ℕ → ℕ → ℕ → StepNumbers
numbered step index language = record { step = step; index = index; language = language }

-- a step by its number, with the index and the language of what is read
abbrev pub step_numbers : Step → StepNumbers
step_numbers steps.First = numbered 1 0 0
step_numbers steps.Address = numbered 2 0 0
step_numbers steps.Device = numbered 3 0 0
step_numbers (steps.Header index) = numbered 4 index 0
step_numbers (steps.Set index) = numbered 5 index 0
step_numbers steps.Qualifier = numbered 6 0 0
step_numbers (steps.OtherHeader index) = numbered 7 index 0
step_numbers (steps.OtherSet index) = numbered 8 index 0
step_numbers steps.Languages = numbered 9 0 0
step_numbers (steps.Text language index) = numbered 10 index language
step_numbers steps.Configure = numbered 11 0 0

abbrev pub trouble_numbers : Trouble → NzgTrouble
trouble_numbers t =
    record { why = why_number t.why; step = (step_numbers t.step).step; index = (step_numbers t.step).index; language = (step_numbers t.step).language }

-- the bytes of the file are in the buffer
pub record PutsFile (f : DescriptorFile) (old new : List ℕ) (verdict : Verdict) : Type 0 where
  pub bytes : List ℕ
  pub file : File f bytes
  pub fills : Fills verdicts.Done bytes old new verdict

-- or those of what was read without the strings that it names, which were not asked for
pub record PutsUnread (f : DescriptorFile) (old new : List ℕ) (verdict : Verdict) : Type 0 where
  pub bytes : List ℕ
  pub names : write_refusal f ≡ Some writes.Texts
  pub unread : IsUnread f bytes
  pub fills : Fills verdicts.Done bytes old new verdict

-- or there are none, and this is why; or out of memory
abbrev pub TellsFile : DescriptorFile → List ℕ → List ℕ → Verdict → Type 0
TellsFile f old new verdict =
    PutsFile f old new verdict
    ⊎ (PutsUnread f old new verdict
    ⊎ (((why : WriteFault) × (verdict ≡ verdicts.Unwritten why) × (write_refusal f ≡ Some why) × (new ≡ old))
    ⊎ ((verdict ≡ verdicts.NoMemory) × (new ≡ old))))

-- the outcome: none yet, or the file, or the trouble. What isn't reported stays.
abbrev pub EndsWith : Option (Result DescriptorFile Trouble) → NzgTrouble → NzgTrouble → List ℕ → List ℕ → Verdict → Type 0
EndsWith None report now old new verdict = (verdict ≡ verdicts.Open 0) × (now ≡ report) × (new ≡ old)
EndsWith (Some (Ok f)) report now old new verdict = TellsFile f old new verdict × (now ≡ report)
EndsWith (Some (Err trouble)) report now old new verdict =
    (verdict ≡ verdicts.Trouble trouble) × (now ≡ trouble_numbers trouble) × (new ≡ old)

-- What calls do to a host that C holds, or to none.

-- what becomes of the strings that are named, by its number
abbrev pub strings_given : ℕ → Option NamedStrings
strings_given number =
    if number == 0 then Some texts.Needed else if number == 1 then Some texts.Wanted else if number == 2 then Some texts.Skipped else None

-- what is asked for
abbrev pub choice_given : ℕ → Bool → Option Choice
choice_given number other_speed = option_map (λ strings. record { strings = strings; other_speed = other_speed }) (strings_given number)

-- limits that are refused, or a new host with these limits that asks for so much, or out of memory
abbrev pub HostOpensAt : ℕ → ℕ → ℕ → Speed → Choice → Option HostView → Verdict → Type 0
HostOpensAt address naks attempts speed choice new (verdicts.Done length) =
    (length ≡ 0) × (limit_fault address attempts ≡ None)
    × (new ≡ Some (chosen_host (record { address = address; naks = naks; attempts = attempts }) speed choice))
HostOpensAt address naks attempts speed choice new (verdicts.BadArgument number) =
    ((fault : LimitFault) × (limit_fault address attempts ≡ Some fault) × (number ≡ limit_fault_number fault)) × (new ≡ None)
HostOpensAt address naks attempts speed choice new verdicts.NoMemory = new ≡ None
HostOpensAt address naks attempts speed choice new verdict = ⊥

-- a number of the speed, and then one of the strings, that has no meaning is refused first
abbrev pub HostOpensFor : ℕ → ℕ → ℕ → Option Speed → Option Choice → Option HostView → Verdict → Type 0
HostOpensFor address naks attempts None choice new verdict = (verdict ≡ verdicts.BadArgument 3) × (new ≡ None)
HostOpensFor address naks attempts (Some speed) None new verdict = (verdict ≡ verdicts.BadArgument 14) × (new ≡ None)
HostOpensFor address naks attempts (Some speed) (Some choice) new verdict = HostOpensAt address naks attempts speed choice new verdict

-- the same of a host that asks for all of a file
abbrev pub HostOpens : ℕ → ℕ → ℕ → Option Speed → Option HostView → Verdict → Type 0
HostOpens address naks attempts speed new verdict = HostOpensFor address naks attempts speed (Some everything) new verdict

-- what is wanted, as a number
abbrev pub action_number : Option Wanted → ℕ
action_number (Some WantsReset) = 0
action_number (Some (WantsSent sent)) = 1
action_number (Some WantsNothing) = 2
action_number None = 3

-- the transaction that is wanted, or what stood there
abbrev pub transaction_due : Option Wanted → NzgTransaction → NzgTransaction
transaction_due (Some WantsReset) old = old
transaction_due (Some (WantsSent sent)) old = transaction_of sent
transaction_due (Some WantsNothing) old = old
transaction_due None old = old

-- a reply that has a meaning is taken by a host that is held; else nothing changes
abbrev pub TakesOne : Option HostView → Option Reply → Option HostView → Bool → Type 0
TakesOne (Some v) (Some reply) new done = (done ≡ true) × ((w : HostView) × (new ≡ Some w) × Takes v reply w)
TakesOne (Some v) None new done = (done ≡ false) × (new ≡ Some v)
TakesOne None reply new done = (done ≡ false) × (new ≡ None)

-- a step and the transfer of its request, as numbers
abbrev pub asked_numbers : Step → TransferView → NzgStep
asked_numbers step t =
    record {
      naks = t.nak_count;
      kept = t.kept;
      language = (step_numbers step).language;
      step = (step_numbers step).step;
      index = (step_numbers step).index;
      strikes = t.strikes;
      setup = setup_bytes t.request;
    }

-- those of the current step, if there is one
abbrev pub asked_in : HostPhase → Option NzgStep
asked_in ResetDue = None
asked_in (Reading place t kept) = Some (asked_numbers (step_of place) t)
asked_in (Ended place) = None

-- the trouble of this number that was passed over since the last bus reset
abbrev pub forgiven_in : Option HostView → ℕ → Option Trouble
forgiven_in None number = None
forgiven_in (Some v) number = slice_get v.forgiven number

-- the bus resets so far
abbrev pub resets_of : Option HostView → ℕ
resets_of None = 0
resets_of (Some v) = v.resets

-- the outcome of the host that is held, if one is
abbrev pub Ends : Option HostView → NzgTrouble → NzgTrouble → List ℕ → List ℕ → Verdict → Type 0
Ends None report now old new verdict = (verdict ≡ verdicts.Closed) × (now ≡ report) × (new ≡ old)
Ends (Some v) report now old new verdict = EndsWith (outcome_of v.phase) report now old new verdict
