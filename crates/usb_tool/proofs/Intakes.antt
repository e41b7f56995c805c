-- On what is kept of an input while it is read.
use Rattle.std.proofs.Common.{◌≡◌, ◌≢◌, ℕ, ◌+◌, ◌<◌, ◌≤◌, ◌⊎◌, true, List, ◌++◌, length, take, Option, Some, None, Result, Ok, Err, sym, ap, ◌∙◌, subst, inl, inr}
use Rattle.std.proofs.KnownBytes.{Consumes-trans}
use Rattle.std.specs.Prelude.{IfErr, IsErrAnd, unwrap_or}
use Rattle.std.specs.Io.KnownBytes.{Consumes}
use Rattle.usb_set.specs.declared.fault.SetFault.{SetFault}
use Rattle.usb_set.specs.declared.fault.SetWhy.{SetWhy}
use Rattle.usb_set.specs.declared.fault.SetWhy.TheVariants as whys
use Rattle.usb_set.specs.Decoding.{Decoding, gathers, has, refused, Answers, Finishes, WantsMemory}
use Rattle.usb_set.specs.declared.tree.Configuration.{Configuration}
use Rattle.usb_set.specs.Faults.{Begins, Faulty}
use Rattle.usb_set.specs.Layout.{Layout}
use Rattle.usb_set.proofs.Sound.{Faulty-more}
use Rattle.usb_file.proofs.Inputs.{begins_whole, front_of}
use Rattle.usb_file_data.specs.Inputs.{GoesOn, HasFault, is_one_set}
use Rattle.usb_tool.specs.Faults.{fault_by_why, fault_of_set}
use Rattle.usb_tool.specs.Endings.{Left, ReadFails, ReadsSome}
use Rattle.usb_tool.specs.Inputs.{SetOrFileShows}
use Rattle.usb_tool.specs.inside.Intake.{Fed, IsIntake, ReadsSoFar, StopsEarly}
use Rattle.usb_tool.specs.inside.Taking.{IsNone}
use Rattle.usb_tool.specs.declared.intake.Intake.{Intake}
use Rattle.usb_tool.specs.declared.fault.ToolFault.{ToolFault}
use Rattle.usb_tool.specs.declared.fault.ToolFault.TheVariants as faults
use Rattle.usb_tool.proofs.Reading.{counted_more}

not_for_memory : (s piece : List ℕ) (fault : SetFault) → WantsMemory s piece fault ⊎ Faulty (s ++ piece) fault.at fault.why
    → fault.why ≢ whys.Memory → Faulty (s ++ piece) fault.at fault.why
not_for_memory s piece fault (inl wants) known = absurd (known wants.why)
not_for_memory s piece fault (inr shown) known = shown

-- a decoder that refuses the next piece, and is not out of memory
pub fed_fault : (old new : Decoding) (piece : List ℕ) (fault : SetFault) (end : Option ℕ) (b : List ℕ)
    → Answers old piece (Err fault) new → fault.why ≢ whys.Memory → Fed old end b → Fed new end (b ++ piece)
fed_fault (gathers s) new piece fault None b answer known fed =
    subst (λ (d : Decoding). Fed d None (b ++ piece)) (sym answer.0)
    (subst (λ (z : List ℕ). Faulty (z ++ piece) fault.at fault.why) fed.0 (not_for_memory s piece fault answer.1 known))
fed_fault (gathers s) new piece fault (Some end) b answer known fed = elim fed [ ]
fed_fault (has c) new piece fault (Some end) b (clash, _) known fed = cc
fed_fault (has c) new piece fault None b answer known fed = elim fed [ ]
fed_fault (refused first) new piece fault None b answer known fed =
    subst (λ (d : Decoding). Fed d None (b ++ piece)) (sym answer.1) (Faulty-more b piece first.at first.why fed)
fed_fault (refused first) new piece fault (Some end) b answer known fed = elim fed [ ]

no_set_by : (b : List ℕ) (why : SetWhy) (e : SetFault) → is_one_set b ≡ true → HasFault b e → IsNone SetOrFileShows b (fault_by_why why e)
no_set_by b whys.Memory e one f = tt
no_set_by b whys.HeaderLength e one f = (one, f)
no_set_by b whys.HeaderKind e one f = (one, f)
no_set_by b whys.Total e one f = (one, f)
no_set_by b whys.ItemLength e one f = (one, f)
no_set_by b whys.Over e one f = (one, f)
no_set_by b whys.Nested e one f = (one, f)
no_set_by b whys.ItemShort e one f = (one, f)
no_set_by b whys.Stray e one f = (one, f)
no_set_by b whys.Truncated e one f = (one, f)

-- a decoder that has no set at the end
pub ends_in_fault : (decoder : Decoding) (end : Option ℕ) (e : SetFault) (b : List ℕ)
    → Finishes decoder (Err e) → Fed decoder end b → is_one_set b ≡ true → IsNone SetOrFileShows b (fault_of_set e)
ends_in_fault (gathers s) None e b h fed one =
    let is : e ≡ record { at = length b; why = whys.Truncated } = cc (ap length fed.0) in
    no_set_by b e.why e one (inr (is, fed.1))
ends_in_fault (gathers s) (Some end) e b h fed one = elim fed [ ]
ends_in_fault (has c) (Some end) e b h fed one = cc
ends_in_fault (has c) None e b h fed one = elim fed [ ]
ends_in_fault (refused first) None e b h fed one =
    let is : first ≡ e = cc in
    no_set_by b e.why e one (inl (subst (λ (f : SetFault). Faulty b f.at f.why) is fed))
ends_in_fault (refused first) (Some end) e b h fed one = elim fed [ ]

-- a decoder that has a set, which ended before the bytes did
pub goes_on_after : (decoder : Decoding) (end : Option ℕ) (n : ℕ) (set : Configuration) (b : List ℕ)
    → Finishes decoder (Ok set) → Fed decoder end b → n ≡ unwrap_or end (length b) → n < length b → GoesOn b n
goes_on_after (gathers s) None n set b h fed is more = cc
goes_on_after (gathers s) (Some end) n set b h fed is more = elim fed [ ]
goes_on_after (has c) None n set b h fed is more = elim fed [ ]
goes_on_after (has c) (Some end) n set b h fed is more =
    let begins = subst (Begins b c) (sym is) fed in
    record { set = c; layout = subst (Layout c) (front_of begins) begins.layout; more = more }
goes_on_after (refused first) None n set b h fed is more = cc
goes_on_after (refused first) (Some end) n set b h fed is more = elim fed [ ]

-- a decoder that has a set, which did not end before the bytes did
pub is_whole_set : (decoder : Decoding) (end : Option ℕ) (n : ℕ) (set : Configuration) (b : List ℕ)
    → Finishes decoder (Ok set) → Fed decoder end b → n ≡ unwrap_or end (length b) → length b ≤ n → Layout set b
is_whole_set (gathers s) None n set b h fed is all = cc
is_whole_set (gathers s) (Some end) n set b h fed is all = elim fed [ ]
is_whole_set (has c) None n set b h fed is all = elim fed [ ]
is_whole_set (has c) (Some end) n set b h fed is all =
    let same : c ≡ set = cc in
    subst (λ (d : Configuration). Layout d b) same (begins_whole b c n (subst (Begins b c) (sym is) fed) all)
is_whole_set (refused first) None n set b h fed is all = cc
is_whole_set (refused first) (Some end) n set b h fed is all = elim fed [ ]

-- reading that is cut short by a failed read, or out of memory
pub stops_early : {T : Type 0} (r : Result T ToolFault) (e : ToolFault) (limit : ℕ) (from to : Left)
    → IsErrAnd r (λ fault. fault ≡ e) → (e ≡ faults.Read) ⊎ (e ≡ faults.Memory) → ReadsSome limit from to → IfErr r (StopsEarly limit from to)
stops_early (Ok v) e limit from to h why some = tt
stops_early (Err fault) e limit from to h (inl read) some = subst (StopsEarly limit from to) (sym (h ∙ read)) some
stops_early (Err fault) e limit from to h (inr memory) some = subst (StopsEarly limit from to) (sym (h ∙ memory)) some

-- reading goes on after a part of a buffer was read
pub reads_on : (a b c : Left) (old new : Intake) (count read : ℕ) (buf : List ℕ) (so_far : ReadsSoFar a b old count)
    → Consumes b c (take read buf) → read ≤ length buf → IsIntake new (so_far.bytes ++ take read buf) → ReadsSoFar a c new (count + read)
reads_on a b c old new count read buf so_far taken le kept = record {
  bytes = so_far.bytes ++ take read buf;
  read = Consumes-trans a b c so_far.bytes (take read buf) so_far.read taken;
  counted = counted_more so_far.bytes buf count read so_far.counted le;
  kept = kept;
}

-- reading that is cut short out of memory
pub stops_reading : {T : Type 0} (r : Result T ToolFault) (e : ToolFault) (limit : ℕ) (from to : Left)
    → IsErrAnd r (λ fault. fault ≡ e) → e ≡ faults.Memory → ReadsSome limit from to → IfErr r (ReadFails limit from to)
stops_reading (Ok v) e limit from to h memory some = tt
stops_reading (Err fault) e limit from to h memory some = subst (ReadFails limit from to) (sym (h ∙ memory)) some
