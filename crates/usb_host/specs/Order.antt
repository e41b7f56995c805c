-- The order of the reads of an enumeration, and where each leads to (USB 2.0, 9.1.2, 9.4 and 9.6).
use Rattle.std.specs.Prelude.{ℕ, ◌*◌, ◌/◌, ◌%◌, ◌==◌, ◌&&◌, ◌||◌, not, nat_lt, Bool, true, false, if◌then◌else◌, List, [], ◌∷◌, ◌++◌, length, take, slice_index, Option, Some, None}
use Rattle.usb_fields.specs.Units.{units_bytes}
use Rattle.usb_fields.specs.declared.device.DeviceDescriptor.{DeviceDescriptor}
use Rattle.usb_fields.specs.declared.qualifier.Qualifier.{Qualifier}
use Rattle.usb_set.specs.declared.tree.SetKind.{SetKind}
use Rattle.usb_set.specs.declared.tree.SetKind.TheVariants as kinds
use Rattle.usb_set.specs.declared.tree.Configuration.{Configuration}
use Rattle.usb_set.specs.Descriptors.{type_number}
use Rattle.usb_file_data.specs.declared.file.DescriptorFile.{DescriptorFile}
use Rattle.usb_file_data.specs.declared.file.Other.{Other}
use Rattle.usb_file_data.specs.declared.file.Strings.{Strings}
use Rattle.usb_file_data.specs.File.{named_indices, other_sets}
use Rattle.usb_file_data.specs.Front.{with_set, with_qualifier, with_strings}
use Rattle.usb_host.specs.declared.choice.NamedStrings.{NamedStrings}
use Rattle.usb_host.specs.declared.choice.Terms.{Terms}
use Rattle.usb_host.specs.Terms.{forgives_any, is_asked}
use Rattle.usb_host.specs.declared.why.Why.{Why}
use Rattle.usb_host.specs.declared.why.Why.TheVariants.{Stalled, Malformed}
use Rattle.usb_host.specs.declared.reply.Reply.{Reply}
use Rattle.usb_host.specs.declared.reply.Reply.TheVariants.{Bytes, Done, Refused}
use Rattle.usb_host.specs.Plan.{Plan, Begin, Success, GivesUp}
use Rattle.usb_host.specs.declared.step.Step.{Step}
use Rattle.usb_host.specs.declared.step.Step.TheVariants as steps
use Rattle.usb_host.specs.declared.step.Trouble.{Trouble}
use Rattle.usb_host.specs.Place.{Place, First, Address, Device, Header, Set, Qualifier as SecondSpeed, Languages, Text, Configure, Reported, Stopped}
use Rattle.usb_host.specs.Read.{get_descriptor, set_address, set_configuration, same_bytes, device_of, qualifier_of, units_of, is_first, may_have_second, total_in}

-- bNumConfigurations of the other speed, if there is one (9.6.2)
abbrev pub other_declared : Option Other → ℕ
other_declared None = 0
other_declared (Some o) = o.qualifier.configurations

-- how many sets of this kind the device declares
abbrev pub declared_sets : SetKind → DescriptorFile → ℕ
declared_sets kinds.Configuration f = f.device.configurations
declared_sets kinds.OtherSpeed f = other_declared f.other

-- the sets of this kind so far
abbrev pub sets_of : SetKind → DescriptorFile → List Configuration
sets_of kinds.Configuration f = f.sets
sets_of kinds.OtherSpeed f = other_sets f.other

-- bConfigurationValue of the first set
abbrev pub first_value : List Configuration → ℕ
first_value [] = 0
first_value (c ∷ cs) = c.value

-- whether a first set of the device can't be selected: its value is 0 (9.4.7)
abbrev pub is_first_zero : SetKind → List Configuration → Configuration → Bool
is_first_zero kinds.Configuration [] c = c.value == 0
is_first_zero kinds.Configuration (d ∷ ds) c = false
is_first_zero kinds.OtherSpeed sets c = false

-- the string after k strings: language by language, each named index in turn
abbrev pub index_due : List ℕ → ℕ → ℕ
index_due named k = slice_index named (k % length named)

-- the language of the string after k strings
abbrev pub language_due : List ℕ → List ℕ → ℕ → ℕ
language_due languages named k = slice_index languages (k / length named)

-- the step of the header of a set of this kind, by its index
abbrev pub header_step : SetKind → ℕ → Step
header_step kinds.Configuration i = steps.Header i
header_step kinds.OtherSpeed i = steps.OtherHeader i

-- the step of a set of this kind, by its index
abbrev pub set_step : SetKind → ℕ → Step
set_step kinds.Configuration i = steps.Set i
set_step kinds.OtherSpeed i = steps.OtherSet i

-- the current step at a place; after the end the last one
abbrev pub step_of : Place → Step
step_of First = steps.First
step_of (Address first) = steps.Address
step_of (Device first) = steps.Device
step_of (Header kind f) = header_step kind (length (sets_of kind f))
step_of (Set kind f total) = set_step kind (length (sets_of kind f))
step_of (SecondSpeed f) = steps.Qualifier
step_of (Languages f named) = steps.Languages
step_of (Text f s named) = steps.Text (language_due s.languages named (length s.texts)) (index_due named (length s.texts))
step_of (Configure f) = steps.Configure
step_of (Reported f) = steps.Configure
step_of (Stopped trouble) = trouble.step

-- the end at a place, for a reason
abbrev pub stopped : Place → Why → Place
stopped place why = Stopped (record { step = step_of place; why = why })

-- the transfer that a place asks for, where the device gets this address
abbrev pub asks : ℕ → Place → Plan
asks address First = Begin 0 8 (get_descriptor 1 0 0 8)
asks address (Address first) = Begin 0 (slice_index first 7) (set_address address)
asks address (Device first) = Begin address (slice_index first 7) (get_descriptor 1 0 0 18)
asks address (Header kind f) = Begin address f.device.packet (get_descriptor (type_number kind) (length (sets_of kind f)) 0 9)
asks address (Set kind f total) = Begin address f.device.packet (get_descriptor (type_number kind) (length (sets_of kind f)) 0 total)
asks address (SecondSpeed f) = Begin address f.device.packet (get_descriptor 6 0 0 10)
asks address (Languages f named) = Begin address f.device.packet (get_descriptor 3 0 0 255)
asks address (Text f s named) =
    Begin address f.device.packet
    (get_descriptor 3 (index_due named (length s.texts)) (language_due s.languages named (length s.texts)) 255)
asks address (Configure f) = Begin address f.device.packet (set_configuration (first_value f.sets))
asks address (Reported f) = Success
asks address (Stopped trouble) = GivesUp trouble.why

-- the next string, or the configuration once all are there
abbrev pub texts_due : DescriptorFile → Strings → List ℕ → Place
texts_due f s named =
    if nat_lt (length s.texts) (length s.languages * length named) then Text f s named else Configure (with_strings s f)

-- the strings, if they are asked for and an index is named
abbrev pub strings_due : Terms → DescriptorFile → Place
strings_due terms f =
    if not (is_asked terms.choice.strings) || (length (named_indices f) == 0) then Configure f else Languages f (named_indices f)

-- after all sets of a kind: the other speed, if it is asked for and there may be one
abbrev pub after_sets : Terms → SetKind → DescriptorFile → Place
after_sets terms kinds.Configuration f =
    if terms.choice.other_speed && may_have_second terms.speed f.device then SecondSpeed f else strings_due terms f
after_sets terms kinds.OtherSpeed f = strings_due terms f

-- the next set of a kind, or what comes after them
abbrev pub sets_due : Terms → SetKind → DescriptorFile → Place
sets_due terms kind f = if nat_lt (length (sets_of kind f)) (declared_sets kind f) then Header kind f else after_sets terms kind f

-- after the device descriptor, which begins with the bytes that were read first and declares a configuration
abbrev pub device_leads : Terms → Place → List ℕ → List ℕ → Option DeviceDescriptor → Place
device_leads terms place first b None = stopped place Malformed
device_leads terms place first b (Some d) =
    if same_bytes (take 8 b) first && not (d.configurations == 0)
    then sets_due terms kinds.Configuration (record { device = d; sets = []; other = None; strings = None })
    else stopped place Malformed

-- after the header of a set
abbrev pub header_leads : Place → SetKind → DescriptorFile → Option ℕ → Place
header_leads place kind f None = stopped place Malformed
header_leads place kind f (Some total) = Set kind f total

-- after a set of this many bytes: just those that its header announced, of its kind, and the first one can be selected
abbrev pub set_leads : Terms → Place → SetKind → DescriptorFile → ℕ → ℕ → Option Configuration → Place
set_leads terms place kind f total count None = stopped place Malformed
set_leads terms place kind f total count (Some c) =
    if (count == total) && (type_number c.kind == type_number kind) && not (is_first_zero kind (sets_of kind f) c)
    then sets_due terms kind (with_set kind c f)
    else stopped place Malformed

-- after the qualifier
abbrev pub qualifier_leads : Terms → Place → DescriptorFile → Option Qualifier → Place
qualifier_leads terms place f None = stopped place Malformed
qualifier_leads terms place f (Some q) = sets_due terms kinds.OtherSpeed (with_qualifier q f)

-- after the language list, which has a language
abbrev pub languages_lead : Place → DescriptorFile → List ℕ → Option (List ℕ) → Place
languages_lead place f named None = stopped place Malformed
languages_lead place f named (Some []) = stopped place Malformed
languages_lead place f named (Some (l ∷ ls)) = texts_due f (record { languages = l ∷ ls; texts = [] }) named

-- after a string
abbrev pub text_leads : Place → DescriptorFile → Strings → List ℕ → Option (List ℕ) → Place
text_leads place f s named None = stopped place Malformed
text_leads place f s named (Some u) = texts_due f (record s { texts = s.texts ++ u ∷ [] }) named

-- Where the bytes of a read lead to that has completed. A set goes another way: its bytes go to a decoder.
abbrev pub bytes_lead : Terms → Place → List ℕ → Place
bytes_lead terms First b = if is_first terms.speed b then Address b else stopped First Malformed
bytes_lead terms (Device first) b = device_leads terms (Device first) first b (device_of b)
bytes_lead terms (Header kind f) b = header_leads (Header kind f) kind f (total_in (type_number kind) b)
bytes_lead terms (SecondSpeed f) b = qualifier_leads terms (SecondSpeed f) f (qualifier_of b)
bytes_lead terms (Languages f named) b = languages_lead (Languages f named) f named (units_of b)
bytes_lead terms (Text f s named) b = text_leads (Text f s named) f s named (units_of b)
bytes_lead terms place b = stopped place Malformed

-- where a request without data leads to that was carried out
abbrev pub done_leads : Place → Place
done_leads (Address first) = Device first
done_leads (Configure f) = Reported f
done_leads place = stopped place Malformed

-- where a request leads to that was refused: a device without a second speed refuses to give a qualifier (9.6.2)
abbrev pub refused_leads : Terms → Place → Place
refused_leads terms (SecondSpeed f) = strings_due terms f
refused_leads terms place = stopped place Stalled

-- Strings that may be missing.

-- whether strings are read at a place
abbrev pub is_of_strings : Place → Bool
is_of_strings (Languages f named) = true
is_of_strings (Text f s named) = true
is_of_strings place = false

-- whether a device gave no string, and nothing else is wrong: it refused it, or gave what is none
abbrev pub lacks_string : Why → Bool
lacks_string Stalled = true
lacks_string Malformed = true
lacks_string why = false

-- whether trouble at a place is passed over
abbrev pub forgives : NamedStrings → Place → Why → Bool
forgives texts here why = forgives_any texts && (is_of_strings here && lacks_string why)

-- Where the enumeration goes on then, with a stand-in for what was asked for: of the language list 0x0409, English (United
-- States) alone, and of a string the empty one.
abbrev pub stand_in : Place → Place
stand_in (Languages f named) = texts_due f (record { languages = 0x0409 ∷ []; texts = [] }) named
stand_in (Text f s named) = texts_due f (record s { texts = s.texts ++ [] ∷ [] }) named
stand_in place = place

-- the bytes of the stand-in
abbrev pub stand_in_bytes : Place → List ℕ
stand_in_bytes (Languages f named) = units_bytes (0x0409 ∷ [])
stand_in_bytes (Text f s named) = units_bytes []
stand_in_bytes place = []

-- whether a read here, which leads there, ends without a string and with nothing else that is wrong
abbrev pub ends_lacking : Place → Place → Bool
ends_lacking here (Stopped trouble) = is_of_strings here && lacks_string trouble.why
ends_lacking here there = false

-- whether that is passed over
abbrev pub is_spared : NamedStrings → Place → Place → Bool
is_spared texts here there = forgives_any texts && ends_lacking here there

-- where it leads to then
abbrev pub spared : NamedStrings → Place → Place → Place
spared texts here there = if is_spared texts here there then stand_in here else there

-- the trouble that is passed over, if there is any
abbrev pub forgiven_by : NamedStrings → Place → Place → List Trouble
forgiven_by texts here (Stopped trouble) =
    if is_spared texts here (Stopped trouble) then (record { step = step_of here; why = trouble.why }) ∷ [] else []
forgiven_by texts here there = []

-- the bytes that count, of those that came
abbrev pub counted : NamedStrings → Place → Place → List ℕ → List ℕ
counted texts here there b = if is_spared texts here there then stand_in_bytes here else b

-- Where a reply leads to, for a reader of sets, before anything is passed over. After the end nothing moves.
abbrev pub leads : (List ℕ → Option Configuration) → Terms → Place → Reply → Place
leads set_of terms (Reported f) reply = Reported f
leads set_of terms (Stopped trouble) reply = Stopped trouble
leads set_of terms (Set kind f total) (Bytes b) = set_leads terms (Set kind f total) kind f total (length b) (set_of b)
leads set_of terms place (Bytes b) = bytes_lead terms place b
leads set_of terms place Done = done_leads place
leads set_of terms place Refused = refused_leads terms place

-- where a reply leads to
abbrev pub next : (List ℕ → Option Configuration) → Terms → Place → Reply → Place
next set_of terms place reply = spared terms.choice.strings place (leads set_of terms place reply)
