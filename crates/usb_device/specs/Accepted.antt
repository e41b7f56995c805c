-- Which descriptors a device can be made of, at which speed.
use Rattle.std.specs.Prelude.{◌≡◌, ℕ, ◌==◌, ◌||◌, ◌&&◌, nat_lt, Bool, false, not, List, [], ◌∷◌, length, Option, Some, None, is_some, if◌then◌else◌, codes, get_or, map, ◌-◌}
use Rattle.std.specs.List.{list_any}
use Rattle.usb_fields.specs.Numbers.{number_in}
use Rattle.usb_fields.specs.declared.packet.Speed.{Speed}
use Rattle.usb_fields.specs.declared.packet.Speed.TheVariants.{Low, Full, High}
use Rattle.usb_file_data.specs.declared.file.DescriptorFile.{DescriptorFile}
use Rattle.usb_file_data.specs.declared.file.Strings.{Strings}
use Rattle.usb_file_data.specs.File.{has_wrong_count, has_wrong_kind, has_wrong_layout, are_wrong_strings, named_indices}
use Rattle.usb_file_data.specs.declared.finding.Finding.{Finding}
use Rattle.usb_file_data.specs.declared.rule.Rule.{Rule}
use Rattle.usb_file_data.specs.declared.rule.TheConstants.{MESSAGES}
use Rattle.usb_file_data.specs.Numbers.{rule_number, rule_numbered}
use Rattle.usb_file_data.specs.Findings.{findings}
use Rattle.usb_device.specs.declared.acceptance.DescriptionFault.{DescriptionFault}
use Rattle.usb_device.specs.contracts.acceptance.DescriptionFault.{the_type as description_faults}
use Rattle.usb_device.specs.declared.acceptance.DescriptionFault.TheVariants as faults
use Rattle.usb_device.specs.declared.beside.Unanswered.{Unanswered}
use Rattle.usb_device.specs.contracts.beside.Unanswered.{the_type as unanswereds}
use Rattle.usb_device.specs.declared.beside.Unanswered.TheVariants.{Nothing, Closed, Shape, Room}

-- whether the number is in the list
abbrev pub is_among : List ℕ → ℕ → Bool
is_among numbers n = list_any (λ other. other == n) numbers

-- whether a number stands twice in the list
abbrev pub repeats : List ℕ → Bool
repeats [] = false
repeats (n ∷ numbers) = is_among numbers n || repeats numbers

-- whether a language is twice in the language list, so that its second strings could not be asked for (9.6.7)
abbrev pub repeats_language : Option Strings → Bool
repeats_language None = false
repeats_language (Some s) = repeats s.languages

-- whether the sets have no bytes, or are not as many or of the kind that is declared
unfoldable pub has_wrong_sets : DescriptorFile → Bool
has_wrong_sets f = has_wrong_count f || has_wrong_kind f || has_wrong_layout f

-- whether the strings are not those that the file names, or are not distinct
unfoldable pub has_wrong_strings : DescriptorFile → Bool
has_wrong_strings f = are_wrong_strings (length (named_indices f)) f.strings || repeats_language f.strings

-- whether a device with these descriptors can't run at the speed: endpoint zero has packets of 8 bytes at low speed
-- and of 64 at high speed, and a low-speed device has no second speed (5.5.3 and 9.6.1)
abbrev pub has_other_packets : DescriptorFile → Speed → Bool
has_other_packets f Low = not (f.device.packet == 8) || is_some f.other
has_other_packets f Full = false
has_other_packets f High = not (f.device.packet == 64)

-- whether there is a second speed in a release of the standard that has none: bcdUSB is below 2.00 (9.6.2)
abbrev pub has_early_second_speed : DescriptorFile → Bool
has_early_second_speed f = is_some f.other && nat_lt f.device.usb 0x0200

-- whether the speed and the descriptors contradict each other
abbrev pub has_wrong_speed : DescriptorFile → Speed → Bool
has_wrong_speed f s = has_other_packets f s || has_early_second_speed f

-- The descriptors are accepted at the speed: they have bytes, no rule is broken, each string can be asked for, and a
-- device of this speed can have them.
pub record Accepted (f : DescriptorFile) (s : Speed) : Type 0 where
  pub sets : has_wrong_sets f ≡ false
  pub rules : findings f ≡ []
  pub strings : has_wrong_strings f ≡ false
  pub speed : has_wrong_speed f s ≡ false

-- the first finding, or else what is wrong with the strings or the speed
abbrev pub later_refusal : List Finding → DescriptorFile → Speed → Option DescriptionFault
later_refusal (first ∷ more) f s = Some (faults.Finding first)
later_refusal [] f s =
    if has_wrong_strings f then Some faults.Texts
    else if has_wrong_speed f s then Some faults.Speed
    else None

-- the first reason why a device can't be made of the descriptors
abbrev pub refusal_of : DescriptorFile → Speed → Option DescriptionFault
refusal_of f s = if has_wrong_sets f then Some faults.Unwritable else later_refusal (findings f) f s

-- *Out of memory* is reported only of descriptors whose sets have bytes, since the rules are looked through after that, and
-- else the first reason.
abbrev pub Refuses : DescriptorFile → Speed → DescriptionFault → Type 0
Refuses f s faults.Memory = has_wrong_sets f ≡ false
Refuses f s fault = refusal_of f s ≡ Some fault

-- the number of a refusal
abbrev pub fault_number : DescriptionFault → ℕ
fault_number fault = number_in description_faults fault

-- what breaks a rule, if it is one
abbrev pub broken_words : Option Rule → List ℕ
broken_words None = []
broken_words (Some rule) = get_or (map (λ message. message.now) MESSAGES) (rule_number rule - 1) []

-- the message of a refusal, for people; of a finding what breaks its rule
abbrev pub fault_message : DescriptionFault → List ℕ
fault_message (faults.Finding finding) = broken_words (rule_numbered finding.rule)
fault_message faults.Texts = codes "the strings are not those that the file names, or a language stands twice"
fault_message faults.Speed = codes "no device of this speed has such descriptors"
fault_message faults.Memory = codes "out of memory"
fault_message faults.Unwritable = codes "a set has no bytes, or the sets are not as declared"

-- The number of a fault, and its message.

-- the number of the reason why an answer is not taken
abbrev pub unanswered_number : Unanswered → ℕ
unanswered_number why = number_in unanswereds why

-- its message, for people
abbrev pub unanswered_message : Unanswered → List ℕ
unanswered_message Nothing = codes "no request waits for an answer"
unanswered_message Closed = codes "the request is the device's own"
unanswered_message Shape = codes "the request asks for no such data stage"
unanswered_message Room = codes "more bytes than the device keeps"
