-- Why a transfer or an enumeration ended without success, and the words for its steps.
use Rattle.std.specs.Prelude.{ℕ, List, codes, ◌/◌, ◌%◌, [], ◌∷◌, ◌++◌, false}
use Rattle.usb_host.specs.declared.why.Why.{Why}
use Rattle.usb_host.specs.contracts.why.Why.{the_type as whys}
use Rattle.usb_host.specs.declared.why.Why.TheVariants.{NoAnswer, Busy, Stalled, TooLong, Unexpected, Malformed, Memory}
use Rattle.std.specs.Fmt.{decimal, digit_glyph}
use Rattle.usb_fields.specs.Numbers.{number_in}
use Rattle.usb_host.specs.declared.step.Step.{Step}
use Rattle.usb_host.specs.declared.step.Step.TheVariants as steps
use Rattle.usb_host.specs.declared.step.Trouble.{Trouble}

-- Why a transfer or an enumeration ended without success.

-- the number of a reason
abbrev pub why_number : Why → ℕ
why_number why = number_in whys why

-- the message of a reason, for people
abbrev pub why_message : Why → List ℕ
why_message NoAnswer = codes "no answer, three times in a row"
why_message Busy = codes "busy for longer than the limit"
why_message Stalled = codes "the device stalled the request"
why_message TooLong = codes "more bytes than were asked for"
why_message Unexpected = codes "an answer that cannot follow"
why_message Malformed = codes "not what was asked for"
why_message Memory = codes "out of memory"

-- The words for the steps of an enumeration.

-- a number of one byte in two lower-case hexadecimal digits
abbrev pub two_digits : ℕ → List ℕ
two_digits n = digit_glyph false (n / 16) ∷ digit_glyph false (n % 16) ∷ []

-- a number of two bytes in four
abbrev pub four_digits : ℕ → List ℕ
four_digits n = two_digits (n / 256) ++ two_digits (n % 256)

-- A word, with the set's index in decimal where the step has one, and of a string its language and its index in
-- hexadecimal.
abbrev pub step_text : Step → List ℕ
step_text steps.First = codes "first"
step_text steps.Address = codes "address"
step_text steps.Device = codes "device"
step_text (steps.Header index) = codes "header " ++ decimal index
step_text (steps.Set index) = codes "set " ++ decimal index
step_text steps.Qualifier = codes "qualifier"
step_text (steps.OtherHeader index) = codes "other_header " ++ decimal index
step_text (steps.OtherSet index) = codes "other_set " ++ decimal index
step_text steps.Languages = codes "languages"
step_text (steps.Text language index) = codes "text " ++ four_digits language ++ codes " " ++ two_digits index
step_text steps.Configure = codes "configure"

-- why an enumeration ended, and at which step, for people
abbrev pub trouble_message : Trouble → List ℕ
trouble_message trouble = why_message trouble.why ++ codes ", at step " ++ step_text trouble.step
