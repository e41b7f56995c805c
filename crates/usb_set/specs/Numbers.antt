-- The numbers of faults, and their messages.
use Rattle.std.specs.Prelude.{ℕ, ◌-◌, List, [], ◌++◌, codes, get_or, map}
use Rattle.std.specs.Fmt.{decimal}
use Rattle.usb_fields.specs.Numbers.{number_in}
use Rattle.usb_set.specs.declared.fault.SetFault.{SetFault}
use Rattle.usb_set.specs.declared.fault.SetWhy.{SetWhy}
use Rattle.usb_set.specs.contracts.fault.SetWhy.{the_type as set_whys}
use Rattle.usb_set.specs.declared.fault.TheConstants.{ENCODE_MESSAGES, SET_MESSAGES}
use Rattle.usb_set.specs.declared.fault.EncodeFault.{EncodeFault}
use Rattle.usb_set.specs.contracts.fault.EncodeFault.{the_type as encode_faults}

-- the number of a fault of bytes
abbrev pub why_number : SetWhy → ℕ
why_number why = number_in set_whys why

-- the message of a fault of bytes, for people
abbrev pub why_message : SetWhy → List ℕ
why_message why = get_or (map (λ message. message.now) SET_MESSAGES) (why_number why - 1) []

-- the message of a fault with its place
abbrev pub fault_message : SetFault → List ℕ
fault_message fault = why_message fault.why ++ codes " at " ++ decimal fault.at

-- the number of a refusal to write
abbrev pub encode_number : EncodeFault → ℕ
encode_number fault = number_in encode_faults fault

-- the message of a refusal to write, for people
abbrev pub encode_message : EncodeFault → List ℕ
encode_message fault = get_or (map (λ message. message.now) ENCODE_MESSAGES) (encode_number fault - 1) []
