-- What the bytes of a field say, by the form of its number.
use Rattle.std.specs.Prelude.{ℕ, ◌+◌, ◌-◌, ◌*◌, List, [], ◌∷◌, slice_index}
use Rattle.usb_names.specs.declared.field.Form.{Form}
use Rattle.usb_names.specs.declared.field.Form.TheVariants as forms
use Rattle.usb_names.specs.Bits.{abstract_control_bits, call_management_bits, firmware_upgrade_bits}
use Rattle.usb_names.specs.Terminals.{audio_terminals, video_terminals}
use Rattle.usb_text.specs.Shown.{Shown, Bytes, Number}
use Rattle.usb_remarks.specs.declared.speed.SetSpeed.{SetSpeed}
use Rattle.usb_explain.specs.Endpoints.{address_value, interval_value, packet_value, power_value, release_value, size_value}
use Rattle.usb_explain.specs.Names.{bits_field, class_field, function_class_field, guid_shown, protocol_field, subclass_field, terminal_shown}
use Rattle.usb_explain.specs.Speeds.{frame_interval}
use Rattle.usb_explain.specs.StringNames.{StringNames, index_shown}

-- a number of one to four bytes, the low one first
abbrev pub decimal_shown : List ℕ → List Shown
decimal_shown (a ∷ []) = Number a ∷ []
decimal_shown (a ∷ b ∷ []) = Number (a + 256 * b) ∷ []
decimal_shown (a ∷ b ∷ c ∷ []) = Number (a + 256 * (b + 256 * c)) ∷ []
decimal_shown (a ∷ b ∷ c ∷ d ∷ []) = Number (a + 256 * (b + 256 * (c + 256 * d))) ∷ []
decimal_shown value = Bytes value ∷ []

-- the same as a code, of four bytes the high one first
abbrev pub hexadecimal_shown : List ℕ → List Shown
hexadecimal_shown (a ∷ []) = Number a ∷ []
hexadecimal_shown (a ∷ b ∷ []) = Number (a + 256 * b) ∷ []
hexadecimal_shown (a ∷ b ∷ c ∷ d ∷ []) = Bytes (d ∷ c ∷ b ∷ a ∷ []) ∷ []
hexadecimal_shown value = Bytes value ∷ []

-- a release of two bytes
abbrev pub release_shown : List ℕ → List Shown
release_shown (low ∷ high ∷ []) = release_value (low + 256 * high)
release_shown value = Bytes value ∷ []

-- wMaxPacketSize of an endpoint of these attributes
abbrev pub packet_size_shown : SetSpeed → ℕ → List ℕ → List Shown
packet_size_shown speed attributes (low ∷ high ∷ []) = size_value speed attributes (low + 256 * high)
packet_size_shown speed attributes value = Bytes value ∷ []

-- What a field of this form and these bytes shows, which stands at a place of a descriptor. A subclass stands after its class and
-- before its protocol, and bmAttributes of an endpoint at 3 (USB 2.0, 9.6). A byte that isn't there is read as 0.
unfoldable pub form_shown : SetSpeed → StringNames → Form → List ℕ → List ℕ → ℕ → List Shown
form_shown speed strings forms.Decimal value b place = decimal_shown value
form_shown speed strings forms.Hexadecimal value b place = hexadecimal_shown value
form_shown speed strings forms.Release value b place = release_shown value
form_shown speed strings forms.ReportType value b place = Number (slice_index b place) ∷ []
form_shown speed strings forms.Index value b place = index_shown strings (slice_index b place)
form_shown speed strings forms.FrameInterval value b place = frame_interval value
form_shown speed strings forms.Guid value b place = guid_shown value
form_shown speed strings forms.AudioTerminal value b place = terminal_shown audio_terminals value
form_shown speed strings forms.VideoTerminal value b place = terminal_shown video_terminals value
form_shown speed strings forms.AbstractControl value b place = bits_field abstract_control_bits (slice_index b place)
form_shown speed strings forms.CallManagement value b place = bits_field call_management_bits (slice_index b place)
form_shown speed strings forms.FirmwareUpgrade value b place = bits_field firmware_upgrade_bits (slice_index b place)
form_shown speed strings forms.Class value b place = class_field (slice_index b place)
form_shown speed strings forms.FunctionClass value b place = function_class_field (slice_index b place)
form_shown speed strings forms.Subclass value b place = subclass_field (slice_index b (place - 1)) (slice_index b place)
form_shown speed strings forms.Protocol value b place =
    protocol_field (slice_index b (place - 2)) (slice_index b (place - 1)) (slice_index b place)
form_shown speed strings forms.DevicePacket value b place = packet_value speed (slice_index b place)
form_shown speed strings forms.Supply value b place = Number (slice_index b place) ∷ []
form_shown speed strings forms.Power value b place = power_value speed (slice_index b place)
form_shown speed strings forms.Address value b place = address_value (slice_index b place)
form_shown speed strings forms.Transfer value b place = Number (slice_index b place) ∷ []
form_shown speed strings forms.PacketSize value b place = packet_size_shown speed (slice_index b 3) value
form_shown speed strings forms.Interval value b place = interval_value speed (slice_index b 3) (slice_index b place)
form_shown speed strings forms.Bytes value b place = Bytes value ∷ []
