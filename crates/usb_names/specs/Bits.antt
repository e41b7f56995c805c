-- What the bits of fields are called, by their numbers. The names are those of src/bits.rt.
use Rattle.std.specs.Prelude.{ℕ, List, map}
use Rattle.usb_names.specs.declared.bits.TheConstants.{ABSTRACT_CONTROL_BITS, CALL_MANAGEMENT_BITS, FIRMWARE_UPGRADE_BITS}
use Rattle.usb_names.specs.Named.{Named, of_constant}

-- bmCapabilities of CDC abstract control (PSTN 1.2, 5.3.2)
unfoldable pub abstract_control_bits : List (Named ℕ)
abstract_control_bits = map of_constant ABSTRACT_CONTROL_BITS

-- bmCapabilities of CDC call management (PSTN 1.2, 5.3.1)
unfoldable pub call_management_bits : List (Named ℕ)
call_management_bits = map of_constant CALL_MANAGEMENT_BITS

-- bmAttributes of DFU functional (DFU 1.1, 4.1.3)
unfoldable pub firmware_upgrade_bits : List (Named ℕ)
firmware_upgrade_bits = map of_constant FIRMWARE_UPGRADE_BITS
