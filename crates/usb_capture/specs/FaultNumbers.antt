-- The numbers of faults.
use Rattle.std.specs.Prelude.{ℕ}
use Rattle.usb_fields.specs.Numbers.{number_in}
use Rattle.usb_capture.specs.declared.fault.CaptureFault.{CaptureFault}
use Rattle.usb_capture.specs.contracts.fault.CaptureFault.{the_type as capture_faults}

abbrev pub fault_number : CaptureFault → ℕ
fault_number fault = number_in capture_faults fault
