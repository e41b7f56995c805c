-- Each handle, and the row of what it holds.
use Rattle.std.proofs.Common.{refl}
use Rattle.usb_host.specs.contracts.host.Host as host
use Rattle.usb_set.specs.contracts.decoder.Decoder as decoder
use Rattle.usb_capture_lines.specs.contracts.recording_reader.RecordingReader as reader
use Rattle.usb_c.specs.contracts.host_handle.NzgHost as nzg_host
use Rattle.usb_c.specs.contracts.decoder_handle.NzgDecoder as nzg_decoder
use Rattle.usb_c.specs.contracts.capture_handle.NzgCapture as nzg_capture
use Rattle.usb_c.proofs.HandleValues.{Handle}

abbrev pub hosts : Handle host.the_row
hosts = record { struct = nzg_host.the_type; parts = λ d. (d.at, (d.alloc, d.held)); make = λ x. record { at = x.0; alloc = x.1.0; held = x.1.1 }; made = λ x. refl }

abbrev pub decoders : Handle decoder.the_row
decoders = record { struct = nzg_decoder.the_type; parts = λ d. (d.at, (d.alloc, d.held)); make = λ x. record { at = x.0; alloc = x.1.0; held = x.1.1 }; made = λ x. refl }

abbrev pub captures : Handle reader.the_row
captures = record { struct = nzg_capture.the_type; parts = λ d. (d.at, (d.alloc, d.held)); make = λ x. record { at = x.0; alloc = x.1.0; held = x.1.1 }; made = λ x. refl }
