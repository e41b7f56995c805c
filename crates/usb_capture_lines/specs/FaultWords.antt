-- What a fault of a capture file means, for people.
use Rattle.std.specs.Prelude.{ℕ, List, codes}
use Rattle.usb_capture.specs.declared.fault.CaptureFault.{CaptureFault}
use Rattle.usb_capture.specs.declared.fault.CaptureFault.TheVariants as captures

abbrev pub capture_meaning : CaptureFault → List ℕ
capture_meaning captures.Magic = codes "no recording: neither pcap, nor pcapng, nor usbmon's text"
capture_meaning captures.Order = codes "a section of neither byte order"
capture_meaning captures.Length = codes "a block of a length that its type doesn't have"
capture_meaning captures.Trailer = codes "a block whose two lengths differ"
capture_meaning captures.Version = codes "a section of a version other than 1"
capture_meaning captures.Long = codes "a description of an interface of over 65,627 bytes"
capture_meaning captures.Interfaces = codes "a section with over 65,536 interfaces"
capture_meaning captures.Options = codes "an option of an interface that isn't whole"
capture_meaning captures.Interface = codes "a packet of an interface that isn't there"
capture_meaning captures.Data = codes "a packet whose data run past its block"
capture_meaning captures.Line = codes "no line of usbmon's text"
capture_meaning captures.Memory = codes "there was not enough memory"
