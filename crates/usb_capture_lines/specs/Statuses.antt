-- What the statuses of a host's system mean on the bus: a table of error numbers of Linux (the kernel's document "USB Error
-- codes"), and one of USBD_STATUS (Windows, usb.h).
use Rattle.std.specs.Prelude.{ℕ, ◌-◌, ◌==◌, List, codes, nat_lt, if◌then◌else◌}

abbrev pub errno_words : ℕ → List ℕ
errno_words errno =
    if errno == 1 then codes "EPERM: nothing may be sent to the device now"
    else if errno == 2 then codes "ENOENT: the host took it back before its end"
    else if errno == 11 then codes "EAGAIN: the host can't send it now"
    else if errno == 12 then codes "ENOMEM: the host was out of memory"
    else if errno == 18 then codes "EXDEV: a part of an isochronous transfer failed"
    else if errno == 19 then codes "ENODEV: the device is gone"
    else if errno == 22 then codes "EINVAL: no such transfer can be made"
    else if errno == 28 then codes "ENOSPC: the bus has no bandwidth left"
    else if errno == 32 then codes "EPIPE: the endpoint is halted"
    else if errno == 62 then codes "ETIME: no answer within the time of a packet"
    else if errno == 63 then codes "ENOSR: the host's data came too late for the bus"
    else if errno == 70 then codes "ECOMM: the bus brought data faster than the host stored them"
    else if errno == 71 then codes "EPROTO: no whole answer; look at wire, clock, the first packet"
    else if errno == 75 then codes "EOVERFLOW: more bytes came than were asked for"
    else if errno == 84 then codes "EILSEQ: a wrong CRC, or no answer; look at wire and clock"
    else if errno == 90 then codes "EMSGSIZE: a packet is too long for the endpoint"
    else if errno == 104 then codes "ECONNRESET: the host took it back before its end"
    else if errno == 108 then codes "ESHUTDOWN: the device or the host controller is gone"
    else if errno == 110 then codes "ETIMEDOUT: no end within the time that the host gave"
    else if errno == 113 then codes "EHOSTUNREACH: the device is suspended"
    else if errno == 121 then codes "EREMOTEIO: fewer bytes came than the driver takes"
    else codes "a status without a name here"

abbrev pub usbd_words : ℕ → List ℕ
usbd_words status =
    if status == 0xc0000001 then codes "CRC: a packet with a wrong CRC"
    else if status == 0xc0000002 then codes "BTSTUFF: a packet with a wrong stuffed bit"
    else if status == 0xc0000003 then codes "DATA_TOGGLE_MISMATCH: DATA0 in the place of DATA1, or the reverse"
    else if status == 0xc0000004 then codes "STALL_PID: the endpoint is halted"
    else if status == 0xc0000005 then codes "DEV_NOT_RESPONDING: no answer; look at wire, clock, power"
    else if status == 0xc0000006 then codes "PID_CHECK_FAILURE: a packet whose PID isn't one"
    else if status == 0xc0000007 then codes "UNEXPECTED_PID: a packet that has no place here"
    else if status == 0xc0000008 then codes "DATA_OVERRUN: more bytes came than were asked for"
    else if status == 0xc0000009 then codes "DATA_UNDERRUN: fewer bytes came than were asked for"
    else if status == 0xc000000c then codes "BUFFER_OVERRUN: data came faster than the host stored them"
    else if status == 0xc000000d then codes "BUFFER_UNDERRUN: the host's data came too late for the bus"
    else if status == 0xc0000010 then codes "FIFO: the host's data came too late for the bus"
    else if status == 0xc0000011 then codes "XACT_ERROR: no whole answer; look at wire, clock, the first packet"
    else if status == 0xc0000012 then codes "BABBLE_DETECTED: more bytes came than were asked for"
    else if status == 0xc0000013 then codes "DATA_BUFFER_ERROR: the host's memory was too slow for the bus"
    else if status == 0xc0000030 then codes "ENDPOINT_HALTED: the endpoint is halted"
    else if status == 0xc0006000 then codes "TIMEOUT: no end within the time that the host gave"
    else if status == 0xc0007000 then codes "DEVICE_GONE: the device is gone"
    else if status == 0xc0009000 then codes "HUB_INTERNAL_ERROR: the hub failed"
    else if status == 0xc0010000 then codes "CANCELED: the host took it back before its end"
    else if status == 0x80000200 then codes "INVALID_URB_FUNCTION: no such transfer can be made"
    else if status == 0x80000300 then codes "INVALID_PARAMETER: no such transfer can be made"
    else if status == 0x80000700 then codes "NO_BANDWIDTH: the bus has no bandwidth left"
    else if status == 0x80000800 then codes "INTERNAL_HC_ERROR: the host controller failed"
    else if status == 0x80000900 then codes "ERROR_SHORT_TRANSFER: fewer bytes came than the driver takes"
    else codes "a status without a name here"

-- an error number is negative, in two's complement, and above -4096
unfoldable pub status_words : ℕ → List ℕ
status_words status = if nat_lt status 0xfffff001 then usbd_words status else errno_words (0x100000000 - status)
