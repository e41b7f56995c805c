-- What a reply means to the caller of a transfer, without where its bytes lie.
use Rattle.usb_host.specs.Transfer.{HeardView, Goes, Brings, Completes, Fails}
use Rattle.usb_host.specs.declared.transfer.Heard.{Heard}
use Rattle.usb_host.specs.declared.transfer.Heard.TheVariants.{Again, Bytes, Complete, Failed}

-- what an answer to the caller says
abbrev pub heard_of : Heard → HeardView
heard_of Again = Goes
heard_of (Bytes bytes) = Brings bytes.now
heard_of Complete = Completes
heard_of (Failed why) = Fails why
