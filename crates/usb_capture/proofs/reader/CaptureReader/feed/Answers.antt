use Rattle.usb_capture.proofs.reader.CaptureReader.feed.Goals as goal

pub returns-in-Err-clause-refused : goal.returns-in-Err-clause-refused
returns-in-Err-clause-refused c all frames read none = c.in-Err.ensures.refused all frames read
