use Rattle.usb_c.proofs.Worded.{troubles_are_reported}
use Rattle.usb_c.proofs.laws.each_trouble_has_words.Goals as goal

pub returns : goal.returns
returns c = troubles_are_reported
