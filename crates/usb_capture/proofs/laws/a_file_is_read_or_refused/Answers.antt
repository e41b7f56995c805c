use Rattle.usb_capture.proofs.Unique.{read_once, refused_once, refused_or_read}
use Rattle.usb_capture.proofs.laws.a_file_is_read_or_refused.Goals as goal

pub returns-clause-read : goal.returns-clause-read
returns-clause-read c = read_once

pub returns-clause-refused : goal.returns-clause-refused
returns-clause-refused c = refused_once

pub returns-clause-never_both : goal.returns-clause-never_both
returns-clause-never_both c = refused_or_read
