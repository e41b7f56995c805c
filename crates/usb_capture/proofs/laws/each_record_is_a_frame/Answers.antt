use Rattle.usb_capture.proofs.Unique.{frames_of_a_file, header_is_right}
use Rattle.usb_capture.proofs.laws.each_record_is_a_frame.Goals as goal

pub returns-clause-frames : goal.returns-clause-frames
returns-clause-frames c = frames_of_a_file

pub returns-clause-never_refused : goal.returns-clause-never_refused
returns-clause-never_refused c = header_is_right
