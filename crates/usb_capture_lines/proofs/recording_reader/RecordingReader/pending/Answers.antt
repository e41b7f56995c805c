use Rattle.std.specs.Prelude.{reverse}
use Rattle.usb_capture_lines.proofs.recording_reader.RecordingReader.pending.Goals as goal

pub returns : goal.returns
returns c bytes frames observed read = c.pending.ensures bytes (reverse frames) read.read
