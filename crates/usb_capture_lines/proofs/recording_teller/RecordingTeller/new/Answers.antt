use Rattle.std.proofs.Common.{[]}
use Rattle.usb_capture_lines.proofs.recording_teller.RecordingTeller.new.Goals as goal

pub returns : goal.returns
returns c held = record {
  frames = [];
  read = c.new.ensures.read;
  going = c.new.ensures.going;
  report = record {
    observed = [];
    said = c.new-2.ensures.said held;
    selection = c.new-2.ensures.selection;
    first_is = c.new-2.ensures.first;
  };
}
