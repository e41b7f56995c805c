use Rattle.std.proofs.Common.{◌++◌, ap, take}
use Rattle.std.specs.Prelude.{reverse}
use Rattle.usb_capture_lines.specs.declared.recording_reader.RecordingReader.{RecordingReader}
use Rattle.usb_capture_lines.proofs.FollowingLemmas.{fails, goes_on, used_of}
use Rattle.usb_capture_lines.proofs.recording_reader.RecordingReader.feed.Goals as goal

pub returns-in_ok-self-in-Ok : goal.returns-in_ok-self-in-Ok
returns-in_ok-self-in-Ok c =
    let new : RecordingReader = record { alloc = c.args.self.now.alloc; reader = c.feed.new.self; follower = c.follow.new.self; shown = c.in_ok-self-in-Ok.field-0 } in
    record {
      within = c.in-Ok.ensures.within;
      ok = λ bytes frames observed has. (
        λ some. c.in-Ok.ensures.goes_on bytes (reverse frames) has.read some,
        goes_on c.in-Ok.step.frame (bytes ++ take c.in-Ok.step.used c.args.piece.now) frames observed new (c.in-Ok.ensures.ok bytes (reverse frames) has.read)
            c.in-Ok.ensures.going (c.in_ok-self-in-Ok.ensures frames observed has.follows),
      );
      refused = tt;
      stays = λ fault failed. ap used_of (c.in-Ok.ensures.stays fault failed);
    }

pub returns-in-Err : goal.returns-in-Err
returns-in-Err c =
    let new : RecordingReader = record { alloc = c.args.self.now.alloc; reader = c.feed.new.self; follower = c.args.self.now.follower; shown = c.args.self.now.shown } in
    record {
      within = tt;
      ok = tt;
      refused = λ bytes frames observed has.
          fails (bytes ++ c.args.piece.now) frames observed c.in-Err.fault new c.in-Err.ensures.failed has.follows (c.in-Err.ensures.refused bytes (reverse frames) has.read has.going);
      stays = λ fault failed. ap used_of (c.in-Err.ensures.stays fault failed);
    }
