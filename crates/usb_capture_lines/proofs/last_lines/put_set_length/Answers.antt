use Rattle.std.proofs.lemmas.Result.{on_ok_weaker}
use Rattle.usb_capture_lines.specs.Recordings.{set_length_words}
use Rattle.usb_capture_lines.proofs.TellingLemmas.{joined}
use Rattle.usb_capture_lines.proofs.last_lines.put_set_length.Goals as goal

pub returns : goal.returns
unfolding set_length_words
returns c = on_ok_weaker c.put_count.result (joined _ _ _ _ _ c.in_ok-put.ensures) c.put_count.ensures
