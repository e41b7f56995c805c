use Rattle.usb_remarks.proofs.Open.{full_or_high_is_open, low_or_full_is_open}
use Rattle.usb_remarks.proofs.laws.an_open_speed_is_both.Goals as goal

pub returns : goal.returns
returns c = record { low_or_full = low_or_full_is_open; full_or_high = full_or_high_is_open }
