use Rattle.usb_file_data.proofs.Longest.{at_most}
use Rattle.usb_file_data.proofs.laws.longest_file.Goals as goal

pub returns : goal.returns
returns c = at_most
