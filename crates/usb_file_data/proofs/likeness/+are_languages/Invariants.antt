use Rattle.std.proofs.Common.{length}
use Rattle.usb_file_data.proofs.likeness.+are_languages.Given as goal

abbrev pub decreases-are_languages : goal.decreases-are_languages
decreases-are_languages l = length l.units.now
