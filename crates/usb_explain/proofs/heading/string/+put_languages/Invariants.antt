use Rattle.std.proofs.Common.{length}
use Rattle.usb_explain.proofs.heading.string.+put_languages.Given as goal

abbrev pub decreases-put_languages : goal.decreases-put_languages
decreases-put_languages g l = length l.b.now
