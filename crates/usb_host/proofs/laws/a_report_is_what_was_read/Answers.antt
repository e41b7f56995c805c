use Rattle.usb_host.specs.Terms.{all_of}
use Rattle.usb_host.proofs.PartLemmas.{reports}
use Rattle.usb_host.proofs.laws.a_report_is_what_was_read.Goals as goal

pub returns-clause-everything : goal.returns-clause-everything
returns-clause-everything c = λ set_of speed. reports set_of (all_of speed)

pub returns-clause-any_choice : goal.returns-clause-any_choice
returns-clause-any_choice c = reports
