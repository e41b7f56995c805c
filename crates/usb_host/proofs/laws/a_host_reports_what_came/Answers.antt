use Rattle.usb_host.specs.Terms.{everything}
use Rattle.usb_host.proofs.CameLemmas.{reports_came}
use Rattle.usb_host.proofs.laws.a_host_reports_what_came.Goals as goal

pub returns-clause-everything : goal.returns-clause-everything
returns-clause-everything c = λ limits speed. reports_came limits speed everything

pub returns-clause-any_choice : goal.returns-clause-any_choice
returns-clause-any_choice c = reports_came
