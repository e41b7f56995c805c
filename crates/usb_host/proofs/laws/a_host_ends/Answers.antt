use Rattle.usb_host.specs.Terms.{everything}
use Rattle.usb_host.proofs.AskingLemmas.{hosts_end}
use Rattle.usb_host.proofs.laws.a_host_ends.Goals as goal

pub returns-clause-everything : goal.returns-clause-everything
returns-clause-everything c = λ limits speed. hosts_end limits speed everything

pub returns-clause-any_choice : goal.returns-clause-any_choice
returns-clause-any_choice c = hosts_end
