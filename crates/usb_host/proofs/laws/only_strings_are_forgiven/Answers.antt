use Rattle.usb_host.proofs.ForgivenLemmas.{only_strings}
use Rattle.usb_host.proofs.laws.only_strings_are_forgiven.Goals as goal

pub returns : goal.returns
returns c = only_strings
