use Rattle.usb_listing.proofs.LawLemmas.{for_memory}
use Rattle.usb_listing.proofs.assembly.assemble.Goals as goal

pub returns-clause-only : goal.returns-clause-only
returns-clause-only c = λ f l. for_memory c.read_file.result c.args.text.now f l c.read_file.ensures.err
