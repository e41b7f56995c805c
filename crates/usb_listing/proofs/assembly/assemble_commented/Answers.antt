use Rattle.usb_listing.proofs.CommentLawLemmas.{commented_for_memory}
use Rattle.usb_listing.proofs.assembly.assemble_commented.Goals as goal

pub returns-clause-only : goal.returns-clause-only
returns-clause-only c = λ f l. commented_for_memory c.read_file.result c.args.text.now f l c.read_file.ensures.err
