use Rattle.usb_listing.proofs.BytesLemmas.{commented_faulty, commented_only}
use Rattle.usb_listing.proofs.byte_assembly.assemble_bytes_commented.Goals as goal

pub returns-clause-only : goal.returns-clause-only
returns-clause-only c = λ f l. commented_only c.read_bytes.result c.args.text.now f l c.read_bytes.ensures.err

pub returns-clause-err : goal.returns-clause-err
returns-clause-err c = commented_faulty c.read_bytes.result c.args.text.now c.read_bytes.ensures.err
