use Rattle.usb_listing.proofs.ReadingLemmas.{lists_end, refused_end}
use Rattle.usb_listing.proofs.assembly.read_file.Goals as goal

pub returns-clause-ok : goal.returns-clause-ok
returns-clause-ok c = lists_end _ c.finish.result c.args.text.now _ _ c.in_ok-draft.ensures.ok c.finish.ensures.ok c.finish.ensures.whole

pub returns-clause-err : goal.returns-clause-err
returns-clause-err c = refused_end _ c.finish.result c.args.text.now _ _ c.in_ok-draft.ensures.ok c.finish.ensures.err c.finish.ensures.place
