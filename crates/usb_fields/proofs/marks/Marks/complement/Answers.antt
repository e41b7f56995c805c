use Rattle.usb_fields.proofs.WordLemmas.{other_numbers}
use Rattle.usb_fields.proofs.marks.Marks.complement.Goals as goal

pub returns : goal.returns
returns c n most =
    other_numbers c.args.self.now _ _ _ _ n c.word.ensures.word c.word-2.ensures.word c.word-3.ensures.word c.word-4.ensures.word
    c.word.type_inv c.word-2.type_inv c.word-3.type_inv c.word-4.type_inv most
