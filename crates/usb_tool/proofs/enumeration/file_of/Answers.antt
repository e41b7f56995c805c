use Rattle.std.proofs.Common.{Bool, subst, sym}
use Rattle.std.specs.Prelude.{IfOk}
use Rattle.usb_tool.specs.Enumerations.{IsTaken}
use Rattle.usb_tool.proofs.Telling.{no_dump_either, no_file}
use Rattle.usb_tool.proofs.enumeration.file_of.Goals as goal

pub returns-then-with_strings-clause-ok : goal.returns-then-with_strings-clause-ok
returns-then-with_strings-clause-ok c =
    subst (λ (s : Bool). IfOk c.read_completed.result (λ f. IsTaken s f c.args.bytes.now)) (sym c.if-with_strings.true) c.read_completed.ensures.ok

pub returns-then-with_strings-clause-err : goal.returns-then-with_strings-clause-err
returns-then-with_strings-clause-err c = no_dump_either c.read_completed.result c.args.bytes.now c.args.with_strings c.if-with_strings.true c.read_completed.ensures.err

pub returns-else-with_strings-clause-ok : goal.returns-else-with_strings-clause-ok
returns-else-with_strings-clause-ok c =
    subst (λ (s : Bool). IfOk c.read_file.result (λ f. IsTaken s f c.args.bytes.now)) (sym c.if-with_strings.false) c.read_file.ensures.ok

pub returns-else-with_strings-clause-err : goal.returns-else-with_strings-clause-err
returns-else-with_strings-clause-err c = no_file c.read_file.result c.args.bytes.now c.args.with_strings c.if-with_strings.false c.read_file.ensures.err
