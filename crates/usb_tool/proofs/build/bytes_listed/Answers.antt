use Rattle.std.proofs.Common.{◌≢◌, Bool, true, false, subst, sym}
use Rattle.std.specs.Prelude.{IfErr, IfOk}
use Rattle.usb_listing.specs.declared.fault.ListFault.{ListFault}
use Rattle.usb_listing.specs.declared.fault.ListWhy.TheVariants as lists
use Rattle.usb_tool.specs.Builds.{FaultyBy, ListsBytes}
use Rattle.usb_tool.proofs.Builds.{bytes_listed}
use Rattle.usb_tool.proofs.build.bytes_listed.Goals as goal

pub returns-in-true-clause-ok : goal.returns-in-true-clause-ok
returns-in-true-clause-ok c =
    subst (λ (b : Bool). IfOk c.assemble_bytes_commented.result (λ v. ListsBytes b c.args.text.now v.items)) (sym c.in-true.is)
    (bytes_listed (λ v. v.items) c.assemble_bytes_commented.result true c.args.text.now c.assemble_bytes_commented.ensures.ok)

pub returns-in-false-clause-ok : goal.returns-in-false-clause-ok
returns-in-false-clause-ok c =
    subst (λ (b : Bool). IfOk c.assemble_bytes.result (λ v. ListsBytes b c.args.text.now v.items)) (sym c.in-false.is)
    (bytes_listed (λ v. v.items) c.assemble_bytes.result false c.args.text.now c.assemble_bytes.ensures.ok)

pub returns-in-false-clause-err : goal.returns-in-false-clause-err
returns-in-false-clause-err c =
    subst (λ (b : Bool). IfErr c.assemble_bytes.result (λ (fault : ListFault). fault.why ≢ lists.Memory → FaultyBy b c.args.text.now fault.line fault.why)) (sym c.in-false.is)
    c.assemble_bytes.ensures.err
