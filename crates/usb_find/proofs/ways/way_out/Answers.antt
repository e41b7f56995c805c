use Rattle.std.proofs.Common.{None, Some, sym, ◌+◌, arith}
use Rattle.usb_find.specs.inside.Walks.{edge_of, spot}
use Rattle.usb_find.proofs.Leading.{exit_leads, leads_later, leads_nowhere, way_within}
use Rattle.usb_find.proofs.Reaching.{ahead}
use Rattle.usb_find.proofs.ways.way_out.Goals as goal

pub last_before-requires-clause-out : goal.last_before-requires-clause-out
last_before-requires-clause-out g c = λ below.
    let more = ahead c.args.bytes.now (spot (c.args.base + c.args.index) c.args.in_setting) c.in-Some.next (sym c.in-Some.ensures.value) in
    way_within c.args.bytes.now c.args.base c.args.ways.now c.args.index c.in-Some.next c.requires.after (omega (arith, more)) below c.requires.block

pub returns-in_default-clause-out : goal.returns-in_default-clause-out
returns-in_default-clause-out g c = leads_nowhere c.args.bytes.now (c.args.base + edge_of c.args.index) (spot (c.args.base + c.args.index) c.args.in_setting) (omega arith) (sym c.in_default.ensures.value)

pub returns-in_default-last_before-clause-out : goal.returns-in_default-last_before-clause-out
returns-in_default-last_before-clause-out g c =
    leads_later c.args.bytes.now (c.args.base + edge_of c.args.index) (spot (c.args.base + c.args.index) c.args.in_setting) c.in-Some.next None (omega arith) (sym c.in-Some.ensures.value) c.in_default-last_before.ensures.out

pub returns-clause-out : goal.returns-clause-out
returns-clause-out g c =
    exit_leads c.args.bytes.now (c.args.base + edge_of c.args.index) (spot (c.args.base + c.args.index) c.args.in_setting) c.in-Some-last_before.last (omega arith)
    (leads_later c.args.bytes.now (c.args.base + edge_of c.args.index) (spot (c.args.base + c.args.index) c.args.in_setting) c.in-Some.next (Some c.in-Some-last_before.last) (omega arith) (sym c.in-Some.ensures.value) c.in-Some-last_before.ensures.out)
