use Rattle.std.proofs.Common.{◌≡◌, true, ap, ◌∙◌, arith, rules, suc}
use Rattle.std.specs.Option.{is_some}
use Rattle.usb_fields.proofs.Exits.{exit_err}
use Rattle.usb_fields.specs.Packets.{Reply}
use Rattle.usb_text.specs.declared.output.OutFault.TheVariants.{Memory}
use Rattle.usb_text.proofs.Pages.{keeps_refl}
use Rattle.usb_bus.specs.Enumerate.{both}
use Rattle.usb_bus.specs.LogOnWire.{LoggedMoves}
use Rattle.usb_bus.specs.Run.{fate_at}
use Rattle.usb_bus.specs.inside.Seeing.{HasSeenPackets, LogsStepLess}
use Rattle.usb_bus.proofs.LogLemmas.{is_brief}
use Rattle.usb_bus.proofs.WireLogLemmas.{seen_of, some_lines, step_put}
use Rattle.usb_bus.proofs.wire.log.WireLog.step.Goals as goal

-- where memory was wanting for the lines of a step
pub returns-then-not-self-clause-err : goal.returns-then-not-self-clause-err
returns-then-not-self-clause-err g c =
    let l = c.args.self.now.logging in
    let (lines, moves) = some_lines (is_brief g.row.BRIEF) l.packets c.args.device.now.description.file l.fates.now l.changes.now
    (both c.args.host.now c.args.device.now.device) c.args.transactions (both c.step_bytes.new.host c.step_bytes.new.device.device) c.in-Some.now c.in-Some.ensures.made.moves in
    record { now = c.in-Some.now; lines = lines; moves = moves; written = keeps_refl (g.W.Write.contents c.args.w.now) }

pub returns-in_err-put_done-clause-err : goal.returns-in_err-put_done-clause-err
returns-in_err-put_done-clause-err g c =
    let l = c.args.self.now.logging in
    let f = c.args.device.now.description.file in
    let before = both c.args.host.now c.args.device.now.device in
    let after = both c.step_bytes.new.host c.step_bytes.new.device.device in
    let held = g.W.Write.contents c.args.w.now in
    let (lines, moves) = some_lines (is_brief g.row.BRIEF) l.packets f l.fates.now l.changes.now before c.args.transactions after c.in-Some.now c.in-Some.ensures.made.moves in
    exit_err c.from_residual.result Memory (LogsStepLess (is_brief g.row.BRIEF) l.packets f l.fates.now l.changes.now before c.args.transactions after held held)
    c.from_residual.ensures.1 (record { now = c.in-Some.now; lines = lines; moves = moves; written = keeps_refl held })

pub returns-in_err-write_all-clause-err : goal.returns-in_err-write_all-clause-err
returns-in_err-write_all-clause-err g c =
    let l = c.args.self.now.logging in
    let f = c.args.device.now.description.file in
    let before = both c.args.host.now c.args.device.now.device in
    let after = both c.step_bytes.new.host c.step_bytes.new.device.device in
    let held = g.W.Write.contents c.args.w.now in
    let holds = g.W.Write.contents c.write_all.new.w in
    let o = c.step_bytes.new.observer.log in
    let t = c.begin.new.self in
    let Seen : Reply → Reply → Type 0 =
    λ answered came. HasSeenPackets (is_brief g.row.BRIEF) l.packets t.turn.number t.turn.fate l.changes.now t.before.step t.before.transfer answered came after.host.phase t.lines o.lines o.below o.cause in
    let whole : o.is_whole ≡ true = search rules in
    let at : t.turn.fate ≡ fate_at l.fates.now c.args.transactions = ap (λ u. u.fate) c.begin.ensures.turn ∙ c.at.ensures ∙ ap (fate_at l.fates.now) c.from.ensures in
    let few = c.in-Some.ensures.made.fewer in
    let within = c.requires.few in
    let counted : (c.in-Some.now ≡ suc c.args.transactions) → t.turn.number ≡ c.in-Some.now = λ e. ap (λ u. u.number) c.begin.ensures.turn ∙ omega arith in
    let moves : LoggedMoves (is_brief g.row.BRIEF) l.packets f l.fates.now l.changes.now before c.args.transactions after c.in-Some.now c.as_bytes.result.now =
    step_put (is_brief g.row.BRIEF) l.packets f l.fates.now l.changes.now c.args.device.now.description.speed before after c.args.transactions c.in-Some.now t.turn.number _ t.turn.fate _ _ _
    t.lines o.lines o.below o.cause c.as_bytes.result.now c.requires.accepted c.requires.within
    (seen_of (is_brief g.row.BRIEF) l.packets f l.fates.now l.changes.now Seen _ (c.step_bytes.new.observer.logging ≡ l) (o.is_whole ≡ true) before c.args.transactions after c.in-Some.now whole c.in-Some.ensures.seen)
    (c.as_bytes.ensures ∙ c.in_ok-put_done.ensures) (c.is_some-is_transaction.ensures ∙ ap is_some c.of-before.ensures.transfer) c.begin.ensures.lines
    (ap (λ d. d.file.device.packet) c.in-Some.ensures.description) at counted (ap (λ b. b.step) c.begin.ensures.before ∙ c.of-before.ensures.step)
    (ap (λ b. b.transfer) c.begin.ensures.before ∙ c.of-before.ensures.transfer) in
    exit_err c.from_residual-in_err-write_all.result _ (LogsStepLess (is_brief g.row.BRIEF) l.packets f l.fates.now l.changes.now before c.args.transactions after held holds)
    c.from_residual-in_err-write_all.ensures.1
    (record { now = c.in-Some.now; lines = c.as_bytes.result.now; moves = moves; written = rw c.in_err-write_all.ensures.why c.in_err-write_all.ensures.err })

pub returns-clause-made : goal.returns-clause-made
returns-clause-made g c =
    let l = c.args.self.now.logging in
    let f = c.args.device.now.description.file in
    let before = both c.args.host.now c.args.device.now.device in
    let after = both c.step_bytes.new.host c.step_bytes.new.device.device in
    let o = c.step_bytes.new.observer.log in
    let t = c.begin.new.self in
    let Seen : Reply → Reply → Type 0 =
    λ answered came. HasSeenPackets (is_brief g.row.BRIEF) l.packets t.turn.number t.turn.fate l.changes.now t.before.step t.before.transfer answered came after.host.phase t.lines o.lines o.below o.cause in
    let whole : o.is_whole ≡ true = search rules in
    let at : t.turn.fate ≡ fate_at l.fates.now c.args.transactions = ap (λ u. u.fate) c.begin.ensures.turn ∙ c.at.ensures ∙ ap (fate_at l.fates.now) c.from.ensures in
    let few = c.in-Some.ensures.made.fewer in
    let within = c.requires.few in
    let counted : (c.in-Some.now ≡ suc c.args.transactions) → t.turn.number ≡ c.in-Some.now = λ e. ap (λ u. u.number) c.begin.ensures.turn ∙ omega arith in
    let moves : LoggedMoves (is_brief g.row.BRIEF) l.packets f l.fates.now l.changes.now before c.args.transactions after c.in-Some.now c.as_bytes.result.now =
    step_put (is_brief g.row.BRIEF) l.packets f l.fates.now l.changes.now c.args.device.now.description.speed before after c.args.transactions c.in-Some.now t.turn.number _ t.turn.fate _ _ _
    t.lines o.lines o.below o.cause c.as_bytes.result.now c.requires.accepted c.requires.within
    (seen_of (is_brief g.row.BRIEF) l.packets f l.fates.now l.changes.now Seen _ (c.step_bytes.new.observer.logging ≡ l) (o.is_whole ≡ true) before c.args.transactions after c.in-Some.now whole c.in-Some.ensures.seen)
    (c.as_bytes.ensures ∙ c.in_ok-put_done.ensures) (c.is_some-is_transaction.ensures ∙ ap is_some c.of-before.ensures.transfer) c.begin.ensures.lines
    (ap (λ d. d.file.device.packet) c.in-Some.ensures.description) at counted (ap (λ b. b.step) c.begin.ensures.before ∙ c.of-before.ensures.step)
    (ap (λ b. b.transfer) c.begin.ensures.before ∙ c.of-before.ensures.transfer) in
    record { lines = c.as_bytes.result.now; moves = moves; written = c.in_ok-write_all.ensures.ok; fewer = c.in-Some.ensures.made.fewer; falls = c.in-Some.ensures.made.falls }
