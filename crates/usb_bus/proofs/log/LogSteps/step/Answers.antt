use Rattle.std.proofs.Common.{◌≡◌, Bool, ℕ, List, true, ap, ◌∙◌, arith, rules, subst, suc}
use Rattle.std.specs.Option.{is_some}
use Rattle.std.specs.Io.KnownBytes.{Appends}
use Rattle.usb_file_data.specs.declared.file.DescriptorFile.{DescriptorFile}
use Rattle.usb_bus.specs.declared.fate.Fate.{Fate}
use Rattle.usb_bus.specs.Run.{fate_at}
use Rattle.usb_text.specs.Output.{AppendsLess, Held}
use Rattle.usb_text.proofs.Pages.{keeps_refl}
use Rattle.usb_text.specs.declared.output.OutFault.{OutFault}
use Rattle.usb_text.specs.declared.output.OutFault.TheVariants.{Memory}
use Rattle.usb_fields.proofs.Exits.{exit_err}
use Rattle.usb_bus.specs.Enumerate.{Pair, Moves, both}
use Rattle.usb_bus.specs.Log.{CutsOff, step_lines}
use Rattle.usb_bus.proofs.LogLemmas.{is_brief, step_put}
use Rattle.usb_bus.proofs.log.LogSteps.step.Goals as goal

-- a step was made, and its lines were cut off
abbrev IsCut : Bool → DescriptorFile → List Fate → Pair → ℕ → Pair → Held → Held → OutFault → Type 0
IsCut brief f fates x n y held holds fault = (now : ℕ) × Moves f fates x n y now × CutsOff fault held holds (step_lines brief f fates now x y)

pub returns-in_err-put_done-clause-breaks : goal.returns-in_err-put_done-clause-breaks
returns-in_err-put_done-clause-breaks g c =
    let before = both c.args.host.now c.args.device.now.device in
    let after = both c.step_seen.new.host c.step_seen.new.device.device in
    let held = g.W.Write.contents c.args.w.now in
    exit_err c.from_residual.result Memory (IsCut (is_brief g.row.BRIEF) c.args.device.now.description.file c.args.fates.now before c.args.transactions after held held)
    c.from_residual.ensures.1 (c.in-Some.now, c.in-Some.ensures.made.moves, keeps_refl held)

pub returns-in_err-write_all-clause-breaks : goal.returns-in_err-write_all-clause-breaks
returns-in_err-write_all-clause-breaks g c =
    let f = c.args.device.now.description.file in
    let before = both c.args.host.now c.args.device.now.device in
    let after = both c.step_seen.new.host c.step_seen.new.device.device in
    let held = g.W.Write.contents c.args.w.now in
    let holds = g.W.Write.contents c.write_all.new.w in
    let whole : c.step_seen.new.observer.is_whole ≡ true = search rules in
    let at : c.begin.new.self.turn.fate ≡ fate_at c.args.fates.now c.args.transactions = ap (λ t. t.fate) c.begin.ensures.turn ∙ c.at.ensures ∙ ap (fate_at c.args.fates.now) c.from.ensures in
    let few = c.in-Some.ensures.made.fewer in
    let within = c.requires.few in
    let kind = c.is_some-is_transaction.ensures ∙ ap is_some c.of-before.ensures.transfer in
    let counted : (c.in-Some.now ≡ suc c.args.transactions) → c.begin.new.self.turn.number ≡ c.in-Some.now =
    λ e. ap (λ t. t.number) c.begin.ensures.turn ∙ omega arith in
    let lines : c.as_bytes.result.now ≡ step_lines (is_brief g.row.BRIEF) f c.args.fates.now c.in-Some.now before after =
    step_put (is_brief g.row.BRIEF) f c.args.fates.now before after c.args.transactions c.in-Some.now c.begin.new.self.turn.number _ c.begin.new.self.turn.fate _ _ _
    c.begin.new.self.lines _ _ _ c.as_bytes.result.now c.in-Some.ensures.made.moves (λ sent wants. c.step_seen.ensures.seen sent wants whole)
    (c.as_bytes.ensures ∙ c.in_ok-put_done.ensures) kind c.begin.ensures.lines (ap (λ d. d.file.device.packet) c.step_seen.ensures.description) at
    counted (ap (λ b. b.step) c.begin.ensures.before ∙ c.of-before.ensures.step) (ap (λ b. b.transfer) c.begin.ensures.before ∙ c.of-before.ensures.transfer) in
    exit_err c.from_residual-in_err-write_all.result _ (IsCut (is_brief g.row.BRIEF) f c.args.fates.now before c.args.transactions after held holds)
    c.from_residual-in_err-write_all.ensures.1 (
      c.in-Some.now,
      c.in-Some.ensures.made.moves,
      rw c.in_err-write_all.ensures.why (subst (λ l. AppendsLess held holds l) lines c.in_err-write_all.ensures.err),
    )

pub returns-clause-does : goal.returns-clause-does
returns-clause-does g c =
    let f = c.args.device.now.description.file in
    let before = both c.args.host.now c.args.device.now.device in
    let after = both c.step_seen.new.host c.step_seen.new.device.device in
    let held = g.W.Write.contents c.args.w.now in
    let holds = g.W.Write.contents c.write_all.new.w in
    let whole : c.step_seen.new.observer.is_whole ≡ true = search rules in
    let at : c.begin.new.self.turn.fate ≡ fate_at c.args.fates.now c.args.transactions = ap (λ t. t.fate) c.begin.ensures.turn ∙ c.at.ensures ∙ ap (fate_at c.args.fates.now) c.from.ensures in
    let few = c.in-Some.ensures.made.fewer in
    let within = c.requires.few in
    let kind = c.is_some-is_transaction.ensures ∙ ap is_some c.of-before.ensures.transfer in
    let counted : (c.in-Some.now ≡ suc c.args.transactions) → c.begin.new.self.turn.number ≡ c.in-Some.now =
    λ e. ap (λ t. t.number) c.begin.ensures.turn ∙ omega arith in
    let lines : c.as_bytes.result.now ≡ step_lines (is_brief g.row.BRIEF) f c.args.fates.now c.in-Some.now before after =
    step_put (is_brief g.row.BRIEF) f c.args.fates.now before after c.args.transactions c.in-Some.now c.begin.new.self.turn.number _ c.begin.new.self.turn.fate _ _ _
    c.begin.new.self.lines _ _ _ c.as_bytes.result.now c.in-Some.ensures.made.moves (λ sent wants. c.step_seen.ensures.seen sent wants whole)
    (c.as_bytes.ensures ∙ c.in_ok-put_done.ensures) kind c.begin.ensures.lines (ap (λ d. d.file.device.packet) c.step_seen.ensures.description) at
    counted (ap (λ b. b.step) c.begin.ensures.before ∙ c.of-before.ensures.step) (ap (λ b. b.transfer) c.begin.ensures.before ∙ c.of-before.ensures.transfer) in
    subst (λ l. Appends held holds l) lines c.in_ok-write_all.ensures.ok
