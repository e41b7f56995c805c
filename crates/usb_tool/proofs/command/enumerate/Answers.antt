use Rattle.std.proofs.Common.{inl, subst}
use Rattle.std.specs.Prelude.{IfErr, IfOk}
use Rattle.usb_tool.specs.Enumerations.{Conditions, EnumerateFails, EnumeratedTo, conditions_by}
use Rattle.usb_tool.proofs.Running.{enumeration_ends}
use Rattle.usb_tool.proofs.command.enumerate.Goals as goal

pub returns-in-Ok : goal.returns-in-Ok
returns-in-Ok g c =
    let from = g.R.Read.remaining c.args.r.now in
    let to = g.R.Read.remaining c.run_enumeration-answer.new.r in
    let held = g.W.Write.contents c.args.w.now in
    let holds = g.W.Write.contents c.run_enumeration-answer.new.w in
    inl (record {
      settings = c.in-Ok.settings;
      settled = c.in-Ok.ensures.ok;
      ended = enumeration_ends (conditions_by c.in-Ok.settings) _ from to held holds _
          (subst (λ (k : Conditions). IfOk c.run_enumeration-answer.result (EnumeratedTo k from to held holds)) c.of.ensures c.run_enumeration-answer.ensures.enumerated)
          (subst (λ (k : Conditions). IfErr c.run_enumeration-answer.result (EnumerateFails k from to held holds)) c.of.ensures c.run_enumeration-answer.ensures.err)
          c.of_enumeration.ensures;
    })
