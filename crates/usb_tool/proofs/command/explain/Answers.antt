use Rattle.std.proofs.Common.{inl}
use Rattle.usb_tool.specs.Explains.{ExplainFails, Explained}
use Rattle.usb_tool.specs.declared.meaning.Hint.TheVariants.{Nothing}
use Rattle.usb_tool.proofs.Running.{command_ends}
use Rattle.usb_tool.proofs.command.explain.Goals as goal

pub returns-in-Ok : goal.returns-in-Ok
returns-in-Ok g c =
    let o = c.args.options.now in
    let manner = c.in-Ok.manner in
    inl (record {
      settings = manner;
      settled = c.in-Ok.ensures.ok;
      ended = command_ends Nothing (Explained o.loose o.hex manner) (ExplainFails o.loose o.hex manner) c.run_explain.result (g.R.Read.remaining c.args.r.now)
          (g.R.Read.remaining c.run_explain.new.r) (g.W.Write.contents c.args.w.now) (g.W.Write.contents c.run_explain.new.w) c.of.result
          c.run_explain.ensures.explained c.run_explain.ensures.err c.of.ensures;
    })
