use Rattle.std.proofs.Common.{ap, ◌∙◌}
use Rattle.usb_tool.specs.Builds.{BuildFails, Built}
use Rattle.usb_tool.specs.Outcomes.{outcome_of}
use Rattle.usb_tool.specs.Runs.{build_hint}
use Rattle.usb_tool.specs.declared.meaning.Hint.{Hint}
use Rattle.usb_tool.proofs.Running.{command_ends}
use Rattle.usb_tool.proofs.command.build.Goals as goal

pub returns : goal.returns
returns g c =
    command_ends (build_hint c.args.options.comments) (Built c.args.options) (BuildFails c.args.options) c.run_build_as.result (g.R.Read.remaining c.args.r.now)
    (g.R.Read.remaining c.run_build_as.new.r) (g.W.Write.contents c.args.w.now) (g.W.Write.contents c.run_build_as.new.w) c.of.result
    c.run_build_as.ensures.built c.run_build_as.ensures.err
    (c.of.ensures ∙ ap (λ (hint : Hint). outcome_of hint c.run_build_as.result) c.build_hint.ensures)
