use Rattle.std.proofs.Common.{◌∙◌, ◌+◌, ap, drop, rules}
use Rattle.std.specs.List.{flat_map}
use Rattle.usb_file_data.specs.declared.cause.Found.{Found}
use Rattle.usb_text.specs.Shown.{showing_all}
use Rattle.usb_explain.specs.FindingLines.{finding_line}
use Rattle.usb_explain.proofs.ShownInTurn.{shown_next}
use Rattle.usb_explain.proofs.finding.put_findings.Goals as goal

pub loop-one-preserved : goal.loop-one-preserved
loop-one-preserved g c =
    let lines = λ (f : Found). finding_line c.args.depth f.cause in
    ap (showing_all g.P.Page.showing (flat_map lines (drop (c.loop-one.one-index + 1) c.args.found.now))) c.in_ok-put_finding.ensures
    ∙ shown_next g.P.Page.showing lines c.args.found.now c.loop-one.one-index _ _ (search rules) ∙ c.loop-one.invariant
