use Rattle.std.proofs.Common.{◌≡◌, drop}
use Rattle.std.specs.List.{flat_map}
use Rattle.usb_file_data.specs.declared.cause.Found.{Found}
use Rattle.usb_text.specs.Shown.{showing_all}
use Rattle.usb_explain.specs.FindingLines.{finding_line}
use Rattle.usb_explain.proofs.finding.put_findings.Given as goal

abbrev pub invariant-loop-one : goal.invariant-loop-one
invariant-loop-one g l =
    showing_all g.P.Page.showing (flat_map (λ (f : Found). finding_line l.depth f.cause) (drop l.one-index l.found)) (g.P.Page.seen l.page)
    ≡ showing_all g.P.Page.showing (flat_map (λ (f : Found). finding_line l.depth f.cause) l.found) (g.P.Page.seen l.initial.page)
