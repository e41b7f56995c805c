use Rattle.std.proofs.Common.{ap, ◌++◌, ◌∙◌}
use Rattle.usb_capture_lines.specs.BusFindings.{packet_found}
use Rattle.usb_capture_lines.proofs.observer.Observer.findings.Goals as goal

pub returns : goal.returns
returns c before given has =
    c.in_ok-find_damage.ensures ∙ ap (λ found. found ++ packet_found c.args.packet.now c.args.over.now) (c.in_ok-found.ensures before given has)
