use Rattle.std.proofs.Common.{◌≡◌, sym, ◌∙◌}
use Rattle.usb_file_data.specs.Findings.{findings}
use Rattle.usb_device.proofs.AcceptedLemmas.{none_first}
use Rattle.usb_device.proofs.acceptance.examine.Goals as goal

pub returns-clause-ok : goal.returns-clause-ok
returns-clause-ok c =
    let report : c.in_ok-findings.findings.items ≡ findings c.args.f.now = c.in_ok-findings.ensures in
    let lent : c.deref.result.now ≡ c.in_ok-findings.findings.items = c.deref.ensures.value in
    let empty = none_first c.deref.result.now (sym c.in_default.ensures.value) in
    record {
      sets = c.requires.sets;
      rules = sym report ∙ sym lent ∙ empty;
      strings = sym c.if-has_wrong_strings.ensures;
      speed = sym c.if-has_wrong_speed.ensures;
    }
