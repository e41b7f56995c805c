use Rattle.std.proofs.Common.{◌∙◌, ap}
use Rattle.usb_device.specs.Conformance.{is_free}
use Rattle.usb_device.specs.Requests.{answer}
use Rattle.usb_host.specs.Steps.{outcome_of}
use Rattle.usb_host.specs.Terms.{all_of}
use Rattle.usb_bus.specs.Enumerate.{IsEnumeration}
use Rattle.usb_bus.specs.UnderTest.{known_fates}
use Rattle.usb_bus.proofs.AskedLemmas.{free_alike, same_run}
use Rattle.usb_bus.proofs.TestedRuns.{fewer_losses, runs_known}
use Rattle.usb_bus.proofs.laws.a_device_under_test_is_known.Goals as goal

pub returns : goal.returns
returns c = λ f speed limits tested run accepted fits range (earlier, last, runs, resets, outcome, state).
    let (set_of, exact) = c.descriptions_are_read.ensures in
    let k = runs_known (answer f) f.device.packet (is_free f) (free_alike f) tested limits speed earlier run.transactions last
    (same_run set_of exact limits speed (c.a_host_keeps_the_image.ensures set_of limits (all_of speed) exact) f accepted fits range (known_fates tested)) runs in
    let known : IsEnumeration f speed limits (known_fates tested) run = (
      k.earlier,
      k.known,
      k.runs,
      ap (λ h. h.resets) k.host ∙ resets,
      ap (λ h. outcome_of h.phase) k.host ∙ outcome,
      k.alike.state ∙ state,
    ) in
    record {
      known = known;
      ends = c.an_enumeration_ends_well.ensures.everything f speed limits (known_fates tested) run accepted fits range known;
      losses_are = fewer_losses tested;
    }
