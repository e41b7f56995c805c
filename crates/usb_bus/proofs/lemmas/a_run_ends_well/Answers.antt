use Rattle.usb_host.specs.declared.choice.Terms.{Terms}
use Rattle.usb_bus.specs.Asked.{asked_of}
use Rattle.usb_bus.specs.Run.{fates_used}
use Rattle.usb_bus.specs.inside.Script.{replies_in, script}
use Rattle.usb_bus.proofs.ByteLemmas.{run_ends_soon}
use Rattle.usb_bus.proofs.RunLemmas.{run_ends}
use Rattle.usb_bus.proofs.lemmas.a_run_ends_well.Goals as goal

pub returns : goal.returns
returns c = record {
  ends = λ limits speed choice f table fates earlier n last owned accepted fits range runs.
      let (set_of, exact) = c.descriptions_are_read.ensures in
      let terms : Terms = record { speed = speed; choice = choice } in
      let (reads, passes) = c.an_enumeration_reads_the_description.ensures.reads set_of limits.address terms f exact accepted fits in
      run_ends set_of limits terms (c.a_host_keeps_the_image.ensures set_of limits terms exact) f table range.attempts_from
      (replies_in (script limits.address f.device.packet terms (asked_of choice f))) reads passes
      fates earlier n last runs
      (c.an_enumeration_reads_the_description.ensures.causes set_of limits terms f table (fates_used fates n) owned exact accepted fits range);
  limits = λ limits speed choice f table fates earlier n last owned fits some runs.
      run_ends_soon f fits table owned c.a_host_ends.ensures.any_choice limits speed choice fates earlier n last some runs;
}
