use Rattle.std.proofs.Common.{[], refl, arith}
use Rattle.usb_device.specs.Step.{new_device}
use Rattle.usb_device.specs.Requests.{answer}
use Rattle.usb_host.specs.Place.{First}
use Rattle.usb_bus.specs.Asked.{asked_of}
use Rattle.usb_bus.specs.inside.Script.{replies_in, script}
use Rattle.usb_bus.specs.Attempt.{no_data}
use Rattle.usb_bus.specs.Enumerate.{configured_state}
use Rattle.usb_bus.specs.inside.Image.{plan_of}
use Rattle.usb_bus.proofs.DescribeLemmas.{described}
use Rattle.usb_bus.proofs.FollowLemmas.{follows, passes_none, walks_to}
use Rattle.usb_bus.proofs.AskedWalks.{walks_asked}
use Rattle.usb_bus.proofs.ServeLemmas.{serves_script}
use Rattle.usb_bus.proofs.BesideLemmas.{serves_beside, script_closed}
use Rattle.usb_bus.proofs.lemmas.an_enumeration_reads_the_description.Goals as goal

pub returns : goal.returns
returns c = record {
  causes = λ set_of limits terms f table fates beside exact accepted fits range.
      let d = described set_of terms.speed f exact accepted fits in
      let g = asked_of terms.choice f in
      let xs = script limits.address f.device.packet terms g in
      c.attempts_have_causes.ensures (plan_of set_of limits terms) limits.naks limits.attempts no_data table f.device.packet
      (replies_in xs) (configured_state limits.address f) fates
      (follows set_of terms limits table beside.keeps f.device.packet g
      (replies_in xs) (configured_state limits.address f) xs new_device.state First [] refl refl
      (walks_asked set_of terms limits.address f d)
      (serves_beside (answer f) table beside f.device.packet (configured_state limits.address f) xs new_device.state
      (serves_script set_of terms limits.address f d range.address_from (let small = range.address_to in omega arith))
      (script_closed limits.address f.device.packet terms g)));
  reads = λ set_of address terms f exact accepted fits.
      let d = described set_of terms.speed f exact accepted fits in
      let g = asked_of terms.choice f in
      let xs = script address f.device.packet terms g in
      let w = walks_asked set_of terms address f d in
      (walks_to set_of terms address g First xs w, passes_none set_of terms address g First xs w);
}
