use Rattle.std.proofs.Common.{inl, refl, subst, sym}
use Rattle.usb_file_data.specs.declared.file.DescriptorFile.{DescriptorFile}
use Rattle.usb_device.specs.Requests.{answer}
use Rattle.usb_bus.specs.Beside.{IsBeside, IsOfBytes}
use Rattle.usb_bus.proofs.laws.an_enumeration_ends_well.Goals as goal

-- a device's own table is one beside it
own : goal.After-a_device_keeps_its_table → (f : DescriptorFile) → IsBeside (answer f) (answer f)
own c f = record {
  keeps = c.a_device_keeps_its_table.ensures f;
  same = λ s q. inl refl;
  bytes = λ s q refused state. subst (λ o. IsOfBytes o) (sym refused) tt;
}

pub returns : goal.returns
returns c = record {
  everything = λ f speed limits fates run. c.no_owner_changes_an_enumeration.ensures.everything f (answer f) speed limits fates run (own c f);
  any_choice = λ f speed limits choice fates run. c.no_owner_changes_an_enumeration.ensures.any_choice f (answer f) speed limits choice fates run (own c f);
}
