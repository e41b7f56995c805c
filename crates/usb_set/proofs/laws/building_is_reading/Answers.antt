use Rattle.usb_set.proofs.BuiltSets.{building_is_reading, one_built}
use Rattle.usb_set.proofs.laws.building_is_reading.Goals as goal

pub returns-clause-reads : goal.returns-clause-reads
returns-clause-reads c = building_is_reading

pub returns-clause-one : goal.returns-clause-one
returns-clause-one c = one_built
