use Rattle.usb_fields.proofs.UnitLemmas.{unit_fault-units_bytes, same_units, legal_units}
use Rattle.usb_fields.proofs.laws.units_round_trip.Goals as goal

pub returns-clause-taken : goal.returns-clause-taken
returns-clause-taken c = unit_fault-units_bytes

pub returns-clause-one_list : goal.returns-clause-one_list
returns-clause-one_list c = same_units

pub returns-clause-written : goal.returns-clause-written
returns-clause-written c = legal_units
