use Rattle.std.proofs.Common.{◌≡◌, true, drop, take, map}
use Rattle.usb_fields.specs.Marks.{is_marked}
use Rattle.usb_file_data.specs.Places.{at_each_counted, is_among}
use Rattle.usb_file_data.specs.Rules.{number_of}
use Rattle.usb_file_data.specs.Findings.{setting_associations}
use Rattle.usb_file_data.specs.inside.Addresses.{kept as claims}
use Rattle.usb_file_data.specs.inside.Interfaces.{kept as entries, has_alternate}
use Rattle.usb_file_data.specs.inside.Reports.{walked}
use Rattle.usb_file_data.specs.inside.Walk.{in_set, setting_at, shared_with}
use Rattle.usb_file_data.proofs.set.check_set_at.Given as goal

abbrev pub invariant-loop-setting : goal.invariant-loop-setting
invariant-loop-setting l = record {
  found : walked l.found (at_each_counted setting_associations (setting_at l.place l.c.settings) l.setting l.number (drop l.setting l.c.settings)) ≡ walked l.fn.found (in_set l.place (is_marked l.fn.values) l.c);
  numbers : l.may_break ≡ true → (entries l.earlier.interfaces).numbers ≡ is_among (map number_of (take l.setting l.c.settings));
  alternates : l.may_break ≡ true → (entries l.earlier.interfaces).alternates ≡ has_alternate (take l.setting l.c.settings);
  elsewhere : (claims l.earlier.addresses).elsewhere ≡ shared_with (take l.setting l.c.settings);
}
