use Rattle.std.proofs.Common.{◌≡◌, ◌++◌, false, drop, take, map}
use Rattle.usb_file_data.specs.Places.{at_each, is_among}
use Rattle.usb_file_data.specs.Rules.{number_of}
use Rattle.usb_file_data.specs.inside.Interfaces.{AreNew, first_at, firsts_of, kept as entries, has_alternate}
use Rattle.usb_file_data.proofs.set.enter_all.Given as goal

abbrev pub invariant-loop-setting : goal.invariant-loop-setting
invariant-loop-setting l = record {
  numbers : (entries l.interfaces).numbers ≡ is_among (map number_of (take l.setting l.settings));
  alternates : (entries l.interfaces).alternates ≡ has_alternate (take l.setting l.settings);
  firsts : (entries l.interfaces).firsts ++ at_each (first_at l.settings) l.setting (drop l.setting l.settings) ≡ firsts_of l.settings;
  keep : l.again ≡ false → AreNew l.settings l.setting;
}
