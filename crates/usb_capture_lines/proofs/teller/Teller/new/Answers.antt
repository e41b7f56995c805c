use Rattle.std.proofs.Common.{rules}
use Rattle.usb_text.proofs.Pages.{appends_nothing, keeps_refl}
use Rattle.usb_capture_lines.proofs.teller.Teller.new.Goals as goal

pub returns-clause-said : goal.returns-clause-said
returns-clause-said c held = record {
  are = tt;
  observer = search rules;
  knows = search rules;
  kept = search rules;
  devices = search rules;
  tally = search rules;
  replaced = search rules;
  written = appends_nothing held held (keeps_refl held);
}
