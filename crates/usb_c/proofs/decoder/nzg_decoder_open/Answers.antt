use Rattle.std.proofs.Common.{rules, ◌≡◌, [], Some, refl}
use Rattle.usb_set.specs.Decoding.{gathers}
use Rattle.usb_c.specs.declared.answer.Verdict.TheVariants as verdicts
use Rattle.usb_c.proofs.decoder.nzg_decoder_open.Goals as goal

pub returns-in-Ok : goal.returns-in-Ok
returns-in-Ok c =
    let held : c.of.result.held ≡ Some (gathers []) = search rules in
    record { verdict = verdicts.Done 0; says = (refl, held); numbers = c.answer.ensures }
