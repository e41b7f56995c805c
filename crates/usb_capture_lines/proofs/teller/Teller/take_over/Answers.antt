use Rattle.std.proofs.Common.{◌≡◌, ◌∙◌, ap, length, rules, subst}
use Rattle.std.specs.Prelude.{Some}
use Rattle.std.specs.Io.KnownBytes.{Appends}
use Rattle.usb_capture.specs.TransferFindings.{findings}
use Rattle.usb_capture_lines.specs.Recordings.{lines_of, met}
use Rattle.usb_capture_lines.specs.declared.selection.DeviceAddress.{DeviceAddress}
use Rattle.usb_capture_lines.proofs.teller.Teller.take_over.Goals as goal

pub returns-clause-found : goal.returns-clause-found
returns-clause-found g c earlier knows =
    let got = c.in_ok-found.ensures.ok earlier knows in
    let count : c.len.result ≡ length c.in_ok-found.found.items = search rules in
    let slice : c.deref.result.now ≡ c.in_ok-found.found.items = search rules in (
      got.1,
      c.in_ok-meet.ensures ∙ ap (λ n. met (Some c.of.result) n c.args.self.now.devices.items) (count ∙ ap length got.0)
          ∙ ap (λ (a : DeviceAddress). met (Some a) (length (findings earlier c.args.transfer)) c.args.self.now.devices.items) c.of.ensures,
      subst (λ found. Appends (g.W.Write.contents c.args.w.now) (g.W.Write.contents c.say.new.w) (lines_of c.args.self.now.selection c.args.self.now.tally.origin c.args.transfer found))
          (slice ∙ got.0) c.in_ok-say.ensures,
    )
