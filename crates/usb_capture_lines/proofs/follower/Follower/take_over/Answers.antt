use Rattle.std.proofs.Common.{◌≡◌, ◌∙◌, ap, length, rules}
use Rattle.std.specs.Prelude.{Some}
use Rattle.usb_capture.specs.TransferFindings.{findings}
use Rattle.usb_capture_lines.specs.Recordings.{met}
use Rattle.usb_capture_lines.specs.declared.selection.DeviceAddress.{DeviceAddress}
use Rattle.usb_capture_lines.proofs.follower.Follower.take_over.Goals as goal

pub returns-clause-found : goal.returns-clause-found
returns-clause-found c earlier knows =
    let got = c.in_ok-found.ensures.ok earlier knows in
    let count : c.len.result ≡ length c.in_ok-found.found.items = search rules in (
      got.1,
      c.in_ok-meet.ensures ∙ ap (λ n. met (Some c.of.result) n c.args.self.now.devices.items) (count ∙ ap length got.0)
          ∙ ap (λ (a : DeviceAddress). met (Some a) (length (findings earlier c.args.transfer.now)) c.args.self.now.devices.items) c.of.ensures,
      got.0,
    )
