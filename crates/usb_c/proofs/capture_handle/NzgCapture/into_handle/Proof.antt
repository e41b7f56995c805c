-- The two fields stay as they are.
use Rattle.usb_c.proofs.HandleValues.{any}
use Rattle.usb_c.proofs.HandleWalks.{regrouped}
use Rattle.usb_c.proofs.Handles.{captures}
use Rattle.usb_c.specs.contracts.capture_handle.NzgCapture.into_handle.Key.{name as #self}
use Rattle.usb_c.proofs.capture_handle.NzgCapture.into_handle.Statement.{statement}
use Rattle.usb_c.proofs.capture_handle.NzgCapture.into_handle.Code as code

pub into_handle_spec : {M : Type 1} → statement M
into_handle_spec 𝓤 𝓛 𝓜 𝓡 wired = regrouped 𝓤 𝓛 𝓜 𝓡 captures (any _) #self (code.unfolded 𝓤 𝓛.H 𝓜 𝓡 wired)
