-- The two fields stay as they are.
use Rattle.usb_c.proofs.HandleValues.{any}
use Rattle.usb_c.proofs.HandleWalks.{regrouped}
use Rattle.usb_c.proofs.Handles.{hosts}
use Rattle.usb_c.specs.contracts.host_handle.NzgHost.into_handle.Key.{name as #self}
use Rattle.usb_c.proofs.host_handle.NzgHost.into_handle.Statement.{statement}
use Rattle.usb_c.proofs.host_handle.NzgHost.into_handle.Code as code

pub into_handle_spec : {M : Type 1} → statement M
into_handle_spec 𝓤 𝓛 𝓜 𝓡 wired = regrouped 𝓤 𝓛 𝓜 𝓡 hosts (any _) #self (code.unfolded 𝓤 𝓛.H 𝓜 𝓡 wired)
