-- The two fields stay as they are.
use Rattle.usb_c.proofs.HandleValues.{any}
use Rattle.usb_c.proofs.HandleWalks.{regrouped}
use Rattle.usb_c.proofs.Handles.{decoders}
use Rattle.usb_c.specs.contracts.decoder_handle.NzgDecoder.from_handle.Key.{name as #self}
use Rattle.usb_c.proofs.decoder_handle.NzgDecoder.from_handle.Statement.{statement}
use Rattle.usb_c.proofs.decoder_handle.NzgDecoder.from_handle.Code as code

pub from_handle_spec : {M : Type 1} → statement M
from_handle_spec 𝓤 𝓛 𝓜 𝓡 wired = regrouped 𝓤 𝓛 𝓜 𝓡 (any _) decoders #self (code.unfolded 𝓤 𝓛.H 𝓜 𝓡 wired)
