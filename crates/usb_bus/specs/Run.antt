-- Runs: transactions one after another, each with the next fate.
use Rattle.std.specs.Prelude.{◌≡◌, ℕ, zero, suc, List, [], ◌∷◌, Option, Some, None, slice_get, unwrap_or}
use Rattle.usb_fields.specs.Packets.{Sent}
use Rattle.usb_fields.specs.declared.setup.Setup.{Setup as SetupPacket}
use Rattle.usb_host.specs.Transfer.{due_of}
use Rattle.usb_device.specs.declared.state.State.{State}
use Rattle.usb_device.specs.Requests.{Outcome}
use Rattle.usb_bus.specs.declared.fate.Fate.{Fate}
use Rattle.usb_bus.specs.declared.fate.Fate.TheVariants.{Pass}
use Rattle.usb_host.specs.declared.reply.Reply.{Reply}
use Rattle.usb_host.specs.Plan.{Plan}
use Rattle.usb_bus.specs.Attempt.{Phase, Running, Attempt, attempt_step}

-- the fate of transaction k, counted from 0: after the list's end all pass
abbrev pub fate_at : List Fate → ℕ → Fate
fate_at fates k = unwrap_or (slice_get fates k) Pass

-- the fates of the first n transactions
abbrev pub fates_used : List Fate → ℕ → List Fate
fates_used fates zero = []
fates_used [] (suc n) = Pass ∷ fates_used [] n
fates_used (f ∷ fates) (suc n) = f ∷ fates_used fates n

-- the next transaction, where a transfer is under way with these data to the device; after the end there is none
abbrev pub due_in : List ℕ → Phase → Option Sent
due_in bytes (Running host) = due_of host.transfer bytes
due_in bytes phase = None

module _ (plan : List Reply → Plan) (naks : ℕ) (sends : List Reply → List ℕ) (answer : State → SetupPacket → Outcome) (cut : ℕ) where
  -- one transaction under this fate: it comes next at x, and y is what it brings x to
  pub record IsAttemptTransaction (fate : Fate) (x y : Attempt) : Type 0 where
    pub sent : Sent
    pub comes_next : due_in (sends x.replies) x.phase ≡ Some sent
    pub next : y ≡ attempt_step plan naks sends answer cut fate x.replies x.phase x.device

  -- These points follow `start`, each one transaction after the one before it, from transaction k on, and the last of
  -- them is `end`.
  abbrev pub Steps : List Fate → ℕ → Attempt → List Attempt → Attempt → Type 0
  Steps fates k start [] end = end ≡ start
  Steps fates k start (x ∷ points) end = IsAttemptTransaction (fate_at fates k) start x × Steps fates (suc k) x points end
