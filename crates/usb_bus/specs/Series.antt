-- Attempts of a plan, with a bus reset before each.
use Rattle.std.specs.Prelude.{◌≡◌, ℕ, zero, suc, ◌<◌, ◌≤◌, if◌then◌else◌, nat_lt, ◌⊎◌, List, [], ◌∷◌, ◌++◌}
use Rattle.usb_fields.specs.declared.setup.Setup.{Setup as SetupPacket}
use Rattle.usb_host.specs.declared.why.Why.{Why}
use Rattle.usb_host.specs.declared.why.Why.TheVariants.{NoAnswer, Busy}
use Rattle.usb_host.specs.declared.reply.Reply.{Reply}
use Rattle.usb_host.specs.Plan.{Plan}
use Rattle.usb_device.specs.declared.state.State.{State}
use Rattle.usb_device.specs.Requests.{Outcome}
use Rattle.usb_device.specs.Step.{new_device}
use Rattle.usb_bus.specs.declared.fate.Fate.{Fate}
use Rattle.usb_bus.specs.Bus.{losses, busies}
use Rattle.usb_bus.specs.Attempt.{Phase, Broken, Attempt, proceed, attempt_step, attempt_run}
use Rattle.usb_bus.specs.Together.{StaysTogether}

-- how many attempts were begun, and the last of them
pub record Series : Type 0 where
  pub attempts : ℕ
  pub attempt : Attempt

-- what a failed attempt costs: a loss of its own, or more busy transactions than the limit of NAKs
abbrev pub HasCost : ℕ → List Fate → Type 0
HasCost naks used = (0 < losses used) ⊎ (naks < busies used)

-- for any plan, any limit of NAKs and any limit of attempts
module _ (plan : List Reply → Plan) (naks limit : ℕ) where
  -- after a bus reset: the device is as a new one, and the host at its first request (USB 2.0, 9.1.1.3)
  abbrev pub after_reset : Attempt
  after_reset = proceed plan naks [] new_device

  abbrev pub fresh : ℕ → Series
  fresh attempts = record { attempts = attempts; attempt = after_reset }

  -- the next attempt, while any are left
  abbrev pub again : ℕ → Attempt → Series
  again attempts x = if nat_lt attempts limit then fresh (suc attempts) else record { attempts = attempts; attempt = x }

  -- no answer and being busy blame the bus: another attempt begins
  abbrev pub settle : ℕ → Attempt → Phase → Series
  settle attempts x (Broken NoAnswer) = again attempts x
  settle attempts x (Broken Busy) = again attempts x
  settle attempts x phase = record { attempts = attempts; attempt = x }

  module _ (sends : List Reply → List ℕ) (answer : State → SetupPacket → Outcome) (cut : ℕ) where
    -- one transaction under a fate
    abbrev pub series_step : Fate → Series → Series
    series_step fate x =
        let y = attempt_step plan naks sends answer cut fate x.attempt.replies x.attempt.phase x.attempt.device in
        settle x.attempts y y.phase

    -- transactions under these fates
    abbrev pub series_run : List Fate → Series → Series
    series_run [] x = x
    series_run (f ∷ fates) x = series_run fates (series_step f x)

    -- the attempt that these fates make of one that begins after a reset
    abbrev pub attempt_under : List Fate → Attempt
    attempt_under used = attempt_run plan naks sends answer cut used after_reset

    -- After this many failed attempts this one was begun. Each began with both ends together again, after a reset, and had the
    -- next of these fates. One that failed had its cost.
    abbrev pub Attempts : ℕ → List Fate → Attempt → Type 0
    Attempts zero used x =
        (x ≡ attempt_under used) × StaysTogether plan naks sends answer cut used x × ((why : Why) → x.phase ≡ Broken why → HasCost naks used)
    Attempts (suc failed) fates x =
        (used : List Fate) × (more : List Fate) × (fates ≡ used ++ more)
        × ((why : Why) × ((attempt_under used).phase ≡ Broken why)) × HasCost naks used × Attempts failed more x

    -- how all attempts stand after these fates: those before the last one have failed, and none is given up while any is left
    pub record StandsAfter (fates : List Fate) (x : Series) : Type 0 where
      pub failed : ℕ
      pub count : x.attempts ≡ suc failed
      pub attempts : Attempts failed fates x.attempt
      pub all : (why : Why) → x.attempt.phase ≡ Broken why → limit ≤ x.attempts
