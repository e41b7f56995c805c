-- Scripts that a host walks and a device serves.
use Rattle.std.specs.Prelude.{◌≡◌, ℕ, Bool, true, List, [], ◌∷◌, Option}
use Rattle.usb_fields.specs.declared.setup.Setup.{Setup as SetupPacket}
use Rattle.usb_set.specs.declared.tree.Configuration.{Configuration}
use Rattle.usb_host.specs.declared.choice.Terms.{Terms}
use Rattle.usb_host.specs.Plan.{Begin}
use Rattle.usb_device.specs.declared.state.State.{State}
use Rattle.usb_device.specs.Requests.{Outcome, Bytes, Takes}
use Rattle.usb_device.specs.Step.{carried_out, is_set_address}
use Rattle.usb_bus.specs.Beside.{CutsAlike, SizesAlike}
use Rattle.usb_bus.specs.Attempt.{reply_to}
use Rattle.usb_host.specs.Place.{Place}
use Rattle.usb_host.specs.Order.{asks, leads}
use Rattle.usb_bus.specs.inside.Script.{Exchange}

-- the host's side: from this place the script's requests are due, one after another, and lead to `end`, with nothing passed over
module _ (set_of : List ℕ → Option Configuration) (terms : Terms) (address : ℕ) where
  abbrev pub WalksScript : Place → Place → List Exchange → Type 0
  WalksScript end place [] = place ≡ end
  WalksScript end place (x ∷ xs) = (asks address place ≡ Begin x.address x.packet x.request) × WalksScript end (leads set_of terms place x.reply) xs

-- the device's side, with packets of n bytes
module _ (answer : State → SetupPacket → Outcome) (n : ℕ) where
  -- the request gets this reply, in packets that the host takes
  pub record IsServed (s : State) (x : Exchange) : Type 0 where
    pub address : x.address ≡ s.address
    pub reply : reply_to [] (answer s x.request) ≡ x.reply
    pub is_cut : (b : List ℕ) → answer s x.request ≡ Bytes b → CutsAlike n x.packet x.request.length b
    pub sizes : (judge : List ℕ → Bool) → answer s x.request ≡ Takes judge → SizesAlike n x.packet

  -- the script's requests get the script's replies, from state s to the last one; no SET_ADDRESS stands last
  abbrev pub Serves : State → State → List Exchange → Type 0
  Serves last s [] = s ≡ last
  Serves last s (x ∷ xs) =
      IsServed s x × (is_set_address x.request ≡ true → xs ≡ [] → ⊥) × Serves last (carried_out s (answer s x.request)) xs
