-- What is received of a packet.
use Rattle.std.proofs.Common.{◌≡◌, ◌⊎◌, inl, inr, [], Option, Some, None, refl, ap, sym, ◌∙◌}
use Rattle.std.specs.Prelude.{IsSome}
use Rattle.usb_wire.specs.Packets.{PacketView, packet_bytes}
use Rattle.usb_wire.specs.Damages.{damage_of}
use Rattle.usb_wire.specs.declared.damage.Damage.{Damage}
use Rattle.usb_wire.proofs.RoundTrip.{packet_taken, same_packet, slight}
use Rattle.usb_bus.specs.Wire.{Arrives, IsReceived, IsReceivedOf}

pub none_is_not_some : (o : Option Damage) → o ≡ None → IsSome o → ⊥
none_is_not_some None is some = cc
none_is_not_some (Some d) is some = cc

pub whole_or_lost : (p : PacketView) (got : Option PacketView) → IsReceived p got → (got ≡ Some p) ⊎ (got ≡ None)
whole_or_lost p None passed = inr refl
whole_or_lost p (Some q) passed = arrived passed.arrives
  where
    taken : damage_of passed.bytes ≡ None
    taken = sym (ap damage_of passed.receives.1) ∙ packet_taken q passed.receives.0

    arrived : Arrives p passed.bytes → (Some q ≡ Some p) ⊎ (Some q ≡ None)
    arrived (inl whole) = inl (ap (λ r. Some r) (same_packet q p passed.receives.0 passed.legal (passed.receives.1 ∙ whole)))
    arrived (inr (inl damaged)) = absurd (none_is_not_some (damage_of passed.bytes) taken (slight p passed.bytes passed.legal damaged.0 damaged.1))
    arrived (inr (inr nothing)) = let e : packet_bytes q ≡ [] = passed.receives.1 ∙ nothing in cc

some_is_not_none : (p : PacketView) → None ≡ Some p → ⊥
some_is_not_none p e = cc

pub received_or_lost : (p got : Option PacketView) → IsReceivedOf p got → (got ≡ p) ⊎ ((got ≡ None) × (got ≡ p → ⊥))
received_or_lost None got none = inl none
received_or_lost (Some p) got passed = either (whole_or_lost p got passed)
  where
    either : (got ≡ Some p) ⊎ (got ≡ None) → (got ≡ Some p) ⊎ ((got ≡ None) × (got ≡ Some p → ⊥))
    either (inl whole) = inl whole
    either (inr lost) = inr (lost, λ whole. some_is_not_none p (sym lost ∙ whole))
