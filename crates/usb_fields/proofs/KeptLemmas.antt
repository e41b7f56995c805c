-- Laws of the packets that a receiver keeps.
use Rattle.std.proofs.Common.{◌≡◌, ℕ, zero, suc, List, [], ◌∷◌, ◌++◌, replicate, refl, true, false}
use Rattle.usb_fields.specs.declared.packet.Toggle.{Toggle}
use Rattle.usb_fields.specs.declared.packet.Toggle.TheVariants.{Data0, Data1}
use Rattle.usb_fields.specs.Packets.{flipped, Toggled, kept, repeated, is_same_toggle}

pub same-itself : (t : Toggle) → is_same_toggle t t ≡ true
same-itself Data0 = refl
same-itself Data1 = refl

pub same-flipped : (t : Toggle) → is_same_toggle t (flipped t) ≡ false
same-flipped Data0 = refl
same-flipped Data1 = refl

-- a packet that comes again is not kept
kept-replicate : (times : ℕ) (t : Toggle) (p : List ℕ) (more : List Toggled) → kept (replicate times (record { toggle = t; packet = p }) ++ more) (flipped t) ≡ kept more (flipped t)
kept-replicate zero t p more = refl
kept-replicate (suc times) t p more = rw (same-flipped t) (kept-replicate times t p more)

-- of packets that come once or more, in order, each is kept once
pub kept-repeated : (ps : List (List ℕ)) (t : Toggle) (again : List ℕ) → kept (repeated ps t again) t ≡ ps
kept-repeated [] t again = refl
kept-repeated (p ∷ ps) t [] = rw (same-itself t, kept-repeated ps (flipped t) []) refl
kept-repeated (p ∷ ps) t (times ∷ again) =
    rw (same-itself t, kept-replicate times t p (repeated ps (flipped t) again), kept-repeated ps (flipped t) again) refl
