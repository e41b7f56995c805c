-- What is passed over, and where it leads to.
use Rattle.std.proofs.Common.{◌≡◌, Bool, true, false, ◌&&◌, refl}
use Rattle.usb_host.specs.declared.choice.NamedStrings.{NamedStrings}
use Rattle.usb_host.specs.Place.{Place, First, Address, Device, Header, Set, Qualifier, Languages, Text, Configure, Reported, Stopped}
use Rattle.usb_host.specs.Terms.{forgives_any}
use Rattle.usb_host.specs.inside.Places.{is_end}
use Rattle.usb_host.specs.Order.{ends_lacking, is_of_strings, is_spared, lacks_string}

pub left_of : (a b : Bool) → (a && b) ≡ true → a ≡ true
left_of true b e = refl
left_of false b e = cc

pub right_of : (a b : Bool) → (a && b) ≡ true → b ≡ true
right_of true b e = e
right_of false b e = cc

lacks_strings : (here there : Place) → ends_lacking here there ≡ true → is_of_strings here ≡ true
lacks_strings here (Stopped trouble) e = left_of (is_of_strings here) (lacks_string trouble.why) e
lacks_strings here First e = absurd (cc)
lacks_strings here (Address first) e = absurd (cc)
lacks_strings here (Device first) e = absurd (cc)
lacks_strings here (Header kind f) e = absurd (cc)
lacks_strings here (Set kind f total) e = absurd (cc)
lacks_strings here (Qualifier f) e = absurd (cc)
lacks_strings here (Languages f named) e = absurd (cc)
lacks_strings here (Text f s named) e = absurd (cc)
lacks_strings here (Configure f) e = absurd (cc)
lacks_strings here (Reported f) e = absurd (cc)

lacks_end : (here there : Place) → ends_lacking here there ≡ true → is_end there ≡ true
lacks_end here (Stopped trouble) e = refl
lacks_end here First e = absurd (cc)
lacks_end here (Address first) e = absurd (cc)
lacks_end here (Device first) e = absurd (cc)
lacks_end here (Header kind f) e = absurd (cc)
lacks_end here (Set kind f total) e = absurd (cc)
lacks_end here (Qualifier f) e = absurd (cc)
lacks_end here (Languages f named) e = absurd (cc)
lacks_end here (Text f s named) e = absurd (cc)
lacks_end here (Configure f) e = absurd (cc)
lacks_end here (Reported f) e = absurd (cc)

-- only a read of strings is passed over, and only where they may be missing
pub spares_strings : (texts : NamedStrings) (here there : Place) → is_spared texts here there ≡ true → is_of_strings here ≡ true
spares_strings texts here there e = lacks_strings here there (right_of (forgives_any texts) (ends_lacking here there) e)

pub spares_any : (texts : NamedStrings) (here there : Place) → is_spared texts here there ≡ true → forgives_any texts ≡ true
spares_any texts here there e = left_of (forgives_any texts) (ends_lacking here there) e

pub spares_end : (texts : NamedStrings) (here there : Place) → is_spared texts here there ≡ true → is_end there ≡ true
spares_end texts here there e = lacks_end here there (right_of (forgives_any texts) (ends_lacking here there) e)
