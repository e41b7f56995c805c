-- Accepted descriptions are read.
use Rattle.std.proofs.Common.{◌≡◌, ℕ, ◌<◌, ◌≤◌, false, List, [], ◌∷◌, ◌++◌, length, Option, Some, None, refl, ap, arith, get_or}
use Rattle.std.specs.List.{list_any}
use Rattle.std.proofs.lemmas.Bool.Decides.{nat_tests}
use Rattle.usb_fields.specs.Bytes.{AreBytes}
use Rattle.usb_fields.specs.declared.packet.Speed.{Speed}
use Rattle.usb_fields.specs.Device.{device_bytes, qualifier_bytes}
use Rattle.usb_set.specs.declared.tree.SetKind.{SetKind}
use Rattle.usb_set.specs.declared.tree.SetKind.TheVariants as kinds
use Rattle.usb_set.specs.declared.tree.Configuration.{Configuration}
use Rattle.usb_file_data.specs.declared.file.DescriptorFile.{DescriptorFile}
use Rattle.usb_file_data.specs.declared.file.Other.{Other}
use Rattle.usb_file_data.specs.declared.file.Strings.{Strings}
use Rattle.usb_file_data.specs.File.{named_indices, other_sets, whole_set, sets_bytes, other_bytes, strings_bytes, file_bytes, is_long_string}
use Rattle.usb_device.specs.Accepted.{Accepted}
use Rattle.usb_host.specs.Order.{first_value, other_declared}
use Rattle.usb_host.proofs.ReadLemmas.{byte_at, qualifier_read, units_read}
use Rattle.usb_bus.specs.inside.Image.{ReadsSets}
use Rattle.usb_bus.specs.inside.Described.{EachIsRead, TextsAreRead, OtherIsRead, StringsAreRead, IsDescribed}
use Rattle.usb_bus.proofs.AcceptLemmas.{AreSound, AreStrings, sets_sound, other_sets_sound, strings_right}
use Rattle.usb_bus.proofs.HeadLemmas.{headed_bytes}
use Rattle.usb_file_data.proofs.WholeSets.{set_layout}
use Rattle.usb_file_data.proofs.Lists.{bytes_before, bytes_behind}

sets_read : (set_of : List ℕ → Option Configuration) → ReadsSets set_of → (kind : SetKind) (cs : List Configuration) → AreSound kind cs → AreBytes (sets_bytes cs) → EachIsRead set_of cs
sets_read set_of exact kind [] sound fits = tt
sets_read set_of exact kind (c ∷ cs) sound fits =
    (exact.all (whole_set c) c (set_layout c sound.1 (bytes_before (whole_set c) (sets_bytes cs) fits)), sets_read set_of exact kind cs sound.2 (bytes_behind (whole_set c) (sets_bytes cs) fits))

value_is : (c : Configuration) → get_or (whole_set c) 5 0 ≡ c.value
value_is c = (let h = headed_bytes c in ap (λ x. get_or x 5 0) h.1)

value_fits : (cs : List Configuration) → AreBytes (sets_bytes cs) → first_value cs < 256
value_fits [] fits = omega arith
value_fits (c ∷ cs) fits =
    (let small = byte_at (whole_set c) 5 (bytes_before (whole_set c) (sets_bytes cs) fits) in let same = value_is c in omega arith)

pub texts_read : (ts : List (List ℕ)) → list_any is_long_string ts ≡ false → TextsAreRead ts
texts_read [] short = tt
texts_read (t ∷ ts) short = (
  units_read t (few t ts short),
  texts_read ts (rest t ts short),
)
  where
    few : (t : List ℕ) (ts : List (List ℕ)) → list_any is_long_string (t ∷ ts) ≡ false → length t ≤ 126
    few t ts e = grind (arith, nat_tests)

    rest : (t : List ℕ) (ts : List (List ℕ)) → list_any is_long_string (t ∷ ts) ≡ false → list_any is_long_string ts ≡ false
    rest t ts e = grind (arith, nat_tests)

other_read : (set_of : List ℕ → Option Configuration) → ReadsSets set_of → (o : Option Other) → AreSound kinds.OtherSpeed (other_sets o) → AreBytes (other_bytes o) → OtherIsRead set_of o
other_read set_of exact None sound fits = tt
other_read set_of exact (Some o) sound fits = (
  qualifier_read o.qualifier,
  sets_read set_of exact kinds.OtherSpeed o.sets sound (bytes_behind (qualifier_bytes o.qualifier) (sets_bytes o.sets) fits),
)

other_fits : (o : Option Other) → AreBytes (other_bytes o) → other_declared o < 256
other_fits None fits = omega arith
other_fits (Some o) fits = byte_at (qualifier_bytes o.qualifier) 8 (bytes_before (qualifier_bytes o.qualifier) (sets_bytes o.sets) fits)

strings_read : (named : List ℕ) (o : Option Strings) → ((s : Strings) → o ≡ Some s → AreStrings named s) → StringsAreRead o
strings_read named None right = tt
strings_read named (Some s) right =
    let r = right s refl in (
      units_read s.languages r.few,
      texts_read s.texts r.short,
    )

pub described : (set_of : List ℕ → Option Configuration) (speed : Speed) (f : DescriptorFile) → ReadsSets set_of → Accepted f speed → AreBytes (file_bytes f) → IsDescribed set_of speed f
described set_of speed f exact a fits =
    let d = device_bytes f.device in
    let m = sets_bytes f.sets in
    let o = other_bytes f.other in
    let s = strings_bytes f.strings in
    let three : AreBytes (d ++ m ++ o) = bytes_before (d ++ m ++ o) s fits in
    let two : AreBytes (d ++ m) = bytes_before (d ++ m) o three in
    let one : AreBytes d = bytes_before d m two in
    let main : AreBytes m = bytes_behind d m two in
    let other : AreBytes o = bytes_behind (d ++ m) o three in
    record {
      accepted = a;
      few = byte_at d 17 one;
      other_few = other_fits f.other other;
      value_fits = value_fits f.sets main;
      sets = sets_read set_of exact kinds.Configuration f.sets (sets_sound f a.sets) main;
      other = other_read set_of exact f.other (other_sets_sound f a.sets) other;
      strings = strings_read (named_indices f) f.strings (λ u e. strings_right f u a.strings e);
    }
