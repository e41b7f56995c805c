-- What the prefix of a set says of it.
use Rattle.std.proofs.Common.{◌≡◌, ℕ, ◌+◌, ◌*◌, ◌/◌, ◌%◌, ◌≤◌, ◌==◌, true, false, List, ◌∷◌, ◌++◌, length, take, get_or, Some, refl, ap, ◌∙◌, arith, length-append, length-take, get_or-take, lit<}
use Rattle.std.proofs.lemmas.Bool.Decides.{nat_tests}
use Rattle.std.specs.List.{flat_map}
use Rattle.usb_set.specs.declared.tree.SetKind.{SetKind}
use Rattle.usb_set.specs.declared.tree.Configuration.{Configuration}
use Rattle.usb_set.specs.Descriptors.{type_number, descriptor_bytes}
use Rattle.usb_set.specs.Layout.{later_descriptors, set_length}
use Rattle.usb_set.proofs.Sets.{length-set_bytes}
use Rattle.usb_file_data.specs.File.{whole_set, has_no_layout, is_other_kind}
use Rattle.usb_file_data.proofs.WholeSets.{whole_length}
use Rattle.usb_host.specs.Read.{total_said, total_in}
use Rattle.usb_set.proofs.Items.{two_bytes}

-- what a set that has bytes says in its first bytes
pub record IsHeaded (kind : SetKind) (c : Configuration) : Type 0 where
  pub long : 9 ≤ length (whole_set c)
  pub short : length (whole_set c) ≤ 65535
  pub kind_is : (type_number c.kind == type_number kind) ≡ true
  pub announces : total_in (type_number kind) (take 9 (whole_set c)) ≡ Some (length (whole_set c))

-- the bytes from the first descriptor on
pub headed_bytes : (c : Configuration) → (rest : List ℕ) × (whole_set c ≡
    (2 + length (set_length c % 256 ∷ set_length c / 256 ∷ c.declared_interfaces ∷ c.value ∷ c.text ∷ c.attributes ∷ c.power ∷ c.tail)) ∷ type_number c.kind
    ∷ set_length c % 256 ∷ set_length c / 256 ∷ c.declared_interfaces ∷ c.value ∷ c.text ∷ c.attributes ∷ c.power ∷ (c.tail ++ rest))
unfolding whole_set
headed_bytes c = (flat_map descriptor_bytes (later_descriptors c), refl)

pub length_is : (c : Configuration) → length (whole_set c) ≡ set_length c
unfolding whole_set
length_is c = length-set_bytes c (set_length c) 0

said : (kind count first kind_said total : ℕ) → count ≡ 9 → 9 ≤ first → kind_said ≡ kind → first ≤ total → total_said kind count first kind_said total ≡ Some total
said kind count first kind_said total c f k t = grind (arith, nat_tests)

pub headed : (kind : SetKind) (c : Configuration) → is_other_kind kind c ≡ false → has_no_layout c ≡ false → IsHeaded kind c
headed kind c kind_right layout_right =
    let (rest, is) = headed_bytes c in
    let b = whole_set c in
    let size = length_is c in
    let all = ap length is in
    let sum = length-append c.tail rest in
    let short = whole_length c layout_right in
    let zeroth : get_or b 0 0 ≡ 2 + length (set_length c % 256 ∷ set_length c / 256 ∷ c.declared_interfaces ∷ c.value ∷ c.text ∷ c.attributes ∷ c.power ∷ c.tail) = ap (λ x. get_or x 0 0) is in
    let kind_said : get_or b 1 0 ≡ type_number c.kind = ap (λ x. get_or x 1 0) is in
    let low : get_or b 2 0 ≡ set_length c % 256 = ap (λ x. get_or x 2 0) is in
    let high : get_or b 3 0 ≡ set_length c / 256 = ap (λ x. get_or x 3 0) is in
    let same : type_number c.kind ≡ type_number kind = grind (arith, nat_tests) in
    let total : get_or b 2 0 + 256 * get_or b 3 0 ≡ length b = (let t = two_bytes (set_length c) in omega arith) in
    record {
      long = omega arith;
      short = short;
      kind_is = grind (arith, nat_tests);
      announces =
          rw (get_or-take 9 b 0 0 (lit< tt), get_or-take 9 b 1 0 (lit< tt), get_or-take 9 b 2 0 (lit< tt), get_or-take 9 b 3 0 (lit< tt), total)
          (said (type_number kind) (length (take 9 b)) (get_or b 0 0) (get_or b 1 0) (length b)
          (simp length-take (omega arith)) (omega arith) (kind_said ∙ same) (omega arith));
    }
