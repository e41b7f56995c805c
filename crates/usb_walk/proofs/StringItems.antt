-- The strings of a walk, by what each of its descriptors is and by its bytes.
use Rattle.std.proofs.Common.{◌≡◌, ◌≤◌, ℕ, ◌+◌, List, [], ◌∷◌, ◌++◌, Bool, true, false, map, take, drop, slice_index, refl, ap, ◌∙◌, arith, zero, suc}
use Rattle.std.specs.Prelude.{fold}
use Rattle.usb_walk.specs.declared.position.Position.{Position}
use Rattle.usb_walk.specs.declared.role.Role.{Role}
use Rattle.usb_walk.specs.declared.role.Role.TheVariants as roles
use Rattle.usb_walk.specs.declared.string_place.StringPlace.{StringPlace}
use Rattle.usb_walk.specs.declared.walked_descriptor.WalkedDescriptor.{WalkedDescriptor}
use Rattle.usb_walk.specs.NamedStrings.{indices_in, indices_of_role, list_at, string_among, with_index}
use Rattle.usb_walk.specs.Numbered.{Numbered}
use Rattle.usb_walk.specs.Positions.{noted, position_at, with_set}
use Rattle.usb_walk.specs.Trees.{TreeDescriptor}
use Rattle.usb_walk.specs.WalkedDescriptors.{all_as_numbers, as_numbers, nothing}
use Rattle.usb_walk.specs.WalkedStrings.{IndexedString, strings_among, strings_walked}
use Rattle.usb_walk.proofs.TreeWalks.{by_tree}
use Rattle.usb_walk.proofs.WalkSteps.{Behind, Continues, by_steps, numbered, numbered_at}
use Rattle.usb_walk.proofs.Walking.{walk_by_positions}

-- a string of this place with these bytes
abbrev pub string_with : List ℕ → StringPlace → IndexedString
string_with bytes place = record { index = place.index; language = place.language; bytes = bytes }

-- the string that a descriptor is, if it is one
abbrev pub string_here : Role → List ℕ → List ℕ → ℕ → List ℕ → List IndexedString
string_here roles.Text words list number bytes = string_with bytes (string_among (indices_in words) list number) ∷ []
string_here role words list number bytes = []

-- the list of languages behind a descriptor
abbrev pub list_after : Role → List ℕ → List ℕ → List ℕ
list_after roles.Languages bytes list = bytes
list_after role bytes list = list

-- how many strings came with it
abbrev pub number_after : Role → ℕ → ℕ
number_after roles.Text number = number + 1
number_after role number = number

-- the strings among descriptors, behind those that named these indices, the list of languages and this many strings
abbrev pub strings_from : List ℕ → List ℕ → ℕ → List TreeDescriptor → List IndexedString
strings_from words list number [] = []
strings_from words list number (t ∷ ts) =
    string_here t.role words list number t.bytes
    ++ strings_from (fold with_index words (indices_of_role t.role t.bytes)) (list_after t.role t.bytes list) (number_after t.role number) ts

-- ---- one descriptor

-- the numbers of a descriptor of this role at a position
abbrev numbers : List ℕ → WalkedDescriptor → Role → Position → List ℕ → WalkedDescriptor
numbers b was role p d = as_numbers b was (record { position = p; role = role; bytes = d })

here_is : (role : Role) (b : List ℕ) (was : WalkedDescriptor) (p : Position) (d : List ℕ) (rest : List WalkedDescriptor) → take (slice_index d 0) (drop p.at b) ≡ d
    → strings_among b (numbers b was role p d ∷ rest)
    ≡ string_here role was.named (list_at b was.languages_place) was.position.strings d ++ strings_among b rest
unfolding as_numbers
here_is roles.Device b was p d rest e = refl
here_is roles.Configuration b was p d rest e = refl
here_is roles.Interface b was p d rest e = refl
here_is roles.Endpoint b was p d rest e = refl
here_is roles.Association b was p d rest e = refl
here_is roles.Raw b was p d rest e = refl
here_is roles.Qualifier b was p d rest e = refl
here_is roles.Languages b was p d rest e = refl
here_is roles.Text b was p d rest e =
    ap (λ bytes. string_with bytes (string_among (indices_in was.named) (list_at b was.languages_place) was.position.strings) ∷ strings_among b rest) e

list_is : (role : Role) (b : List ℕ) (was : WalkedDescriptor) (p : Position) (d : List ℕ) → list_at b p.at ≡ d
    → list_at b (numbers b was role p d).languages_place ≡ list_after role d (list_at b was.languages_place)
unfolding as_numbers
list_is roles.Device b was p d e = refl
list_is roles.Configuration b was p d e = refl
list_is roles.Interface b was p d e = refl
list_is roles.Endpoint b was p d e = refl
list_is roles.Association b was p d e = refl
list_is roles.Raw b was p d e = refl
list_is roles.Qualifier b was p d e = refl
list_is roles.Languages b was p d e = e
list_is roles.Text b was p d e = refl

set_strings : (is_other : Bool) (p : Position) → (with_set is_other p).strings ≡ p.strings
set_strings true p = refl
set_strings false p = refl

noted_strings : (role : Role) (d : List ℕ) (p : Position) → (noted role d p).strings ≡ number_after role p.strings
unfolding noted
noted_strings roles.Device d p = refl
noted_strings roles.Qualifier d p = refl
noted_strings roles.Configuration d p = set_strings p.is_other p
noted_strings roles.Association d p = refl
noted_strings roles.Interface d p = refl
noted_strings roles.Endpoint d p = refl
noted_strings roles.Raw d p = refl
noted_strings roles.Languages d p = refl
noted_strings roles.Text d p = refl

same_strings : (role : Role) (ahead : List ℕ) (p : Position) → (position_at role ahead p).strings ≡ p.strings
same_strings roles.Device ahead p = refl
same_strings roles.Configuration ahead p = refl
same_strings roles.Association ahead p = refl
same_strings roles.Interface ahead p = refl
same_strings roles.Endpoint ahead p = refl
same_strings roles.Raw ahead p = refl
same_strings roles.Qualifier ahead p = refl
same_strings roles.Languages ahead p = refl
same_strings roles.Text ahead p = refl

number_is : (b : List ℕ) (was : WalkedDescriptor) (n : Numbered) → (as_numbers b was n).position.strings ≡ number_after n.role n.position.strings
unfolding as_numbers
number_is b was n = noted_strings n.role n.bytes n.position

named_is : (b : List ℕ) (was : WalkedDescriptor) (n : Numbered) → (as_numbers b was n).named ≡ fold with_index was.named (indices_of_role n.role n.bytes)
unfolding as_numbers
named_is b was n = refl

-- ---- all of them

-- the strings behind a descriptor
abbrev strings_behind : List ℕ → WalkedDescriptor → List Numbered → List IndexedString
strings_behind b was ns = strings_from was.named (list_at b was.languages_place) was.position.strings (map by_tree ns)

-- the strings of a walk are those of its descriptors by their positions
abbrev StringsSame : List ℕ → Behind
StringsSame b n was ns = strings_among b (all_as_numbers b was ns) ≡ strings_behind b was ns

one_more : (b : List ℕ) → Continues b (StringsSame b)
one_more b n was next ns step later =
    let p = was.position in
    let ahead = drop p.at b in
    let m = numbered_at b p next in
    let d = as_numbers b was m in
    let items = map by_tree ns in
    let words = fold with_index was.named (indices_of_role next.0 m.bytes) in
    let bytes : take (slice_index m.bytes 0) (drop m.position.at b) ≡ m.bytes = ap (λ k. take k (drop m.position.at b)) step.first ∙ ap (λ k. take next.1 (drop k b)) step.place in
    let list : list_at b m.position.at ≡ m.bytes = ap (λ k. list_at b k) step.place ∙ ap (λ k. take k ahead) (head_same next.1 ahead step.least ∙ step.first) in
    let number : d.position.strings ≡ number_after next.0 p.strings = number_is b was m ∙ ap (number_after next.0) (same_strings next.0 ahead p) in
    here_is next.0 b was m.position m.bytes (all_as_numbers b d ns) bytes
    ∙ ap (λ l. string_here next.0 was.named (list_at b was.languages_place) p.strings m.bytes ++ l)
    (later
    ∙ ap (λ words. strings_from words (list_at b d.languages_place) d.position.strings items) (named_is b was m)
    ∙ ap (λ list. strings_from words list d.position.strings items) (list_is next.0 b was m.position m.bytes list)
    ∙ ap (λ number. strings_from words (list_after next.0 m.bytes (list_at b was.languages_place)) number items) number)
  where
    head_same : (n : ℕ) (l : List ℕ) → 2 ≤ n → slice_index l 0 ≡ slice_index (take n l) 0
    head_same zero l some = absurd (omega (arith, some))
    head_same (suc n) [] some = refl
    head_same (suc n) (x ∷ l) some = refl

pub strings_by_positions : (b : List ℕ) → strings_walked b ≡ strings_behind b nothing (numbered b)
strings_by_positions b = ap (strings_among b) (walk_by_positions b) ∙ by_steps b (StringsSame b) (λ n was none. refl) (one_more b)
