-- What is kept of the settings of a set that were entered.
use Rattle.std.specs.Prelude.{◌≡◌, ◌<◌, ℕ, ◌+◌, ◌==◌, ◌&&◌, ◌||◌, not, Bool, true, false, List, [], ◌∷◌, ◌++◌, get_or, length, map, slice_index_or, take}
use Rattle.std.specs.List.{list_any, range_with_len}
use Rattle.usb_fields.specs.Marks.{marked, is_marked}
use Rattle.usb_set.specs.declared.extra.Association.{Association}
use Rattle.usb_set.specs.declared.tree.Setting.{Setting}
use Rattle.usb_file_data.specs.declared.interfaces.Interface.{Interface}
use Rattle.usb_file_data.specs.Places.{at_each, is_among, when}
use Rattle.usb_file_data.specs.Rules.{is_first, number_of}

-- which interface numbers there are, with which alternates, and where each comes first
pub record Entered : Type 0 where
  pub numbers : ℕ → Bool
  pub alternates : ℕ → ℕ → Bool
  pub firsts : List (ℕ × ℕ)

-- no setting
abbrev pub none_entered : Entered
none_entered = record { numbers = λ n. false; alternates = λ n a. false; firsts = [] }

-- an interface of this number begins at the setting of this place
abbrev pub begun : ℕ → ℕ → Entered → Entered
begun number setting e = record { numbers = marked e.numbers number; alternates = e.alternates; firsts = e.firsts ++ (number, setting) ∷ [] }

-- this pair too
unfoldable pub pair_too : ℕ → ℕ → (ℕ → ℕ → Bool) → ℕ → ℕ → Bool
pair_too n a pairs m b = ((n == m) && (a == b)) || pairs m b

-- a setting more of an interface that began
abbrev pub with_alternate : ℕ → ℕ → Entered → Entered
with_alternate n a e = record { numbers = e.numbers; alternates = pair_too n a e.alternates; firsts = e.firsts }

-- the interface of this number too, which began at the setting of this place if it was not there before
abbrev pub with_interface : ℕ → ℕ → Entered → Entered
with_interface n setting e = record { numbers = marked e.numbers n; alternates = e.alternates; firsts = e.firsts ++ when (not (e.numbers n)) (n, setting) }

-- the setting of this place too
abbrev pub entered : ℕ → Setting → Entered → Entered
entered setting s e = with_alternate s.number s.alternate (with_interface s.number setting e)

-- the interface that begins at a setting, by its place
abbrev pub first_at : List Setting → ℕ → Setting → List (ℕ × ℕ)
first_at settings j s = when (is_first (take j settings) s) (s.number, j)

-- each interface number with the place of its first setting, in the order of these
abbrev pub firsts_of : List Setting → List (ℕ × ℕ)
firsts_of settings = at_each (first_at settings) 0 settings

-- whether a setting of the list has this number and alternate
abbrev pub has_alternate : List Setting → ℕ → ℕ → Bool
has_alternate settings n a = list_any (λ t. (t.number == n) && (t.alternate == a)) settings

-- just these settings were entered
pub record AreEntered (settings : List Setting) (e : Entered) : Type 0 where
  pub numbers : e.numbers ≡ is_among (map number_of settings)
  pub alternates : e.alternates ≡ has_alternate settings
  pub firsts : e.firsts ≡ firsts_of settings

-- each interface has an alternate setting 0
abbrev pub HaveDefaults : Entered → Type 0
HaveDefaults e = (n : ℕ) → e.numbers n ≡ true → e.alternates n 0 ≡ true

-- none of the settings before this place has the number and alternate of an earlier one
abbrev pub AreNew : List Setting → ℕ → Type 0
AreNew settings i = (j : ℕ) → j < i → (s : Setting) → s ≡ get_or settings j s → has_alternate (take j settings) s.number s.alternate ≡ false

-- no setting breaks V3 or V4
pub record NoneBreaksV3OrV4 (settings : List Setting) : Type 0 where
  pub repeated : AreNew settings (length settings)
  pub defaults : (n : ℕ) → is_among (map number_of settings) n ≡ true → has_alternate settings n 0 ≡ true

-- the numbers and alternates that V3 and V4 compare a setting with: those before it, where one may break a rule, and
-- else such that none does
abbrev pub compared_with : Bool → Entered → Entered
compared_with may_break e = record e { numbers = λ n. not may_break || e.numbers n; alternates = λ n a. may_break && e.alternates n a }

-- an interface by its number and the place of its first setting
abbrev pub first_of : Interface → ℕ × ℕ
first_of i = (i.number, i.first)

-- the number of the interface at a place, and else another than this
abbrev pub number_at : List Interface → ℕ → ℕ → ℕ
number_at list place n = slice_index_or (map (λ i. i.number) list) place (n + 1)

-- the place of the interface of a number, if it has one
abbrev pub place_of : List ℕ → ℕ → ℕ
place_of places n = slice_index_or places n 0

-- the fields of a value that keeps this
pub record InterfaceTable : Type 0 where
  pub list : List Interface
  pub places : List ℕ
  pub marks : List ℕ

-- each number with a mark has an interface at its place
pub record AreFound (t : InterfaceTable) : Type 0 where
  pub room : length t.places ≡ 256
  pub found : (n : ℕ) → is_marked t.marks n ≡ true → number_at t.list (place_of t.places n) n ≡ n

-- what these say
abbrev pub entries : (ℕ → Bool) → List (List ℕ) → List ℕ → List (ℕ × ℕ) → Entered
entries stands rows places firsts = record {
  numbers = stands;
  alternates = λ n a. stands n && is_marked (slice_index_or rows (place_of places n) []) a;
  firsts = firsts;
}

-- what the fields say
unfoldable pub kept : InterfaceTable → Entered
kept t = entries (is_marked t.marks) (map (λ i. i.alternates) t.list) t.places (map first_of t.list)

-- the association has no interface, or one of its numbers isn't among these
abbrev pub misses_some : (ℕ → Bool) → Association → Bool
misses_some stands a = (a.count == 0) || list_any (λ n. not (stands n)) (range_with_len a.first a.count)
