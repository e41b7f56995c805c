-- What is gathered of a set, and its survey.
use Rattle.std.proofs.Common.{◌≡◌, ◌≢◌, ◌≤◌, ◌<◌, ◌+◌, ◌==◌, ◌||◌, ◌⊎◌, inl, inr, nat_le, nat_lt, ℕ, Bool, true, false, List, [], ◌∷◌, length, if◌then◌else◌, map, replicate, slice_index, Option, Some, None, refl, sym, ap, ◌∙◌, arith, zero-add}
use Rattle.std.proofs.Math.Bool.{or-false}
use Rattle.std.specs.List.{list_any, range_with_len}
use Rattle.std.specs.Option.{option_or}
use Rattle.std.proofs.lemmas.Bool.{and_from, and_parts, cases_lt, eqb-false, le-leb, lt-ltb, ltb-true, ne_eqb}
use Rattle.std.proofs.lemmas.Bool.Decides.{nat_tests}
use Rattle.std.proofs.lemmas.List.{ext_get_or, get_or-map, get_or-replicate, length-replicate}
use Rattle.std.proofs.lemmas.List.FromFn.{get_or-map-range_with_len, length-map-range_with_len}
use Rattle.usb_remarks.specs.declared.speed_evidence.Evidence.{Evidence}
use Rattle.usb_remarks.specs.Bindings.{binding, bindings, binds, bound_at}
use Rattle.usb_remarks.specs.InterfaceNumbers.{has_number, has_setting, interface_numbers, is_numbered}
use Rattle.usb_remarks.specs.SetSpeeds.{Survey, evidence_of, excludes_low, hints_low_or_full, is_companion, proves_full, proves_high, survey_of}
use Rattle.usb_remarks.specs.inside.Walking.{AllBound, Gathers, Collects, bound_cell, bound_first, bound_with, collected}

-- the first of two, of which there is one alone
or_none : (x : Option ℕ) → option_or x None ≡ x
or_none None = refl
or_none (Some x) = refl

-- a table with the binding of each number
pub whole_table : (all : List (List ℕ)) (t : List (Option ℕ)) → length t ≡ 256
    → ((n : ℕ) → n < 256 → binding n 0 all ≡ bound_at t n) → t ≡ bindings all
unfolding bindings
whole_table all t len same =
    ext_get_or None t (map (λ n. binding n 0 all) (range_with_len 0 256)) (len ∙ sym (length-map-range_with_len (λ n. binding n 0 all) 0 256))
    (λ i within. sym (same i (omega (arith, len))) ∙ sym (get_or-map-range_with_len (λ n. binding n 0 all) 0 256 i i None (omega (arith, len)) (zero-add i)))

-- what a cell says, in the table of all
pub cell_at : (cells : List ℕ) (n : ℕ) → length cells ≡ 256 → n < 256 → bound_at (map bound_cell cells) n ≡ bound_cell (slice_index cells n)
cell_at cells n len within = get_or-map bound_cell cells n 0 None (omega (arith, len))

-- and after an association
pub cell_bound : (cell association : ℕ) (binds : Bool) → association < 65535
    → bound_cell (if binds then bound_first cell association else cell) ≡ option_or (bound_cell cell) (if binds then Some association else None)
cell_bound cell association binds below = grind (arith, nat_tests)

none_more : (cell association : ℕ) (binds : Bool) → (binds ≡ true → cell ≢ 65535)
    → bound_cell cell ≡ option_or (bound_cell cell) (if binds then Some association else None)
none_more cell association false is = sym (or_none (bound_cell cell))
none_more cell association true is =
    let other : (cell == 65535) ≡ false = ne_eqb cell 65535 (is refl) in rw other refl

-- an association of numbers that are bound binds none
pub none_bound : (cells : List ℕ) (bound association first count n : ℕ) → AllBound bound cells → first + count ≤ bound
    → bound_cell (slice_index cells n) ≡ option_or (bound_cell (slice_index cells n)) (if binds first count n then Some association else None)
none_bound cells bound association first count n all end =
    none_more (slice_index cells n) association (binds first count n)
    (λ is. let below : n < first + count = ltb-true n (first + count) (and_parts (nat_le first n) (nat_lt n (first + count)) is).1 in all n (omega (arith, below, end)))

first_stays : (cell association : ℕ) (is : Bool) → (cell == 65535) ≡ is → association < 65535 → bound_first cell association ≢ 65535
first_stays cell association true e below = rw e (λ same. absurd (omega (arith, same, below)))
first_stays cell association false e below = rw e (eqb-false cell 65535 e)

either_stays : (cell association : ℕ) (binds : Bool) → association < 65535 → cell ≢ 65535 ⊎ (binds ≡ true) → (if binds then bound_first cell association else cell) ≢ 65535
either_stays cell association true below why = first_stays cell association (cell == 65535) refl below
either_stays cell association false below (inl is) = is
either_stays cell association false below (inr e) = cc

-- each number of an association is bound before it, or by it
bound_or_binds : (old : List ℕ) (bound first count n : ℕ) → AllBound bound old → first ≤ bound → n < first + count
    → slice_index old n ≢ 65535 ⊎ (binds first count n ≡ true)
bound_or_binds old bound first count n all before within =
    elim (cases_lt n bound) [
      | inl below ↦ inl (all n below)
      | inr above ↦ inr (and_from (nat_le first n) (nat_lt n (first + count)) (le-leb first n (omega (arith, above, before))) (lt-ltb n (first + count) within))
    ]

-- what was bound still is
pub still_bound : (old new : List ℕ) (bound association first count : ℕ) → bound ≤ 256 → association < 65535 → AllBound bound old
    → ((n : ℕ) → n < 256 → slice_index new n ≡ (if binds first count n then bound_first (slice_index old n) association else slice_index old n))
    → AllBound bound new
still_bound old new bound association first count most below all is = λ n within.
    let n_most : n < 256 = omega (arith, within, most) in
    rw (is n n_most) (either_stays (slice_index old n) association (binds first count n) below (inl (all n within)))

-- and so are the numbers of the association, where those before it were
pub now_bound : (old new : List ℕ) (bound association first count end : ℕ) → bound ≤ 256 → association < 65535 → AllBound bound old
    → first ≤ bound → end ≤ 256 → end ≤ first + count
    → ((n : ℕ) → n < 256 → slice_index new n ≡ (if binds first count n then bound_first (slice_index old n) association else slice_index old n))
    → AllBound end new
now_bound old new bound association first count end most below all before end_most end_within is = λ n within.
    let n_most : n < 256 = omega (arith, within, end_most) in
    rw (is n n_most) (either_stays (slice_index old n) association (binds first count n) below (bound_or_binds old bound first count n all before (omega (arith, within, end_within))))

-- no descriptor was looked at
pub collects_none : (all : List (List ℕ)) → Collects all record { companion = false; high = false; full = false; above_low = false; slow = false } all
collects_none all = record { companion = refl; high = refl; full = refl; above_low = refl; slow = refl }

-- one more was looked at
collected_more : (p : List ℕ → Bool) (before : Bool) (d : List ℕ) (ds : List (List ℕ)) → before || list_any p (d ∷ ds) ≡ (before || p d) || list_any p ds
collected_more p true d ds = refl
collected_more p false d ds = refl

pub receives_on : (all : List (List ℕ)) (e : Evidence) (d : List ℕ) (ds : List (List ℕ)) → Collects all e (d ∷ ds) → Collects all (collected d e) ds
receives_on all e d ds h = record {
  companion = h.companion ∙ collected_more is_companion e.companion d ds;
  high = h.high ∙ collected_more proves_high e.high d ds;
  full = h.full ∙ collected_more proves_full e.full d ds;
  above_low = h.above_low ∙ collected_more excludes_low e.above_low d ds;
  slow = h.slow ∙ collected_more hints_low_or_full e.slow d ds;
}

-- what was collected of all descriptors is what they say
pub received_all : (all : List (List ℕ)) (e : Evidence) → Collects all e [] → e ≡ evidence_of all
received_all all e collects =
    let companion : list_any is_companion all ≡ e.companion = collects.companion ∙ or-false e.companion in
    let high : list_any proves_high all ≡ e.high = collects.high ∙ or-false e.high in
    let full : list_any proves_full all ≡ e.full = collects.full ∙ or-false e.full in
    let above_low : list_any excludes_low all ≡ e.above_low = collects.above_low ∙ or-false e.above_low in
    let slow : list_any hints_low_or_full all ≡ e.slow = collects.slow ∙ or-false e.slow in
    rw (companion, high, full, above_low, slow) refl

-- one descriptor more
pub numbers_on : (n : ℕ) (d : List ℕ) (ds : List (List ℕ)) (old new : Bool) → new ≡ (old || is_numbered n d) → old || has_setting n (d ∷ ds) ≡ new || has_setting n ds
unfolding has_setting
numbers_on n d ds true new is = rw is refl
numbers_on n d ds false new is = rw is refl

none_left : (n : ℕ) (x : Bool) → x || has_setting n [] ≡ x
unfolding has_setting
none_left n x = or-false x

-- a table with each number of an interface
numbers_table : (all : List (List ℕ)) (t : List Bool) → length t ≡ 256
    → ((n : ℕ) → n < 256 → has_setting n all ≡ has_number t n) → t ≡ interface_numbers all
unfolding interface_numbers
numbers_table all t len same =
    ext_get_or false t (map (λ n. has_setting n all) (range_with_len 0 256)) (len ∙ sym (length-map-range_with_len (λ n. has_setting n all) 0 256))
    (λ i within. sym (same i (omega (arith, len))) ∙ sym (get_or-map-range_with_len (λ n. has_setting n all) 0 256 i i false (omega (arith, len)) (zero-add i)))

-- nothing was gathered
pub gathers_none : (all : List (List ℕ)) → Gathers all record { companion = false; high = false; full = false; above_low = false; slow = false } (replicate 256 None) 0 (replicate 256 false) all
gathers_none all = record {
  cells = length-replicate {A = Option ℕ} 256 None;
  evidence = collects_none all;
  bindings = λ n within. sym (ap (λ x. option_or x (binding n 0 all)) (get_or-replicate 256 n None None within));
  number_cells = length-replicate {A = Bool} 256 false;
  numbers = λ n within. sym (ap (λ x. x || has_setting n all) (get_or-replicate 256 n false false within));
}

-- one descriptor more was gathered
pub gathered_on : (all : List (List ℕ)) (e : Evidence) (table : List (Option ℕ)) (count : ℕ) (names : List Bool) (d : List ℕ) (ds : List (List ℕ)) → Gathers all e table count names (d ∷ ds)
    → (table' : List (Option ℕ)) (count' : ℕ) (names' : List Bool)
    → (length table ≡ 256 → length table' ≡ 256)
    → ((n : ℕ) → n < 256 → (ds : List (List ℕ)) → bound_with table count n (d ∷ ds) ≡ bound_with table' count' n ds)
    → (length names ≡ 256 → length names' ≡ 256)
    → (length names ≡ 256 → (n : ℕ) → n < 256 → has_number names' n ≡ (has_number names n || is_numbered n d))
    → Gathers all (collected d e) table' count' names' ds
gathered_on all e table count names d ds gathers table' count' names' cells binds number_cells numbers = record {
  cells = cells gathers.cells;
  evidence = receives_on all e d ds gathers.evidence;
  bindings = λ n within. gathers.bindings n within ∙ binds n within ds;
  number_cells = number_cells gathers.number_cells;
  numbers = λ n within. gathers.numbers n within ∙ numbers_on n d ds _ _ (numbers gathers.number_cells n within);
}

-- what was gathered of all descriptors is their survey
pub gathered_all : (all : List (List ℕ)) (e : Evidence) (table : List (Option ℕ)) (count : ℕ) (names : List Bool) → Gathers all e table count names []
    → ◌≡◌ {A = Survey} record { spoken = e; bindings = table; interfaces = names } (survey_of all)
unfolding survey_of
gathered_all all e table count names gathers =
    let evidence : e ≡ evidence_of all = received_all all e gathers.evidence in
    let bound : table ≡ bindings all = whole_table all table gathers.cells (λ n within. gathers.bindings n within ∙ or_none (bound_at table n)) in
    let numbers : names ≡ interface_numbers all = numbers_table all names gathers.number_cells (λ n within. gathers.numbers n within ∙ none_left n (has_number names n)) in
    cc
