-- Tables of names.
use Rattle.std.specs.Prelude.{ℕ, List, Option, option_map, ◌==◌, ◌&&◌, Bool, find, length, nat_le}
use Rattle.std.specs.Borrow.{Bor}
use Rattle.std.specs.List.{list_all}

-- a printable character of ASCII: 20 to 7e hexadecimal
abbrev pub is_printable : ℕ → Bool
is_printable x = nat_le 32 x && nat_le x 126

-- a name: at most 62 of them
abbrev pub is_name : List ℕ → Bool
is_name text = list_all is_printable text && nat_le (length text) 62

-- a row: a code, or several, and the name
abbrev pub Named : Type 0 → Type 0
Named Code = Code × List ℕ

-- the names of these rows are names
abbrev pub have_names : {Code : Type 0} → List (Named Code) → Bool
have_names {Code} rows = list_all (λ (row : Named Code). is_name row.1) rows

-- the name in the first row whose code passes the test
abbrev pub name_where : {Code : Type 0} → (Code → Bool) → List (Named Code) → Option (List ℕ)
name_where {Code} test rows = option_map (λ (row : Named Code). row.1) (find (λ (row : Named Code). test row.0) rows)

-- the name of a number
unfoldable pub name_of : List (Named ℕ) → ℕ → Option (List ℕ)
name_of rows code = name_where (λ its. its == code) rows

-- a row of the code
abbrev pub row_of : {Code : Type 0} → Code × Bor (List ℕ) → Named Code
row_of row = (row.0, row.1.now)

-- what a reference is in a constant
abbrev pub Ref : Type 0 → Type 0
Ref Value = record { now : Value }

-- a row of a constant of the code
abbrev pub of_constant : {Code : Type 0} → Code × Ref (List ℕ) → Named Code
of_constant row = (row.0, row.1.now)
