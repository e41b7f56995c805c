-- The faults of a set, as faults of a file.
use Rattle.std.proofs.Common.{◌≡◌, ◌≢◌, ℕ, ◌+◌, ◌*◌, cond, Bool, true, false, ◌⊎◌, inl, inr, List, [], ◌∷◌, length, Option, Some, None, Err, refl, ap, sym, subst}
use Rattle.std.specs.Prelude.{nat_lt, ◌==◌}
use Rattle.usb_set.specs.declared.tree.SetKind.{SetKind}
use Rattle.usb_set.specs.declared.fault.SetFault.{SetFault}
use Rattle.usb_set.specs.declared.fault.SetWhy.{SetWhy}
use Rattle.usb_set.specs.declared.fault.SetWhy.TheVariants as sets
use Rattle.usb_set.specs.Faults.{Fault, Faulty, IsOpen, header_fault, is_set_type, item_fault, least_length, total_fault}
use Rattle.usb_set.specs.Decoding.{ReadsSet}
use Rattle.usb_file_data.specs.declared.fault.FileFault.{FileFault}
use Rattle.usb_file.specs.inside.Reading.{SetRefused, set_refusal}

-- ---- no bytes of a set show that they end too early

neither : {A : Type 0} (test : Bool) (x y report : A) → (x ≡ report → ⊥) → (y ≡ report → ⊥) → cond test x y ≡ report → ⊥
neither true x y report not_x not_y h = not_x h
neither false x y report not_x not_y h = not_y h

-- the end of the bytes, reported at a place
abbrev cut_at : ℕ → Option Fault
cut_at place = Some (place, sets.Truncated)

reported_else : (n place : ℕ) (why : SetWhy) → why ≢ sets.Truncated → Some (n, why) ≡ cut_at place → ⊥
reported_else n place why not h =
    let found : ℕ × SetWhy = (n, why) in
    let report : ℕ × SetWhy = (place, sets.Truncated) in
    let pairs : found ≡ report = cc in
    not (ap (λ (p : ℕ × SetWhy). p.1) pairs)

reports_nothing : (place : ℕ) → None ≡ cut_at place → ⊥
reports_nothing place h = cc

header_never : (b : List ℕ) (place : ℕ) → header_fault b ≡ cut_at place → ⊥
header_never [] place = reports_nothing place
header_never (len ∷ []) place = neither (nat_lt len 9) _ _ (cut_at place) (reported_else 0 place sets.HeaderLength (λ e. cc)) (reports_nothing place)
header_never (len ∷ kind ∷ rest) place =
    neither (nat_lt len 9) _ _ (cut_at place) (reported_else 0 place sets.HeaderLength (λ e. cc))
    (neither (is_set_type kind) _ _ (cut_at place) (total_never rest) (reported_else 1 place sets.HeaderKind (λ e. cc)))
  where
    total_never : (rest : List ℕ) → total_fault len rest ≡ cut_at place → ⊥
    total_never [] = reports_nothing place
    total_never (low ∷ []) = reports_nothing place
    total_never (low ∷ high ∷ rest) = neither (nat_lt (low + 256 * high) len) _ _ (cut_at place) (reported_else 2 place sets.Total (λ e. cc)) (reports_nothing place)

item_never : (room : ℕ) (in_setting : Bool) (b : List ℕ) → item_fault room in_setting b ≡ Some sets.Truncated → ⊥
item_never room in_setting [] = λ h. cc
item_never room in_setting (len ∷ []) =
    neither (nat_lt len 2) _ _ _ (λ h. cc) (neither (nat_lt room len) _ _ _ (λ h. cc) (λ h. cc))
item_never room in_setting (len ∷ kind ∷ rest) =
    neither (nat_lt len 2) _ _ _ (λ h. cc) (neither (nat_lt room len) _ _ _ (λ h. cc)
    (neither (is_set_type kind) _ _ _ (λ h. cc) (neither (nat_lt len (least_length kind)) _ _ _ (λ h. cc)
    (neither (kind == 5) _ _ _ (neither in_setting _ _ _ (λ h. cc) (λ h. cc)) (λ h. cc)))))

never : (b : List ℕ) (place : ℕ) → Faulty b place sets.Truncated → ⊥
never b place (inl h) = header_never b place h
never b place (inr h) = item_never _ _ h.rest h.fault

-- ---- what a set's reader refuses, the file's reader does

-- why a set was refused
abbrev Reported : List ℕ → ℕ → SetWhy → Type 0
Reported rest at why = ((at ≡ length rest) × (why ≡ sets.Truncated) × IsOpen rest) ⊎ ((why ≡ sets.Memory) ⊎ Faulty rest at why)

refusal_of : (kind : SetKind) (rest : List ℕ) (at : ℕ) (why : SetWhy) → Reported rest at why → SetRefused kind rest (set_refusal why at).at (set_refusal why at).why
refusal_of kind rest at sets.Memory h = refl
refusal_of kind rest at sets.Truncated (inl h) = (h.2, h.0)
refusal_of kind rest at sets.Truncated (inr (inl e)) = cc
refusal_of kind rest at sets.Truncated (inr (inr f)) = absurd (never rest at f)
refusal_of kind rest at why (inl h) = let not = h.1 in cc
refusal_of kind rest at why (inr (inl e)) = cc
refusal_of kind rest at why (inr (inr f)) = f

pub refuses : (kind : SetKind) (rest : List ℕ) (fault : SetFault) (report : FileFault) → ReadsSet rest (Err fault) → report ≡ set_refusal fault.why fault.at
    → SetRefused kind rest report.at report.why
refuses kind rest fault report h e = subst (λ t. SetRefused kind rest t.at t.why) (sym e) (refusal_of kind rest fault.at fault.why (reported_of h))
  where
    reported_of : ReadsSet rest (Err fault) → Reported rest fault.at fault.why
    reported_of (inl ended) = inl (ap (λ f. f.at) ended.0, ap (λ f. f.why) ended.0, ended.1)
    reported_of (inr (inl faulty)) = inr (inr faulty)
    reported_of (inr (inr wants)) = inr (inl wants.why)
