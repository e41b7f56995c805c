-- Descriptors one after another.
use Rattle.std.proofs.Common.{◌≡◌, ℕ, suc, ◌+◌, ◌-◌, ◌<◌, List, [], ◌∷◌, ◌++◌, refl, sym, subst, ◌∙◌, ap, arith, append_assoc}
use Rattle.std.specs.Prelude.{Option, Some, None, Result, Ok, Err, IfOk, MatchOption, map, option_and_then, unwrap_or}
use Rattle.std.specs.List.{range_with_len}
use Rattle.std.specs.Option.{option_map}
use Rattle.std.proofs.lemmas.List.{append-nil}
use Rattle.usb_capture.specs.declared.asked.Asked.{Asked}
use Rattle.usb_capture.specs.declared.control_transfer.ControlTransfer.{ControlTransfer}
use Rattle.usb_capture.specs.DeviceFiles.{IsDescriptor, dump_parts, file_bytes, named_by, other_parts, part, parts, set_bytes, string_bytes, string_parts}
use Rattle.usb_capture.specs.Findings.{beside}

-- these bytes and those of these descriptors, if they came
abbrev pub onto : List ℕ → List ControlTransfer → List Asked → Option (List ℕ)
onto b kept asked = option_map (λ more. b ++ more) (parts kept asked)

pub onto_none : (b : List ℕ) (kept : List ControlTransfer) → onto b kept [] ≡ Some b
onto_none b kept = ap Some (append-nil b)

pub onto_more : (b c : List ℕ) (kept : List ControlTransfer) (asked : Asked) (more : List Asked) → part kept asked ≡ Some c → onto b kept (asked ∷ more) ≡ onto (b ++ c) kept more
onto_more b c kept asked more is =
    ap (λ o. option_map (λ more. b ++ more) (option_and_then (λ c. option_map (λ rest. c ++ rest) (parts kept more)) o)) is ∙ by (parts kept more)
  where
    by : (o : Option (List ℕ)) → option_map (λ more. b ++ more) (option_map (λ rest. c ++ rest) o) ≡ option_map (λ more. (b ++ c) ++ more) o
    by None = refl
    by (Some rest) = ap Some (sym (append_assoc b c rest))

-- a configuration more
range_step : (index end : ℕ) → index < end → range_with_len index (end - index) ≡ index ∷ range_with_len (index + 1) (end - (index + 1))
range_step index end lt = let e : end - index ≡ suc (end - (index + 1)) = omega (arith, lt) in ap (range_with_len index) e

pub dump_step : (kept : List ControlTransfer) (device one : Asked) (index end from : ℕ) (old new b : List ℕ) (all : Option (List ℕ)) → index < end
    → onto old kept (map (λ i. beside device (512 + i)) (range_with_len index (end - index))) ≡ all
    → one ≡ beside device (512 + from) → from ≡ index → Some b ≡ part kept one → new ≡ old ++ b
    → onto new kept (map (λ i. beside device (512 + i)) (range_with_len (index + 1) (end - (index + 1)))) ≡ all
dump_step kept device one index end from old new b all lt so is same came pushed =
    let more = map (λ i. beside device (512 + i)) (range_with_len (index + 1) (end - (index + 1))) in
    let there : part kept (beside device (512 + index)) ≡ Some b = ap (part kept) (sym (is ∙ ap (λ n. beside device (512 + n)) same)) ∙ sym came in
    ap (λ n. onto n kept more) pushed
    ∙ sym (onto_more old b kept (beside device (512 + index)) more there)
    ∙ sym (ap (λ r. onto old kept (map (λ i. beside device (512 + i)) r)) (range_step index end lt))
    ∙ so

pub others_step : (device one : Asked) (index end from : ℕ) (old new all : List Asked) → index < end
    → old ++ map (λ i. beside device (1792 + i)) (range_with_len index (end - index)) ≡ all
    → one ≡ beside device (1792 + from) → from ≡ index → new ≡ old ++ one ∷ []
    → new ++ map (λ i. beside device (1792 + i)) (range_with_len (index + 1) (end - (index + 1))) ≡ all
others_step device one index end from old new all lt so is same pushed =
    let more = map (λ i. beside device (1792 + i)) (range_with_len (index + 1) (end - (index + 1))) in
    ap (λ n. n ++ more) (pushed ∙ ap (λ o. old ++ o ∷ []) (is ∙ ap (λ n. beside device (1792 + n)) same))
    ∙ append_assoc old (beside device (1792 + index) ∷ []) more
    ∙ sym (ap (λ r. old ++ map (λ i. beside device (1792 + i)) r) (range_step index end lt))
    ∙ so

-- a file of its parts
file_is : (kept : List ControlTransfer) (device : Asked) (d dump sets : List ℕ) (others strings : List Asked)
    → parts kept (dump_parts device d) ≡ Some dump → others ≡ other_parts device (part kept (beside device 1536))
    → option_map (λ more. dump ++ more) (parts kept others) ≡ Some sets
    → strings ≡ string_parts device (named_by sets) (unwrap_or (part kept (beside device 768)) [])
    → file_bytes kept device d ≡ option_map (λ more. sets ++ more) (parts kept strings)
file_is kept device d dump sets others strings main which joined named =
    let whole : set_bytes kept device d ≡ Some sets =
    ap (λ o. option_and_then (λ main. option_map (λ other. main ++ other) (parts kept (other_parts device (part kept (beside device 1536))))) o) main
    ∙ sym (ap (λ o. option_map (λ more. dump ++ more) (parts kept o)) which)
    ∙ joined in
    ap (λ o. option_and_then (λ sets. option_map (λ strings. sets ++ strings) (string_bytes kept device sets)) o) whole
    ∙ sym (ap (λ o. option_map (λ more. sets ++ more) (parts kept o)) named)

-- what was put together, where it was
pub joined_at : {V : Type 0} (items : V → List ℕ) (o : Option V) (v : V) (kept : List ControlTransfer) (b : List ℕ) (asked : List Asked)
    → MatchOption o (parts kept asked ≡ None) (λ v. option_map (λ more. b ++ more) (parts kept asked) ≡ Some (items v)) → o ≡ Some v
    → option_map (λ more. b ++ more) (parts kept asked) ≡ Some (items v)
joined_at items o v kept b asked is some = subst (λ o. MatchOption o (parts kept asked ≡ None) (λ v. option_map (λ more. b ++ more) (parts kept asked) ≡ Some (items v))) some is

pub file_made : {V E : Type 0} (items : V → List ℕ) (r : Result (Option V) E) (kept : List ControlTransfer) (device : Asked) (dump sets one other : List ℕ) (others strings : List Asked)
    → others ≡ other_parts device (part kept (beside device 1536))
    → option_map (λ more. dump ++ more) (parts kept others) ≡ Some sets
    → one ≡ sets → strings ≡ string_parts device (named_by one) (unwrap_or (part kept (beside device 768)) [])
    → other ≡ sets → IfOk r (λ o. MatchOption o (parts kept strings ≡ None) (λ v. option_map (λ more. other ++ more) (parts kept strings) ≡ Some (items v)))
    → IfOk r (λ o. (d : List ℕ) → IsDescriptor kept device d → parts kept (dump_parts device d) ≡ Some dump
    → MatchOption o (file_bytes kept device d ≡ None) (λ v. file_bytes kept device d ≡ Some (items v)))
file_made items (Ok None) kept device dump sets one other others strings which joined first named second is =
    λ d has main.
    file_is kept device d dump sets others strings main which joined (named ∙ ap (λ b. string_parts device (named_by b) (unwrap_or (part kept (beside device 768)) [])) first)
    ∙ ap (option_map (λ more. sets ++ more)) is
file_made items (Ok (Some v)) kept device dump sets one other others strings which joined first named second is =
    λ d has main.
    file_is kept device d dump sets others strings main which joined (named ∙ ap (λ b. string_parts device (named_by b) (unwrap_or (part kept (beside device 768)) [])) first)
    ∙ ap (λ b. option_map (λ more. b ++ more) (parts kept strings)) (sym second)
    ∙ is
file_made items (Err e) kept device dump sets one other others strings which joined first named second is = tt
