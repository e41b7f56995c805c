-- The walk of a function that takes a handle apart and puts the two fields together again, as a handle by another name.
use Rattle.std.proofs.Common.{◌≡◌, List, [], ◌∷◌, ◌++◌, refl, sym, ap, subst}
use seplogic.Ra.Ura.{Ura}
use mir.Syntax.{Fn, Callee, Ty, ty_ptr, local, value_local, place, field, copy, assign, rv_opd, aggregate, seq, return}
use mir.Val.{Val}
use base.Logic.{SProp, ent, id⊢, emp}
use prog.Model.{Model}
use prog.Wp.{WpFn, Closed}
use types.Logic.{Logic}
use types.Kit.{‵, raw, ◌⊛◌, ◌$◌, ◌∵◌, !, qed, by, move, keep, split, fsplit, fjoin, suffices, rewrite, use0}
use types.Run.{of_opd, stop, fld, no_more, and_then, returns, enter}
use types.ByLocal.{alloc_all, pass_all, free_all, look_at, get, get_in, sets}
use types.Part.{agg, sub, whole}
use contract.Monad.{fact, fact_i}
use contract.Running.{Running, tables}
use denote.Exit.{yes}
use denote.RattleType.{RattleType, owns}
use denote.RawPtr.{ptr_val}
use denote.Signature.{types_at, plain}
use denote.Steps.{nothing}
use denote.Param.{layout}
use denote.Triple.Clauses.{Ended, Clauses, closing}
use denote.Triple.Entry.{alive}
use denote.Triple.Spec.{Meets}
use denote.Triple.Walked.{Stays, stay_dropped, walk_of, Goes-dropped}
use Rattle.std.proofs.raw_atomic.Walks.{proved_at, leaves}
use Rattle.usb_c.proofs.HandleValues.{Z, both, Handle, row, Owns, Parts, pair_good, ptr_good, handle_in, handle_out}

-- `let F { at, alloc } = f; G { at: at as *mut X, alloc }`
abbrev regroup : Ty → Ty → Fn
regroup f g = record {
  lifetimes = 0;
  outlives = [];
  ty_params = [];
  givens = 0;
  params = 1;
  locals = local g value_local ∷ local f value_local ∷ local ty_ptr value_local ∷ local (layout Z) value_local ∷ local ty_ptr value_local ∷ [];
  body = seq (assign (place 2 []) (rv_opd (copy (place 1 (field 0 ∷ []))))) (seq (assign (place 3 []) (rv_opd (copy (place 1 (field 1 ∷ [])))))
      (seq (assign (place 4 []) (rv_opd (copy (place 2 [])))) (seq (assign (place 0 []) (aggregate (copy (place 4 []) ∷ copy (place 3 []) ∷ []))) return)));
}

module _ {M : Type 1} (𝓤 : Ura M) (𝓛 : Logic 𝓤) (𝓜 : Model 𝓤 𝓛.H) (𝓡 : Running 𝓤 𝓛.H 𝓜) {R : RattleType} (F G : Handle R) where
  abbrev En : Ended
  En = record { signature = record { lifetimes = 0; outlives = []; params = plain (λ _. row R F) ∷ []; result = plain (λ _. row R G) }; kept = (yes, tt) }

  abbrev same : Clauses 𝓤 En
  same κs args = record { ghost = Unit {0}; requires = λ _. emp 𝓤; ensures = λ _ r _. fact 𝓤 ((G.parts r).1.1 ≡ (F.parts args.0).1.1) }

  pub regrouped : (k : Callee) → Closed 𝓤 𝓛.H (tables 𝓤 𝓛.H 𝓜 𝓡 𝓡.env).C (tables 𝓤 𝓛.H 𝓜 𝓡 𝓡.env).Λ k (regroup (layout (row R F)) (layout (row R G)))
      → Meets 𝓛 En.signature ((tables 𝓤 𝓛.H 𝓜 𝓡 𝓡.env).C k) (closing 𝓛 En same)
  regrouped k closed =
      let H = 𝓛.H in let 𝓣 = tables 𝓤 H 𝓜 𝓡 𝓡.env in let fn = regroup (layout (row R F)) (layout (row R G)) in let hs : Stays En.signature.params En.kept = (stay_dropped (plain (λ _. row R F)) yes, tt) in
      proved_at 𝓛 En hs same 𝓜 𝓡 (Goes-dropped 𝓛 0 (plain (λ _. row R F)) yes (λ κs x f. refl), tt) k fn closed (λ z are.
      let κs = z.0.0 in let qs = z.0.1 in let x = F.parts z.0.3.0 in let Post : Val → SProp 𝓤 = (walk_of 𝓛 En hs same).post z in let Run : List Val → SProp 𝓤 = λ ws. WpFn 𝓤 H 𝓣.C 𝓣.Λ fn ws Post in
      qed 𝓛 ((raw (alive 𝓛 En.signature κs qs) ⊛ ‵ (owns (types_at En.signature.params κs) z.0.3 z.0.4)) ∷ raw ((same κs z.0.3).requires z.1) ∷ []) ∵
      split ! $ move ! (1 ∷ []) $ fsplit ! $ handle_out R F ! x z.0.4.0 (λ h ws fits. let w : Val = both (ptr_val x.0) h in let there = pair_good x.0 h fits in
      suffices ! (Run (w ∷ [])) (subst (λ (us : List Val). ent 𝓤 (Run (w ∷ [])) (Run us)) (sym (λ i. ws i ++ [])) (id⊢ 𝓤 (Run (w ∷ [])))) $
      enter ! 𝓣.C 𝓣.Λ fn (w ∷ []) Post $ alloc_all ! (λ l. pass_all ! refl (there, tt) $
      sets ! (of_opd ! (get_in ! (fld ! refl (stop !)) (sub ! 0 refl (whole !)))) refl (ptr_good x.0) $ sets ! (of_opd ! (get_in ! (fld ! refl (stop !)) (sub ! 1 refl (whole !)))) refl fits $
      sets ! (of_opd ! (get ! refl)) refl (ptr_good x.0) $ sets ! (agg ! (and_then ! (get ! refl) (and_then ! (get ! refl) (no_more !)))) refl there $ handle_in R G ! x h $ rewrite ! 0 (λ (y : Parts R). ‵ (Owns R G y (w ∷ []))) (sym (G.made x)) refl $
      let Reported : Type 0 = (G.parts (G.make x)).1.1 ≡ x.1.1 in use0 𝓛 (raw (fact 𝓤 Reported)) (fact_i 𝓤 Reported (emp 𝓤) (ap (λ (y : Parts R). y.1.1) (G.made x))) $ nothing ! $ nothing ! $ fjoin ! $
      returns ! (look_at ! 0 refl) $ free_all ! refl $ keep ! (4 ∷ 0 ∷ 2 ∷ 1 ∷ []) $ by ! (leaves 𝓛 En hs same z w (G.make x) (tt, tt) (tt, tt)))))
