-- The machine values of a handle, whatever it holds: a pointer and a handle of the heap, side by side.
use Rattle.std.proofs.Common.{◌≡◌, ℕ, List, [], ◌∷◌, ◌++◌, refl, subst, lit<}
use seplogic.Ra.Ura.{Ura}
use mir.Syntax.{Symbol, ty_ptr, impl, tcons, tnil, dnil}
use mir.Val.{Val, vstruct, vcons, vnil, of_list, has_ty, WT}
use mathlib.Core.Bool.{true, ◌&&◌}
use lib.Dec.{T}
use mir.Raw.{raw as bare}
use base.Fml.{Fml, Lft, Share, ftrue, flft, fsep}
use base.Fraction.{full_share}
use base.Logic.{ent, sep, emp, id⊢, guard, guard_i, never, via, fst∗, snd∗}
use types.Logic.{Logic, sem}
use types.Kit.{Item, Goal, Seq, Step, step, ‵, raw, ◌⊛◌, given, ◌$◌, move, drop, split, join, fsplit, fjoin, fpick, fpack, feq_i, feq_l, learn, use0, use1}
use contract.Monad.{fact, fact_i, fact_use}
use contract.BorrowLft.{◌⊑◌, ⊑_refl}
use denote.Exit.{no, under, hidden}
use denote.RattleType.{RattleType, Valss}
use denote.Builtin.{RawPtr}
use denote.Memory.{lone}
use denote.RawPtr.{lies_at, Ptr, block_ptr, null_ptr, ptr_val, in_a_block, Testable}
use denote.Steps.{nothing}
use denote.Param.{layout, arg}
use denote.Param.Laws.{arg_laws}
use denote.Struct.Field.{RawPtr-field}
use denote.Struct.Owning.{Owning, row as row_of}
use denote.Struct.Values.{intos}
use denote.Struct.Struct.{Shape, Struct, within, exits_of}
use Rattle.std.specs.Prelude.{Option, Some, None}
use Rattle.std.proofs.alloc.Calls.{Al, handle_tells}
use Rattle.std.proofs.cell.Inside.{Good}
use Rattle.std.proofs.ResultValues.{and_tt}
use Rattle.std.specs.Box.Ownership.{box_owns}
use Rattle.std.specs.contracts.alloc.Global as heap
use Rattle.std.specs.declared.alloc.Global.{Global}
use Rattle.std.proofs.alloc.Global.TheLaws as heap_laws
use Rattle.std.specs.contracts.impls.GlobalAllocator.TheImpl.{ghosts, dict}
use Rattle.std.proofs.GlobalToken.{dealloc_token-Testable}
use Rattle.std.specs.contracts.boxed.Box as Box
use Rattle.usb_c.specs.inside.Owning.{owned}
use Rattle.usb_c.specs.contracts.handle.Handle as handle

abbrev pub both : Val → Val → Val
both v w = vstruct (vcons v (vcons w vnil))

abbrev pub Z : RattleType
Z = heap.the_row

abbrev pub no_drop : Symbol
no_drop = "usb_c::Destruct++none::drop"

-- the heap as a call passes it for an allocator
abbrev pub al : Al
al = record { row = arg (bare (layout Z)) no Z; laws = arg_laws (bare (layout Z)) no Z heap_laws.the_row_laws refl; g = ghosts; d = dict; drops = impl (no_drop ∷ []) (tcons (bare (layout Z)) tnil) dnil }

pub ptr_good : (p : Ptr) → Good ty_ptr (ptr_val p)
ptr_good (block_ptr b o) = (tt, tt)
ptr_good null_ptr = (tt, record { fits = lit< tt })

pub pair_good : (p : Ptr) (h : Val) → Good (layout Z) h → T (has_ty ty_ptr (ptr_val p) && (has_ty (layout Z) h && true)) × WT (both (ptr_val p) h)
pair_good (block_ptr b o) h fits = (and_tt (has_ty (layout Z) h) fits.0, (tt, (fits.1, tt)))
pair_good null_ptr h fits = (and_tt (has_ty (layout Z) h) fits.0, (record { fits = lit< tt }, (fits.1, tt)))

module _ (R : RattleType) where
  abbrev pub Parts : Type 0
  Parts = Ptr × (Global × Option R.Denot)

  -- a struct of these two fields, and what it holds
  pub record Handle : Type 2 where
    pub struct : Owning
    pub parts : struct.D → Parts
    pub make : Parts → struct.D
    pub made : (x : Parts) → parts (make x) ≡ x

  abbrev pub any : Handle
  any = record { struct = handle.the_type R; parts = λ d. (d.at, (d.alloc, d.held)); make = λ x. record { at = x.0; alloc = x.1.0; held = x.1.1 }; made = λ x. refl }

  -- the row of such a struct, which is that of its module by computing
  abbrev pub row : Handle → RattleType
  row F = let S = F.struct in let two : S.D → Ptr × (Global × Unit {0}) = λ d. ((F.parts d).0, ((F.parts d).1.0, tt)) in row_of (record {
    name = S.name;
    args = [];
    types = S.types;
    parts = RawPtr-field ∷ heap.the_field ∷ [];
    D = S.D;
    as_values = two;
    coded = S.coded;
    heap = λ d. owned R (F.parts d).1.0 (F.parts d).0 (F.parts d).1.1;
    exit = λ k. hidden (under (λ d. intos (RawPtr-field ∷ heap.the_field ∷ []) (two d)) (exits_of k (RawPtr ∷ (heap.the_field).row ∷ [])));
    shr_at = S.shr_at;
  })

  module _ (F : Handle) where
    abbrev shape : Shape
    shape = record { name = F.struct.name; args = []; types = F.struct.types; fields = RawPtr ∷ (heap.the_field).row ∷ [] }

    abbrev pub Owns : Parts → List Val → Fml
    Owns x vs = fsep ((Struct shape).own_val (x.0, ((heap.the_field).into x.1.0, tt)) vs) (owned R x.1.0 x.0 x.1.1)

    module _ {M : Type 1} {𝓤 : Ura M} {𝓛 : Logic 𝓤} {K : Type 0} {Γ : List (Item 𝓤)} {G : Goal 𝓤 𝓛.H} where
      pub handle_in : K → (x : Parts) (h : Val)
          → Step K 𝓛 (‵ (Owns x (both (ptr_val x.0) h ∷ [])) ∷ Γ) G (‵ (Z.own_val x.1.0 (h ∷ [])) ∷ ‵ (owned R x.1.0 x.0 x.1.1) ∷ Γ) G
      handle_in t x h = step (λ s. let p : Val = ptr_val x.0 in let v : Val = both p h in
          nothing t $ move t (1 ∷ 0 ∷ []) $ fjoin t $ feq_i t (List Val) (p ∷ []) (p ∷ []) refl $ fjoin t $ feq_i t (List Val) (v ∷ []) (v ∷ []) refl $ fjoin t $
          fpack t (Valss (RawPtr ∷ (heap.the_field).row ∷ [])) (within shape (x.0, ((heap.the_field).into x.1.0, tt)) (v ∷ [])) (p ∷ [], (h ∷ [], tt)) $ fjoin t $ s)

      pub handle_out : K → (x : Parts) (vs : List Val)
          → ((h : Val) → vs ≡ both (ptr_val x.0) h ∷ [] → Good (layout Z) h → Seq K 𝓛 (‵ (Z.own_val x.1.0 (h ∷ [])) ∷ ‵ (owned R x.1.0 x.0 x.1.1) ∷ Γ) G)
          → Seq K 𝓛 (‵ (Owns x vs) ∷ Γ) G
      handle_out t x vs k =
          fsplit t $ fpick t (λ vss. fsplit t $ feq_l t (λ ev. fsplit t $ feq_l t (λ ep. fsplit t $ handle_tells al t x.1.0 vss.1.0 (λ h ea fits. move t (1 ∷ []) $ drop t $
          k h (subst (λ (ws : List Val). vs ≡ vstruct (of_list (ptr_val x.0 ∷ (ws ++ []))) ∷ []) ea (subst (λ (ps : List Val). vs ≡ vstruct (of_list (ps ++ (vss.1.0 ++ []))) ∷ []) ep ev)) fits))))

  abbrev pub Boxed : RattleType
  Boxed = Box.the_row R Z ghosts

  abbrev B : Global → Ptr → R.Denot → Fml
  B a p x = box_owns (ghosts.dealloc_token a) R p x

  tested : {M : Type 1} {𝓤 : Ura M} (𝓛 : Logic 𝓤) (a : Global) (p : Ptr) (x : R.Denot) → ent 𝓤 (sem 𝓛 (B a p x)) (guard 𝓤 (Testable p) (sem 𝓛 (B a p x)))
  tested {𝓤 = 𝓤} 𝓛 a p x = let P = sem 𝓛 (B a p x) in
      fact_use 𝓤 (Testable p) (via 𝓤 _ (snd∗ 𝓤 (sem 𝓛 (lies_at R full_share p x)) (sem 𝓛 (ghosts.dealloc_token a (bare (lone R.mir)) p))) (dealloc_token-Testable 𝓛 a (bare (lone R.mir)) p)) (guard_i 𝓤 (Testable p) P)

  module _ {M : Type 1} {𝓤 : Ura M} {𝓛 : Logic 𝓤} {K : Type 0} {Γ : List (Item 𝓤)} {G : Goal 𝓤 𝓛.H} where
    -- what a handle owns tells whether its pointer is null
    pub either_owned : K → (a : Global) (p : Ptr) (held : Option R.Denot) → (p ≡ null_ptr → held ≡ None → Seq K 𝓛 Γ G)
        → ((b o : ℕ) (x : R.Denot) → p ≡ block_ptr b o → held ≡ Some x → Testable (block_ptr b o) → Seq K 𝓛 (‵ (B a (block_ptr b o) x) ∷ Γ) G)
        → Seq K 𝓛 (‵ (owned R a p held) ∷ Γ) G
    either_owned t a p None none one = feq_l t (λ e. none e refl)
    either_owned t a p (Some x) none one =
        in_a_block t p (λ q. B a q x) (fst∗ 𝓤 (never 𝓤) (sem 𝓛 (ghosts.dealloc_token a (bare (lone R.mir)) null_ptr))) (λ b o e.
        use1 𝓛 (given (Testable (block_ptr b o)) (‵ (B a (block_ptr b o) x))) (tested 𝓛 a (block_ptr b o) x) $ learn t (λ may. one b o x e refl may))

-- The heap has no lifetimes: a token of `'static` is had for nothing, as a second type parameter asks.
module _ {M : Type 1} {𝓤 : Ura M} {𝓛 : Logic 𝓤} {K : Type 0} {Γ : List (Item 𝓤)} {G : Goal 𝓤 𝓛.H} where
  pub at_heap : K → {κ l : Lft} {q : Share} {X : Item 𝓤}
      → Step K 𝓛 ((‵ (flft κ q) ⊛ ‵ (flft [] q) ⊛ ‵ ftrue) ∷ (raw (fact 𝓤 (κ ⊑ l)) ⊛ raw (fact 𝓤 ([] ⊑ Z.lives)) ⊛ X) ∷ Γ) G
      ((‵ (flft κ q) ⊛ ‵ ftrue) ∷ raw (sep 𝓤 (fact 𝓤 (κ ⊑ l)) (emp 𝓤)) ∷ X ∷ Γ) G
  at_heap t {κ} {l} {q} = step (λ s.
      split t $ use0 𝓛 (‵ (flft [] q)) (𝓛.lfts.lft-nil q) $ move t (0 ∷ 2 ∷ []) $ join t $ move t (1 ∷ 0 ∷ []) $ join t $ move t (1 ∷ []) $ use1 𝓛 (raw (fact 𝓤 (κ ⊑ l)) ⊛ ‵ ftrue) (id⊢ 𝓤 _) $ split t $ move t (1 ∷ []) $ drop t $
      use0 𝓛 (raw (fact 𝓤 ([] ⊑ Z.lives))) (fact_i 𝓤 ([] ⊑ Z.lives) (emp 𝓤) (⊑_refl [])) $ move t (0 ∷ 3 ∷ []) $ join t $ move t (1 ∷ 0 ∷ []) $ join t $ move t (1 ∷ 0 ∷ []) $ s)
