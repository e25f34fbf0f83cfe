-- A handle by value: null, with nothing behind it, or what a box owned.
--     handle_opens       the two cases, as machine values: [what is left], or [what the box owned; the allocator; what is left]
use Rattle.std.proofs.Common.{◌≡◌, ℕ, List, [], ◌∷◌, ◌++◌, refl, ap, ◌∙◌, lit<}
use seplogic.Ra.Ura.{Ura}
use mir.Syntax.{Ty}
use mir.Val.{Val, WT, has_ty, vnull, vptr, vstruct, vcons, vnil, of_list}
use lib.Dec.{T}
use types.Logic.{Logic, sem}
use types.Match.{live}
use types.Kit.{Goal, Seq, Item, ‵, given, ◌$◌, move, drop, use1, learn, fsplit, fjoin, fpick, feq_l}
use base.Logic.{ent, guard, guard_i}
use contract.Monad.{fact_use}
use denote.Param.{layout}
use denote.RawPtr.{Ptr, Testable, block_ptr, null_ptr, ptr_val}
use Rattle.core.specs.contracts.option.Option as Option
use Rattle.std_alloc.proofs.ResultValues.{and_tt}
use Rattle.std.proofs.alloc.Calls.{α, Fits, token, handle_tells}
use Rattle.std.proofs.BoxSteps.Form.{R, box_ty, box_typed, handle, word}
use Rattle.std.proofs.GlobalToken.{dealloc_token-Testable}
use Rattle.std.specs.Box.Ownership.{box_owns}
use Rattle.std.specs.Global.{Global}
use Rattle.facing.proofs.Heap.{boxed, Parts_row}
use Rattle.facing.specs.Handles.{handle_owns}
use Rattle.facing.specs.contracts.handle.FacingHandle as Handle
use Rattle.facing.specs.contracts.target.Target as Target

-- a null handle's machine value
abbrev pub null_word : Val → Val
null_word h = vstruct (of_list (vnull ∷ h ∷ []))

-- they are of their types
pub null_good : (a : Val) → Fits boxed.al a → T (has_ty (box_ty boxed) (null_word a)) × WT (null_word a)
null_good a fits = (and_tt (has_ty (α boxed.al) a) fits.0, (record { fits = lit< tt }, (fits.1, tt)))

pub some_good : (a : Val) (b o : ℕ) → Fits boxed.al a
    → T (has_ty (layout (Option.the_row Parts_row)) (live 1 (vcons (word boxed a b o) vnil))) × WT (live 1 (vcons (word boxed a b o) vnil))
some_good a b o fits = let good = box_typed boxed a b o fits in (and_tt _ good.0, (record { fits = lit< tt }, (good.1, tt)))

-- what may be freed may be compared with null
tested : {M : Type 1} {𝓤 : Ura M} (𝓛 : Logic 𝓤) (alloc : Global) (τ : Ty) (p : Ptr)
    → ent 𝓤 (sem 𝓛 (token boxed.al alloc τ p)) (guard 𝓤 (Testable p) (sem 𝓛 (token boxed.al alloc τ p)))
tested {𝓤 = 𝓤} 𝓛 alloc τ p =
    fact_use 𝓤 (Testable p) (dealloc_token-Testable 𝓛 alloc τ p) (guard_i 𝓤 (Testable p) (sem 𝓛 (token boxed.al alloc τ p)))

module _ {M : Type 1} {𝓤 : Ura M} {𝓛 : Logic 𝓤} {K : Type 0} {Γ : List (Item 𝓤)} {G : Goal 𝓤 𝓛.H} where
  by_pointer : K → (alloc : Global) (p : Ptr) (target : (Target.the_row).Denot) → (p ≡ null_ptr → Seq K 𝓛 Γ G)
      → ((b o : ℕ) → p ≡ block_ptr b o → Seq K 𝓛 (‵ (box_owns (token boxed.al alloc) (R boxed) (block_ptr b o) target) ∷ Γ) G)
      → Seq K 𝓛 (‵ (handle_owns alloc p target) ∷ Γ) G
  by_pointer t alloc null_ptr target none some = drop t $ none refl
  by_pointer t alloc (block_ptr b o) target none some = some b o refl

module _ {M : Type 1} {𝓤 : Ura M} {𝓛 : Logic 𝓤} {K : Type 0} {Γ : List (Item 𝓤)} {G : Goal 𝓤 𝓛.H} where
  pub handle_opens : K → (h : (Handle.the_row).Denot) (vs : List Val)
      → ((a : Val) → h.ptr ≡ null_ptr → vs ≡ null_word a ∷ [] → Fits boxed.al a → Seq K 𝓛 (‵ (handle boxed h.alloc a) ∷ Γ) G)
      → ((b o : ℕ) (a : Val) → h.ptr ≡ block_ptr b o → Testable (block_ptr b o) → vs ≡ word boxed a b o ∷ [] → Fits boxed.al a
      → Seq K 𝓛 (‵ (box_owns (token boxed.al h.alloc) (R boxed) (block_ptr b o) h.target) ∷ ‵ (handle boxed h.alloc a) ∷ Γ) G)
      → Seq K 𝓛 (‵ ((Handle.the_row).own_val h vs) ∷ Γ) G
  handle_opens t h vs none some =
      fsplit t $ fpick t (λ fields. fsplit t $ feq_l t (λ is. fsplit t $ feq_l t (λ first. fsplit t $
      handle_tells boxed.al t h.alloc fields.1.0 (λ a second fits. move t (1 ∷ []) $ drop t $ move t (1 ∷ []) $
      let placed : (v : Val) → fields.0 ≡ v ∷ [] → vs ≡ vstruct (of_list (v ∷ a ∷ [])) ∷ [] = λ v e.
      is ∙ ap (λ (us : List Val). vstruct (of_list (us ++ (fields.1.0 ++ []))) ∷ []) e
      ∙ ap (λ (us : List Val). vstruct (of_list (v ∷ (us ++ []))) ∷ []) second in
      by_pointer t h.alloc h.ptr h.target
      (λ at. none a at (placed vnull (first ∙ ap (λ (p : Ptr). ptr_val p ∷ []) at)) fits)
      (λ b o at. fsplit t $ move t (1 ∷ []) $
      use1 𝓛 (given (Testable (block_ptr b o)) (‵ (token boxed.al h.alloc _ (block_ptr b o)))) (tested 𝓛 h.alloc _ (block_ptr b o)) $
      learn t (λ can. move t (1 ∷ []) $ fjoin t $
      some b o a at can (placed (vptr b o) (first ∙ ap (λ (p : Ptr). ptr_val p ∷ []) at)) fits))))))
