-- A box apart: what it owns, in hand beside the pointer to it.
--     Pair, Parts        what `into_raw_with_allocator` gives back, and the struct that keeps it
--     pair_opens         the pair by value is [what the box owned; the allocator], and one machine value
--     parts_open         the struct by value is the same
--     parts_close        and back
use Rattle.std.proofs.Common.{◌≡◌, ℕ, List, [], ◌∷◌, ◌++◌, refl, ap, ◌∙◌}
use seplogic.Ra.Ura.{Ura}
use mir.Raw.{raw as bare}
use mir.Val.{Val, vptr, vstruct, of_list}
use base.Logic.{never, id⊢, fst∗}
use types.Logic.{Logic, sem}
use types.Kit.{Goal, Seq, Step, step, Item, ‵, ◌$◌, move, drop, use1, fsplit, fjoin, fpick, feq_l}
use denote.RattleType.{RattleType}
use denote.RawPtr.{Ptr, RawPtr, block_ptr, null_ptr, ptr_val, in_a_block}
use denote.Steps.{only}
use denote.Struct.Tuple.{Tuple}
use Rattle.std.proofs.alloc.Calls.{Fits, token, handle_tells}
use Rattle.std.proofs.BoxSteps.Form.{Bx, D, X, P, R, τ, handle, word}
use Rattle.std.proofs.BoxSteps.Steps.{box_in, box_out}
use Rattle.std.specs.Box.Ownership.{box_owns}
use Rattle.facing_handles.specs.contracts.RawBox as raw_box

module _ (E : Bx) where
  abbrev pub Pair : RattleType
  Pair = Tuple (RawPtr ∷ P E ∷ [])

  abbrev pub Parts : RattleType
  Parts = raw_box.the_row (R E) (P E) E.al.g

  -- the parts of a box whose block begins at this place
  abbrev pub parts_at : ℕ → ℕ → E.al.row.Denot → X E → (Parts).Denot
  parts_at b o a x = record { ptr = block_ptr b o; alloc = a; value = x }

module _ (E : Bx) {M : Type 1} {𝓤 : Ura M} {𝓛 : Logic 𝓤} {K : Type 0} {Γ : List (Item 𝓤)} {G : Goal 𝓤 𝓛.H} where
  pub pair_opens : K → (pair : Ptr × E.al.row.Denot) (u : Val) (x : X E)
      → ((b o : ℕ) (h : Val) → u ≡ word E h b o → Fits E.al h
      → Seq K 𝓛 (‵ (box_owns (token E.al pair.1) (R E) (block_ptr b o) x) ∷ ‵ (handle E pair.1 h) ∷ Γ) G)
      → Seq K 𝓛 (‵ (box_owns (token E.al pair.1) (R E) pair.0 x) ∷ ‵ ((Pair E).own_val pair (u ∷ [])) ∷ Γ) G
  pair_opens t pair u x then =
      in_a_block t pair.0 (λ p. box_owns (token E.al pair.1) (R E) p x)
      (fst∗ 𝓤 (never 𝓤) (sem 𝓛 (token E.al pair.1 (bare (τ E)) null_ptr))) (λ b o at.
      move t (1 ∷ []) $ fpick t (λ fields. fsplit t $ feq_l t (λ is. fsplit t $ feq_l t (λ first. fsplit t $
      handle_tells E.al t pair.1 fields.1.0 (λ h second fits. move t (1 ∷ []) $ drop t $ move t (1 ∷ []) $
      let placed : fields.0 ≡ vptr b o ∷ [] = first ∙ ap (λ (p : Ptr). ptr_val p ∷ []) at in
      then b o h (ap only (is ∙ ap (λ (vs : List Val). vstruct (of_list (vs ++ (fields.1.0 ++ []))) ∷ []) placed
      ∙ ap (λ (vs : List Val). vstruct (of_list (vptr b o ∷ (vs ++ []))) ∷ []) second)) fits)))))

  pub parts_open : K → (parts : (Parts E).Denot) (vs : List Val)
      → ((b o : ℕ) (h : Val) → parts.ptr ≡ block_ptr b o → vs ≡ word E h b o ∷ [] → Fits E.al h
      → Seq K 𝓛 (‵ (box_owns (token E.al parts.alloc) (R E) (block_ptr b o) parts.value) ∷ ‵ (handle E parts.alloc h) ∷ Γ) G)
      → Seq K 𝓛 (‵ ((Parts E).own_val parts vs) ∷ Γ) G
  parts_open t parts vs then =
      let boxed : D E = record { ptr = parts.ptr; alloc = parts.alloc; value = parts.value } in
      box_out E t boxed vs (λ b o h at is fits. fjoin t $ then b o h at is fits)

  pub parts_close : K → (b o : ℕ) (h : Val) (a : E.al.row.Denot) (x : X E)
      → Step K 𝓛 (‵ ((Parts E).own_val (parts_at E b o a x) (word E h b o ∷ [])) ∷ Γ) G
      (‵ (box_owns (token E.al a) (R E) (block_ptr b o) x) ∷ ‵ (handle E a h) ∷ Γ) G
  parts_close t b o h a x =
      let boxed : D E = record { ptr = block_ptr b o; alloc = a; value = x } in
      step (λ rest. fsplit t $ box_in E t boxed b o x refl refl $
      use1 𝓛 (‵ ((Parts E).own_val (parts_at E b o a x) (word E h b o ∷ []))) (id⊢ 𝓤 _) $ rest)
