-- Lists of pairs with distinct keys and the same value at each key have the same pairs.
use Rattle.std.proofs.Common.{◌≡◌, Bool, true, false, cond, Some, None, Decides, List, [], ◌∷◌, refl, sym, ◌∙◌, subst}
use Rattle.std.proofs.Common.{arith, IsPermutation}
use Rattle.std.proofs.lemmas.Grind.{common_steps}
use Rattle.std.proofs.lemmas.List.Sorted.{IsPermutation-refl, IsPermutation-sym, IsPermutation-cons}
use Rattle.std.proofs.lemmas.List.Sorted.{IsPermutation-trans, IsPermutation-middle}
use Rattle.bin_history.specs.Entries.{lookup, HasDistinctKeys, remove}
use Rattle.bin_entries.proofs.Entries.{lookup-remove, HasDistinctKeys-remove}

module _ {K V : Type 0} (same : K → K → Bool) (tells : (x y : K) → Decides (same x y) (x ≡ y)) where
  nothing : (es : List (K × V)) → ((k : K) → lookup same es k ≡ None) → es ≡ []
  nothing [] h = refl
  nothing (e ∷ es) h = let own = (tells e.0 e.0).1 refl in let here = rw own at (h e.0) in absurd cc

  -- an entry and the others
  to_front : (es : List (K × V)) (k : K) (v : V) → lookup same es k ≡ Some v →
      IsPermutation es ((k, v) ∷ remove same es k)
  to_front [] k v h = absurd cc
  to_front (e ∷ es) k v h = go (to_front es k v) (same e.0 k) refl where
    go : (lookup same es k ≡ Some v → IsPermutation es ((k, v) ∷ remove same es k)) → (b : Bool) → same e.0 k ≡ b
        → IsPermutation (e ∷ es) ((k, v) ∷ cond b es (e ∷ remove same es k))
    go rest true s =
        let key : e.0 ≡ k = (tells e.0 k).0 s in
        let found : Some e.1 ≡ Some v = rw s at h in
        let value : e.1 ≡ v = cc in
        let P : K × V → Type 0 = λ x. IsPermutation (e ∷ es) (x ∷ es) in
        subst P (λ i. (key i, value i)) (IsPermutation-refl (e ∷ es))
    go rest false s =
        IsPermutation-trans (e ∷ es) (e ∷ (k, v) ∷ remove same es k) ((k, v) ∷ e ∷ remove same es k)
        (IsPermutation-cons e es ((k, v) ∷ remove same es k) (rest (rw s at h)))
        (IsPermutation-middle (e ∷ []) (k, v) (remove same es k))

  pub same_pairs : (es fs : List (K × V)) → HasDistinctKeys same es → HasDistinctKeys same fs →
      ((k : K) → lookup same es k ≡ lookup same fs k)
      → IsPermutation es fs
  same_pairs [] fs d c h = rw (nothing fs (λ k. sym (h k))) (IsPermutation-refl [])
  same_pairs (e ∷ es) fs d c h =
      let own = (tells e.0 e.0).1 refl in
      let there : lookup same fs e.0 ≡ Some e.1 = sym (h e.0) ∙ rw own refl in
      let front = to_front fs e.0 e.1 there in
      let rest : (k : K) → lookup same es k ≡ lookup same (remove same fs e.0) k = λ k.
      let a = h k in let b = lookup-remove same tells fs e.0 c k in let t = tells e.0 k in let n = d.0 in
      grind (arith, common_steps)
      in
      IsPermutation-trans (e ∷ es) (e ∷ remove same fs e.0) fs (IsPermutation-cons e es (remove same fs e.0)
      (same_pairs es (remove same fs e.0) d.1 (HasDistinctKeys-remove same tells fs e.0 c) rest))
      (IsPermutation-sym fs (e ∷ remove same fs e.0) front)
