-- Opening bins without pairs.
use Rattle.std.proofs.Common.{◌≡◌, ℕ, zero, suc, Bool, List, [], ◌∷◌, length, map, drop, replicate, flat_map, All}
use Rattle.std.proofs.Common.{slice_index_or, refl, sym, ap, subst, ◌∙◌}
use Rattle.std.specs.declared.vec.Vec.{Vec}
use Rattle.std.proofs.lemmas.List.{length-map, length-replicate}
use Rattle.std.proofs.lemmas.List.Elements.{All-nil, All-cons}
use Rattle.bin_history.specs.Entries.{HasDistinctKeys}

pub flat_map-empty : {X : Type 0} (n : ℕ) → flat_map (λ l. l) (replicate {A = List X} n []) ≡ []
flat_map-empty zero = refl
flat_map-empty (suc n) = flat_map-empty n

module _ {K V Z : Type 0} where
  pub length-empty : (vs : List (Vec (K × V) Z)) (n : ℕ) → map (λ b. b.items) vs ≡ replicate n [] → length vs ≡ n
  length-empty vs n e = sym (length-map vs (λ (b : Vec (K × V) Z). b.items))
      ∙ ap (λ (l : List (List (K × V))). length l) e ∙ length-replicate n []

  pub distinct-empty : (same : K → K → Bool) (vs : List (Vec (K × V) Z)) (n : ℕ) →
      map (λ b. b.items) vs ≡ replicate n []
      → All (λ b. HasDistinctKeys same b.items) vs
  distinct-empty same [] n e = All-nil (λ (b : Vec (K × V) Z). HasDistinctKeys same b.items)
  distinct-empty same (v ∷ vs) zero e = absurd cc
  distinct-empty same (v ∷ vs) (suc n) e =
      let first : v.items ≡ [] = ap (λ (l : List (List (K × V))). slice_index_or l 0 v.items) e in
      All-cons (λ (b : Vec (K × V) Z). HasDistinctKeys same b.items) v vs (subst (HasDistinctKeys same) (sym first) tt)
      (distinct-empty same vs n (ap (λ (l : List (List (K × V))). drop 1 l) e))
