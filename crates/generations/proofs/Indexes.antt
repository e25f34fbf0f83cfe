-- Places in a table by their index.
use Rattle.std.proofs.Common.{◌≡◌, inl, inr, ℕ, ◌+◌, ◌-◌, ◌<◌, ◌≤◌, ◌%◌, true, List, [], ◌∷◌, ◌++◌}
use Rattle.std.proofs.Common.{length, get_or, map, sym, ap, subst}
use Rattle.std.proofs.Common.{◌∙◌, arith}
use Rattle.std.specs.Int.Bits.{bit_and}
use Rattle.std.specs.List.{range_with_len}
use Rattle.std.proofs.Math.Nat.{mod-lt}
use Rattle.std.proofs.Math.Seq.{get_or-append_seam}
use Rattle.std.proofs.lemmas.Bool.{cases_lt, eq-eqb}
use Rattle.std.proofs.lemmas.List.{get_or_append_left}
use Rattle.std.proofs.lemmas.List.FromFn.{get_or-map-range_with_len}
use Rattle.std.proofs.lemmas.Nat.{and_mask}
use Rattle.boxcar.specs.Slot.{Named}
use Rattle.hashkeys.specs.Classes.{IsTableSize, covers}
use Rattle.generations.specs.Generations.{FitsForm, IsTable, IsSlotOf}
use Rattle.bin_layout.proofs.Sizes.{size_pos}
use Rattle.bin_layout.specs.Views.{HomeView, place_of}
use Rattle.bin_layout.specs.declared.tag.PlaceTag.{PlaceTag}

-- the map's place at an index of its table of n places
abbrev pub tag_at : HomeView → ℕ → ℕ → PlaceTag
tag_at m n i = place_of m (record { n = n; index = i })

pub IsTable-all : (m : HomeView) (n : ℕ) (places : List PlaceTag) → IsTableSize n → m.n ≤ n → FitsForm m n → length places ≡ n
    → places ≡ map (tag_at m n) (range_with_len 0 n) → IsTable m n places
IsTable-all m n places size least few count is = record {
  size = size;
  least = least;
  few = few;
  count = count;
  by_index = λ i d lt. ap (λ (l : List PlaceTag). get_or l i d) is ∙ get_or-map-range_with_len
      (tag_at m n) 0 n i i d lt (omega arith);
}

-- the remainder by a table's size, as a mask
pub mask_is : (hash n : ℕ) → IsTableSize n → bit_and hash (n - 1) ≡ hash % n
mask_is hash n (e, le, is) = subst (λ (x : ℕ). bit_and hash (x - 1) ≡ hash % x) (sym is) (and_mask hash e)

-- the place of a table at a hash's remainder is of the map, and covers the hash
module _ (m : HomeView) (n : ℕ) (places : List PlaceTag) (table : IsTable m n places) (hash index : ℕ)
    (at : index ≡ bit_and hash (length places - 1))
    (p : PlaceTag) (is : p ≡ get_or places index p) where
  index_is : index ≡ hash % n
  index_is = at ∙ ap (λ (x : ℕ). bit_and hash (x - 1)) table.count ∙ mask_is hash n table.size

  below : index < n
  below = (let some = size_pos n table.size in let less = mod-lt hash some in omega (arith, index_is))

  pub place_at : p ≡ tag_at m n index
  place_at = is ∙ table.by_index index p below

  pub place_covers : covers p.class hash ≡ true
  place_covers = subst (λ (q : PlaceTag). covers q.class hash ≡ true) (sym place_at) (eq-eqb _ _ (sym index_is))

-- one more slot
pub slots_push : (m : HomeView) (slots more : List Named) (slot : Named) → more ≡ slots ++ slot ∷ [] →
    IsSlotOf m (length slots) slot
    → ((e : ℕ) (d : Named) → e < length slots → IsSlotOf m e (get_or slots e d)) → (e : ℕ) (d : Named) →
    e < length slots + 1 → IsSlotOf m e (get_or more e d)
slots_push m slots more slot is of all e d lt = subst (λ (l : List Named). IsSlotOf m e (get_or l e d)) (sym is)
    (elim (cases_lt e (length slots)) [
      | inl l ↦ subst (IsSlotOf m e) (sym (get_or_append_left slots (slot ∷ []) d e l)) (all e d l)
      | inr ge ↦ (let same : e ≡ length slots = omega arith in
          subst (λ (x : ℕ). IsSlotOf m x (get_or (slots ++ slot ∷ []) x d)) (sym same)
          (subst (IsSlotOf m (length slots)) (sym (get_or-append_seam slots slot [] d)) of))
    ])
