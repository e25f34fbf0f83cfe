-- The bins that a map opens with.
use Rattle.std.proofs.Common.{◌≡◌, ℕ, zero, suc, ◌+◌, ◌*◌, ◌^◌, ◌<◌, ◌≤◌, ◌⊎◌, inl, inr, Bool, Option, List, [], ◌∷◌}
use Rattle.std.proofs.Common.{◌++◌, length, sym, ap, subst, refl, ◌∙◌, ⊎_elim, arith, mul-le-mul_left}
use mathlib.Core.Option.{some, some-injective, some-ne-none}
use lib.ListN.{get_elem?}
use Rattle.hashkeys.specs.Classes.{ClassView, IsTableSize}
use Rattle.hashkeys.specs.declared.hashing.Salt.{Salt}
use Rattle.bin_history.specs.declared.call.Call.{Call}
use Rattle.bin_history.specs.declared.form.Form.TheVariants.{Lean}
use Rattle.count_ledger.specs.Views.{LedgerId}
use Rattle.bin_layout.specs.Views.{HomeView}
use Rattle.bin_layout.proofs.Sizes.{size_few}
use Rattle.lean_bins.specs.BinSlot.{IsInSlotFor, FitsWord, AreOpening}
use Rattle.lean_bins.specs.Segments.{home_of, class_at}
use Rattle.lean_bins.specs.declared.slot.SegmentTag.{SegmentTag}
use Rattle.lean_bins.specs.declared.slot.BinSlot.{BinSlot}

-- the words of the opening table, each so far from the next
pub words_few : (n count stride : ℕ) → IsTableSize n → count ≡ n → stride ≤ 16 → 8 + count * stride < 1152921504606846976
words_few n count stride size same few =
    let a : count * stride ≤ count * 16 = mul-le-mul_left count few in omega (arith, size_few n size)

at_end : {A : Type 0} (l : List A) (a b : A) (j : ℕ) → get_elem? (l ++ a ∷ []) j ≡ some b →
    (get_elem? l j ≡ some b) ⊎ ((j ≡ length l) × (a ≡ b))
at_end [] a b zero e = inr (refl, some-injective a b e)
at_end [] a b (suc j) e = absurd (some-ne-none b (sym e))
at_end (x ∷ xs) a b zero e = inl e
at_end (x ∷ xs) a b (suc j) e = ⊎_elim (λ t. inl t) (λ t. inr (ap suc t.0, t.1)) (at_end xs a b j e)

module _ {K V F A : Type 0} (same : K → K → Bool) (after : Call K V F → Option V → Option V) where
  -- what lies for a class of n, at an index
  pub lies_at : (salt : Salt) (n index : ℕ) (class : ClassView) → class ≡ record { n = n; index = index } → (x : BinSlot K V F A)
      → (found ledger : LedgerId) → found ≡ ledger
      → IsInSlotFor same after (record { ledger = found; form = Lean; salt = salt; n = class.n }) class x
      → IsInSlotFor same after (record { ledger = ledger; form = Lean; salt = salt; n = n }) (record { n = n; index = index }) x
  lies_at salt n index class is x found ledger same_ledger lies =
      subst (λ (l : LedgerId). IsInSlotFor same after (record { ledger = l; form = Lean; salt = salt; n = n }) (record { n = n; index = index }) x) same_ledger
      (subst (λ (c : ClassView). IsInSlotFor same after (record { ledger = found; form = Lean; salt = salt; n = c.n }) c x) is lies)

  module _ (home : HomeView) where
    pub opening_none : (xs : List (BinSlot K V F A)) → xs ≡ [] → AreOpening same after home xs
    opening_none xs none at x e = absurd (some-ne-none x (sym (ap (λ l. get_elem? l at) (sym none) ∙ e)))

    pub opening_more : (xs more : List (BinSlot K V F A)) (y : BinSlot K V F A) (index : ℕ) → index ≡ length xs → more ≡ xs ++ y ∷ []
        → AreOpening same after home xs → IsInSlotFor same after home (record { n = home.n; index = index }) y
        → AreOpening same after home more
    opening_more xs more y index is all kept lies at x e =
        ⊎_elim (λ t. kept at x t)
        (λ t. subst (λ z. IsInSlotFor same after home (record { n = home.n; index = at }) z) t.1
        (subst (λ (k : ℕ). IsInSlotFor same after home (record { n = home.n; index = k }) y) (is ∙ sym t.0) lies))
        (at_end xs y x at (ap (λ l. get_elem? l at) (sym all) ∙ e))

    -- they fit the words of the opening table
    pub opening_fits : (xs : List (BinSlot K V F A)) → AreOpening same after home xs → (tag : SegmentTag) (exponent : ℕ) → home_of tag ≡ home
        → tag.first ≡ 0 → 2 ^ exponent ≡ home.n → (at : ℕ) (x : BinSlot K V F A) → get_elem? xs at ≡ some x
        → FitsWord same after tag at exponent x
    opening_fits xs are tag exponent of first size at x e =
        subst (λ (h : HomeView). IsInSlotFor same after h (class_at (tag.first + at) exponent) x) (sym of)
        (subst (λ (k : ℕ). IsInSlotFor same after home (class_at k exponent) x) (omega (arith, first))
        (subst (λ (n : ℕ). IsInSlotFor same after home (record { n = n; index = at }) x) (sym size) (are at x e)))
