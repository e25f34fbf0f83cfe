-- The number of a member is its index.
use Rattle.std.proofs.Common.{◌≡◌, ℕ, zero, suc, List, [], ◌∷◌, ◌++◌, length, ap, sym, refl}
use Rattle.std.specs.Prelude.{Option, Some}
use Rattle.atomic_blocks.specs.Lent.{RowsId}
use mathlib.Core.Option.{some, some-injective, some-ne-none}
use lib.ListN.{get_elem?}
use Rattle.steal_pool.specs.Seating.{deque_at, AreSeated}

module _ {X A : Type 0} (of : X → RowsId × A) where
  pub seated : (ws : List X) → AreSeated of (deque_at of ws) ws
  seated [] i w e = absurd (some-ne-none w (sym e))
  seated (x ∷ ws) zero w e = ap (λ y. Some (of y)) (some-injective x w e)
  seated (x ∷ ws) (suc i) w e = seated ws i w e

  last_at : (ws : List X) (w : X) → get_elem? (ws ++ w ∷ []) (length ws) ≡ some w
  last_at [] w = refl
  last_at (x ∷ ws) w = last_at ws w

  still_at : (ws : List X) (u : X) (i : ℕ) (w : X) → get_elem? ws i ≡ some w → get_elem? (ws ++ u ∷ []) i ≡ some w
  still_at [] u i w e = absurd (some-ne-none w (sym e))
  still_at (x ∷ ws) u zero w e = e
  still_at (x ∷ ws) u (suc i) w e = still_at ws u i w e

  module _ (deque : ℕ → Option (RowsId × A)) (ws : List X) (w : X) (all : AreSeated of deque (ws ++ w ∷ [])) where
    -- the last one's number is the length of the others
    pub last_seat : deque (length ws) ≡ Some (of w)
    last_seat = all (length ws) w (last_at ws w)

    pub other_seats : AreSeated of deque ws
    other_seats i u e = all i u (still_at ws w i u e)
