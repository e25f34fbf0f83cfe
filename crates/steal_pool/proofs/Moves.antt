-- Each move keeps the rule of a deque.
use Rattle.std.proofs.Common.{◌≡◌, ◌≢◌, ℕ, zero, suc, ◌+◌, ◌-◌, ◌<◌, ◌≤◌, List, [], ◌∷◌, ◌++◌, set, sym, refl, ap}
use Rattle.std.proofs.Common.{◌∙◌}
use Rattle.std.proofs.Common.{subst, ⊎_elim, arith}
use mathlib.Core.Option.{some, some-injective, some-ne-none}
use lib.ListN.{get_elem?}
use Rattle.crossbeam_deque.specs.Tasks.{Pushes, Takes, Pops, Forks, Merges, Learns}
use Rattle.crossbeam_deque.proofs.Lists.{at_set, at_snoc}
use Rattle.steal_pool.specs.declared.log.Log.{Log}
use Rattle.steal_pool.specs.Limits.{all_shares}
use Rattle.steal_pool.specs.Logs.{log, weigh, total, IdleIsEmpty, Balanced}

module _ {T : Type 0} where
  pub weigh_append : (h : T → ℕ) (xs ys : List T) → weigh h (xs ++ ys) ≡ weigh h xs + weigh h ys
  weigh_append h [] ys = omega arith
  weigh_append h (x ∷ xs) ys = omega (arith, weigh_append h xs ys)

  pub weigh_snoc : (h : T → ℕ) (xs : List T) (x : T) → weigh h (xs ++ x ∷ []) ≡ weigh h xs + h x
  weigh_snoc h xs x = omega (arith, weigh_append h xs (x ∷ []))

  total-append : (f : Log T → ℕ) (xs : List (Log T)) (v : Log T) → total f (xs ++ v ∷ []) ≡ total f xs + f v
  total-append f [] v = omega arith
  total-append f (x ∷ xs) v = omega (arith, total-append f xs v)

  -- the total after a change of one view
  total_set : (f : Log T → ℕ) (views : List (Log T)) (port : ℕ) (v w : Log T) → get_elem? views port ≡ some v
      → total f (set views port w) + f v ≡ total f views + f w
  total_set f [] port v w at = absurd (some-ne-none v (sym at))
  total_set f (x ∷ xs) zero v w at = let s : f x ≡ f v = ap f (some-injective x v at) in omega arith
  total_set f (x ∷ xs) (suc port) v w at = omega (arith, total_set f xs port v w at)

  idle_set : (views : List (Log T)) (port : ℕ) (w : Log T) → (w.shares ≡ 0 → (w.pushed ≡ []) × (w.taken ≡ [])) →
      IdleIsEmpty views
      → IdleIsEmpty (set views port w)
  idle_set views port w mine idle j u e none =
      ⊎_elim (λ (x : (j ≡ port) × (w ≡ u)). subst (λ (y : Log T). (y.pushed ≡ []) × (y.taken ≡ [])) x.1
      (mine (ap (λ (y : Log T). y.shares) x.1 ∙ none)))
      (λ (x : (j ≢ port) × (get_elem? views j ≡ some u)). idle j u x.1 none) (at_set views port j w u e)

  idle_push : (views : List (Log T)) (w : Log T) → (w.shares ≡ 0 → (w.pushed ≡ []) × (w.taken ≡ [])) → IdleIsEmpty views
      → IdleIsEmpty (views ++ w ∷ [])
  idle_push views w mine idle j u e none = ⊎_elim (λ (x : get_elem? views j ≡ some u). idle j u x none)
      (λ (x : w ≡ u). subst (λ (y : Log T). (y.pushed ≡ []) × (y.taken ≡ [])) x
      (mine (ap (λ (y : Log T). y.shares) x ∙ none)))
      (at_snoc views w u j e)

  pub pushes : (port : ℕ) (v : Log T) (xs : List T) → 0 < v.shares
      → Pushes Balanced port v xs (λ w. w ≡ log v.shares (v.pushed ++ xs) v.taken)
  pushes port v xs share items views b at =
      let w : Log T = log v.shares (v.pushed ++ xs) v.taken in (
        w,
        (
          (let s = total_set (λ u. u.shares) views port v w at in let p = b.0 in omega arith),
          (λ h.
              let s = total_set (λ u. weigh h u.pushed) views port v w at in
              let t = total_set (λ u. weigh h u.taken) views port v w at in
              let p = b.1 h in
              omega (arith, weigh_append h v.pushed xs, weigh_append h items xs)),
          idle_set views port w (λ none. absurd (omega arith)) b.2,
        ),
        refl,
      )

  pub takes : (port : ℕ) (v : Log T) (most : ℕ) → 0 < v.shares
      → Takes Balanced port v most (λ xs w. w ≡ log v.shares v.pushed (v.taken ++ xs))
  takes port v most share xs items views _ _ b at =
      let w : Log T = log v.shares v.pushed (v.taken ++ xs) in (
        w,
        (
          (let s = total_set (λ u. u.shares) views port v w at in let p = b.0 in omega arith),
          (λ h.
              let s = total_set (λ u. weigh h u.pushed) views port v w at in
              let t = total_set (λ u. weigh h u.taken) views port v w at in
              let p = b.1 h in
              omega (arith, weigh_append h v.taken xs, weigh_append h xs items)),
          idle_set views port w (λ none. absurd (omega arith)) b.2,
        ),
        refl,
      )

  pub pops : (port : ℕ) (v : Log T) → 0 < v.shares →
      Pops Balanced port v (λ xs w. w ≡ log v.shares v.pushed (v.taken ++ xs))
  pops port v share x items views b at =
      let w : Log T = log v.shares v.pushed (v.taken ++ x ∷ []) in (
        w,
        (
          (let s = total_set (λ u. u.shares) views port v w at in let p = b.0 in omega arith),
          (λ h.
              let s = total_set (λ u. weigh h u.pushed) views port v w at in
              let t = total_set (λ u. weigh h u.taken) views port v w at in
              let p = b.1 h in
              omega (arith, weigh_append h v.taken (x ∷ []), weigh_append h items (x ∷ []))),
          idle_set views port w (λ none. absurd (omega arith)) b.2,
        ),
        refl,
      )

  pub forks : (port : ℕ) (v : Log T) → 1 < v.shares →
      Forks Balanced port v (log (v.shares - 1) v.pushed v.taken) (log 1 [] [])
  forks port v share items views b at =
      let l : Log T = log (v.shares - 1) v.pushed v.taken in
      let r : Log T = log 1 [] [] in
      let vs : List (Log T) = set views port l in (
        (let s = total_set (λ u. u.shares) views port v l at in let t = total-append (λ u. u.shares) vs r in
            let p = b.0 in omega arith),
        (λ h.
            let s = total_set (λ u. weigh h u.pushed) views port v l at in
            let s' = total-append (λ u. weigh h u.pushed) vs r in
            let t = total_set (λ u. weigh h u.taken) views port v l at in
            let t' = total-append (λ u. weigh h u.taken) vs r in
            let p = b.1 h in
            omega arith),
        idle_push vs r (λ none. (refl, refl)) (idle_set views port l (λ none. absurd (omega arith)) b.2),
      )

  pub merges : (port : ℕ) (v : Log T) (other : ℕ) (u : Log T) → 0 < v.shares → 0 < u.shares
      → Merges Balanced port v other u (log (v.shares + u.shares) (v.pushed ++ u.pushed) (v.taken ++ u.taken))
      (log 0 [] [])
  merges port v other u one two items views b at apart at' =
      let both : Log T = log (v.shares + u.shares) (v.pushed ++ u.pushed) (v.taken ++ u.taken) in
      let spent : Log T = log 0 [] [] in
      let vs : List (Log T) = set views port both in (
        (let s = total_set (λ y. y.shares) views port v both at in
            let t = total_set (λ y. y.shares) vs other u spent at' in let p = b.0 in
            omega arith),
        (λ h.
            let s = total_set (λ y. weigh h y.pushed) views port v both at in
            let s' = total_set (λ y. weigh h y.pushed) vs other u spent at' in
            let t = total_set (λ y. weigh h y.taken) views port v both at in
            let t' = total_set (λ y. weigh h y.taken) vs other u spent at' in
            let p = b.1 h in
            omega (arith, weigh_append h v.pushed u.pushed, weigh_append h v.taken u.taken)),
        idle_set vs other spent (λ none. (refl, refl)) (idle_set views port both (λ none. absurd (omega arith)) b.2),
      )

  share_of : (views : List (Log T)) (port : ℕ) (v : Log T) → get_elem? views port ≡ some v →
      v.shares ≤ total (λ u. u.shares) views
  share_of [] port v at = absurd (some-ne-none v (sym at))
  share_of (x ∷ xs) zero v at = let s : x.shares ≡ v.shares = ap (λ (y : Log T). y.shares) (some-injective x v at) in
      omega arith
  share_of (x ∷ xs) (suc port) v at = omega (arith, share_of xs port v at)

  nothing : (f : Log T → ℕ) (views : List (Log T)) → total (λ u. u.shares) views ≡ 0
      → ((j : ℕ) (u : Log T) → get_elem? views j ≡ some u → u.shares ≡ 0 → f u ≡ 0) → total f views ≡ 0
  nothing f [] all idle = refl
  nothing f (x ∷ xs) all idle = let here : f x ≡ 0 = idle 0 x refl (omega arith) in
      let rest : total f xs ≡ 0 = nothing f xs (omega arith) (λ j u at none. idle (suc j) u at none) in omega arith

  -- the view with all shares has all that was pushed and taken
  alone : (f : Log T → ℕ) (views : List (Log T)) (port : ℕ) (v : Log T) → get_elem? views port ≡ some v
      → total (λ u. u.shares) views ≡ v.shares →
      ((j : ℕ) (u : Log T) → get_elem? views j ≡ some u → u.shares ≡ 0 → f u ≡ 0)
      → total f views ≡ f v
  alone f [] port v at all idle = absurd (some-ne-none v (sym at))
  alone f (x ∷ xs) zero v at all idle =
      let s : f x ≡ f v = ap f (some-injective x v at) in
      let p : x.shares ≡ v.shares = ap (λ (y : Log T). y.shares) (some-injective x v at) in
      let rest : total f xs ≡ 0 = nothing f xs (omega arith) (λ j u at none. idle (suc j) u at none) in omega arith
  alone f (x ∷ xs) (suc port) v at all idle =
      let p = share_of xs port v at in
      let here : f x ≡ 0 = idle 0 x refl (omega arith) in
      let rest : total f xs ≡ f v = alone f xs port v at (omega arith) (λ j u at none. idle (suc j) u at none) in
      omega arith

  pub learns : (port : ℕ) (v : Log T) → v.shares ≡ all_shares
      → Learns Balanced port v (λ items. (h : T → ℕ) → weigh h v.pushed ≡ weigh h v.taken + weigh h items)
  learns port v all items views b at h =
      let p = b.0 in
      let whole : total (λ u. u.shares) views ≡ v.shares = omega arith in
      let s = alone (λ u. weigh h u.pushed) views port v at whole (λ j u at none. ap (weigh h) (b.2 j u at none).0) in
      let t = alone (λ u. weigh h u.taken) views port v at whole (λ j u at none. ap (weigh h) (b.2 j u at none).1) in
      let q = b.1 h in omega arith
