-- The parts of a node in range order, and the act that takes all its slots.
use Rattle.std.proofs.Common.{◌≡◌, ℕ, zero, suc, ◌+◌, ◌-◌, ◌*◌, ◌<◌, ◌≤◌, ◌≢◌, List, [], ◌∷◌, length, sym, refl, ap}
use Rattle.std.proofs.Common.{◌∙◌, subst, arith, length-set, Contains}
use mathlib.Core.Logic.{dite}
use native.Mathlib.Decide.{ℕ_discrete}
use mathlib.Core.Option.{none, some}
use mathlib.Core.Option as maybe
use lib.ListN.{get_elem?}
use Rattle.std.specs.Prelude.{Option, Some, None}
use Rattle.atomic_table.specs.Table.{Act, keeps, takes, chain, Valid, carried_after, homes_after}
use Rattle.atomic_table.proofs.Lists.{set_else}
use Rattle.completers.specs.Parts.{AreParts, IsPart, present, stack, pile}
use Rattle.completers.specs.Rule.{Piece, AreBelow, AreTiles}
use Rattle.completers.specs.declared.relation.Partial.{Partial}

module _ {P : Type 0} where
  -- takes the slots 1, .., j of the node n
  abbrev pub takes_up : ℕ → (ℕ → Option (Partial P)) → ℕ → Act (Option (Partial P))
  takes_up n y zero = keeps
  takes_up n y (suc j) = chain (takes_up n y j) (takes (8 * n + suc j) (y (suc j)))

  pub carried_up : (n : ℕ) (y : ℕ → Option (Partial P)) (j : ℕ) (c : List (ℕ × Option (Partial P)))
      → carried_after c (takes_up n y j) ≡ pile n y j c
  carried_up n y zero c = refl
  carried_up n y (suc j) c = ap (λ (l : List (ℕ × Option (Partial P))). (8 * n + suc j, y (suc j)) ∷ l)
      (carried_up n y j c)

  pub up_frame : (n : ℕ) (y : ℕ → Option (Partial P)) (j k : ℕ) (hs : List (maybe.Option (Option (Partial P))))
      (c : List (ℕ × Option (Partial P))) → ((t : ℕ) → t < j → k ≢ 8 * n + suc t)
      → get_elem? (homes_after hs c (takes_up n y j)) k ≡ get_elem? hs k
  up_frame n y zero k hs c far = refl
  up_frame n y (suc j) k hs c far = set_else (homes_after hs c (takes_up n y j)) (8 * n + suc j) k none
      (far j (omega arith))
      ∙ up_frame n y j k hs c (λ t l. far t (omega arith))

  pub up_long : (n : ℕ) (y : ℕ → Option (Partial P)) (j : ℕ) (hs : List (maybe.Option (Option (Partial P))))
      (c : List (ℕ × Option (Partial P))) → length (homes_after hs c (takes_up n y j)) ≡ length hs
  up_long n y zero hs c = refl
  up_long n y (suc j) hs c = length-set (homes_after hs c (takes_up n y j)) (8 * n + suc j) none ∙ up_long n y j hs c

  pub up_valid : (n : ℕ) (y : ℕ → Option (Partial P)) (j : ℕ) (hs : List (maybe.Option (Option (Partial P))))
      (c : List (ℕ × Option (Partial P))) → j < 8 → ((t : ℕ) → t < 8 → get_elem? hs (8 * n + t) ≡ some (some (y t)))
      → Valid hs c (takes_up n y j)
  up_valid n y zero hs c small all = tt
  up_valid n y (suc j) hs c small all = (
    up_valid n y j hs c (omega arith) all,
    up_frame n y j (8 * n + suc j) hs c (λ t l e. let x : t < j = l in omega arith) ∙ all (suc j) small,
  )

module _ {P : Type 0} (fits : ℕ → ℕ → P → Type 0) (y : ℕ → Option (Partial P)) where
  -- a part in front
  front_part : (lo hi top : ℕ) (x : Partial P) (xs : List (Partial P)) → lo < hi → IsPart fits lo hi x →
      AreParts fits hi top xs
      → AreParts fits lo top (x ∷ xs)
  front_part lo hi top x xs less is parts = (
    is.0,
    subst (λ (h : ℕ). lo < h) (sym is.1) less,
    subst (λ (h : ℕ). fits lo h x.part) (sym is.1) is.2,
    subst (λ (h : ℕ). AreParts fits h top xs) (sym is.1) parts,
  )

  climbs : (top : ℕ) (fs : List Piece) (j hi mid : ℕ) → AreBelow hi mid fs → AreParts fits mid top (present (stack y j))
      → ((t : ℕ) (p : Piece) → get_elem? fs t ≡ some p → (x : Partial P) × (y (j + 1 + t) ≡ Some x)
      × IsPart fits p.lo p.hi x)
      → AreParts fits hi top (present (stack y (j + length fs)))
  climbs top [] j hi mid d parts shows = let z : j ≡ j + 0 = omega arith in
      subst (λ (k : ℕ). AreParts fits hi top (present (stack y k))) z
      (subst (λ (k : ℕ). AreParts fits k top (present (stack y j))) (sym d) parts)
  climbs top (p ∷ ps) j hi mid d parts shows = let one = shows 0 p refl in let z : j + 1 + 0 ≡ suc j = omega arith in
      let is : y (suc j) ≡ Some one.0 = subst (λ (k : ℕ). y k ≡ Some one.0) z one.1 in
      let here : AreParts fits p.lo top (present (stack y (suc j))) =
      subst (λ (o : Option (Partial P)). AreParts fits p.lo top (present (o ∷ stack y j))) (sym is)
      (front_part p.lo p.hi top one.0 (present (stack y j)) d.1 one.2
      (subst (λ (k : ℕ). AreParts fits k top (present (stack y j))) (sym d.0) parts)) in
      let u : suc j + length ps ≡ j + suc (length ps) = omega arith in
      subst (λ (k : ℕ). AreParts fits hi top (present (stack y k))) u
      (climbs top ps (suc j) hi p.lo d.2 here (λ t q e. let s = shows (suc t) q e in
      let w : j + 1 + suc t ≡ suc j + 1 + t = omega arith in
      (s.0, subst (λ (k : ℕ). y k ≡ Some s.0) w s.1, s.2)))

  nones : (d j : ℕ) → ((t : ℕ) → t < d → y (j + 1 + t) ≡ None) → present (stack y (j + d)) ≡ present (stack y j)
  nones zero j blank = let z : j + 0 ≡ j = omega arith in ap (λ (k : ℕ). present (stack y k)) z
  nones (suc d) j blank = let z : j + suc d ≡ suc (j + d) = omega arith in
      let w : j + 1 + d ≡ suc (j + d) = omega arith in
      ap (λ (k : ℕ). present (stack y k)) z ∙ (ap (λ (o : Option (Partial P)). present (o ∷ stack y (j + d)))
      (subst (λ (k : ℕ). y k ≡ None) w (blank d (omega arith))) ∙ nones d j (λ t l. blank t (omega arith)))

  pub all_parts : (lo top : ℕ) (qs : List Piece) → AreTiles lo top qs → length qs ≤ 8
      → ((j : ℕ) (p : Piece) → get_elem? qs j ≡ some p → (x : Partial P) × (y j ≡ Some x) × IsPart fits p.lo p.hi x)
      → ((j : ℕ) → length qs ≤ j → j < 8 → y j ≡ None) → AreParts fits lo top (present (y 0 ∷ stack y 7))
  all_parts lo top [] tiled few shows blank = absurd tiled
  all_parts lo top (p ∷ ps) tiled few shows blank = let one = shows 0 p refl in let k : ℕ = length ps in
      let d : ℕ = 7 - k in
      let few' : suc k ≤ 8 = few in let z : 0 + k + d ≡ 7 = omega arith in
      let up = climbs top ps 0 p.hi top tiled.2 refl
      (λ t q e. let s = shows (suc t) q e in let w : suc t ≡ 0 + 1 + t = omega arith in
      (s.0, subst (λ (j : ℕ). y j ≡ Some s.0) w s.1, s.2)) in
      let gone : present (stack y (0 + k + d)) ≡ present (stack y (0 + k)) =
      nones d (0 + k) (λ t l. blank (0 + k + 1 + t) (omega arith) (omega arith)) in
      let same : present (stack y 7) ≡ present (stack y (0 + k)) = ap (λ (j : ℕ). present (stack y j)) (sym z) ∙ gone in
      let rest : AreParts fits p.hi top (present (stack y 7)) =
      subst (λ (l : List (Partial P)). AreParts fits p.hi top l) (sym same) up in
      subst (λ (o : Option (Partial P)). AreParts fits lo top (present (o ∷ stack y 7))) (sym one.1)
      (front_part lo p.hi top one.0 (present (stack y 7)) tiled.1
      (subst (λ (l : ℕ). IsPart fits l p.hi one.0) tiled.0 one.2) rest)

first : {P : Type 0} (x : Partial P) (os : List (Option (Partial P))) → Contains (present (Some x ∷ os)) x
first x os = (0, (let n : ℕ = length (present os) in let q : 0 < suc n = omega arith in q), refl)

behind : {P : Type 0} (o : Option (Partial P)) (os : List (Option (Partial P))) (x : Partial P) →
    Contains (present os) x
    → Contains (present (o ∷ os)) x
behind None os x c = c
behind (Some z) os x c = (
  suc c.0,
  (let l = c.1 in let n : ℕ = length (present os) in let i : ℕ = c.0 in let l' : i < n = l in
      let q : suc i < suc n = omega arith in q),
  c.2,
)

module _ {P : Type 0} (y : ℕ → Option (Partial P)) where
  -- what is in a slot is among the parts
  in_stack : (j i : ℕ) (x : Partial P) → 0 < i → i ≤ j → y i ≡ Some x → Contains (present (stack y j)) x
  in_stack zero i x pos most is = absurd (omega arith)
  in_stack (suc j) i x pos most is = dite (ℕ_discrete i (suc j))
      (λ here. subst (λ (o : Option (Partial P)). Contains (present (o ∷ stack y j)) x)
      (sym (subst (λ (k : ℕ). y k ≡ Some x) here is))
      (first x (stack y j)))
      (λ below. behind (y (suc j)) (stack y j) x (in_stack j i x pos (omega arith) is))

  pub among : (i : ℕ) (x : Partial P) → i < 8 → y i ≡ Some x → Contains (present (y 0 ∷ stack y 7)) x
  among i x small is = dite (ℕ_discrete i 0)
      (λ here. subst (λ (o : Option (Partial P)). Contains (present (o ∷ stack y 7)) x)
      (sym (subst (λ (k : ℕ). y k ≡ Some x) here is))
      (first x (stack y 7)))
      (λ forked. behind (y 0) (stack y 7) x (in_stack 7 i x (omega arith) (omega arith) is))
