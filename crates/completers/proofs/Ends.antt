-- What an arrival tells, put together.
use Rattle.std.proofs.Common.{◌≡◌, ℕ, suc, ◌+◌, ◌-◌, ◌*◌, ◌/◌, ◌%◌, ◌^◌, ◌<◌, ◌≤◌, ◌≢◌, Bool, false, cond, List}
use Rattle.std.proofs.Common.{[]}
use Rattle.std.proofs.Common.{◌∷◌, map, length, sym, ap, ◌∙◌, subst}
use Rattle.std.proofs.Common.{⊎_elim, arith}
use mathlib.Core.Option.{some, some-injective}
use lib.ListN.{get_elem?}
use Rattle.std.specs.Prelude.{Option, Some, None}
use Rattle.completers.specs.Game.{waiting}
use Rattle.atomic_table.specs.Table.{Me}
use Rattle.completers.specs.Rights.{code, IsTicketAbove, nodes, tail, lower_half, node_in, forks_in, up_in}
use Rattle.completers.proofs.Seats.{lower}
use Rattle.completers.specs.Steps.{forked_rights}
use Rattle.completers.specs.Parts.{AreParts, IsPart, present, stack, pile, ends, slots_of}
use Rattle.completers.specs.declared.relation.Partial.{Partial}
use Rattle.completers.specs.declared.parts.Slots.{Slots}
use Rattle.completers.specs.declared.rule.Above.{Above}
use Rattle.completers.specs.declared.rule.Right.{Right}
use Rattle.completers.specs.declared.rule.Right.TheVariants.{Opened, Waits}

-- a ticket that is alone at its node is the last
pub alone : (bs : List Bool) → length bs ≡ 1 → get_elem? bs 0 ≡ some false → waiting bs ≡ 1
alone [] one e = absurd (omega arith)
alone (b ∷ []) one e = ap (λ (x : Bool). cond x 0 1 + 0) (some-injective b false e)
alone (b ∷ c ∷ bs) one e = let l : ℕ = length bs in let o : suc (suc l) ≡ 1 = one in absurd (omega arith)

module _ {P : Type 0} where
  pub full : (n : ℕ) (y : ℕ → Option (Partial P)) (l : List (ℕ × Option (Partial P))) (ps : Slots P) →
      l ≡ (8 * n, y 0) ∷ pile n y 7 []
      → slots_of ps ≡ map (λ (p : ℕ × Option (Partial P)). p.1) l → slots_of ps ≡ y 0 ∷ stack y 7
  full n y l ps e f = f ∙ ap (map (λ (p : ℕ × Option (Partial P)). p.1)) e

  abbrev first_of_all : List (Option (Partial P)) → Option (Partial P)
  first_of_all [] = None
  first_of_all (o ∷ os) = o

  pub own_is : (y : ℕ → Option (Partial P)) (ps : Slots P) → slots_of ps ≡ y 0 ∷ stack y 7 → ps.own ≡ y 0
  own_is y ps e = ap first_of_all e

module _ {P : Type 0} (fits : ℕ → ℕ → P → Type 0) where
  grows : (lo hi : ℕ) (xs : List (Partial P)) → AreParts fits lo hi xs → lo ≤ hi
  grows lo hi [] e = let q : lo ≡ hi = e in let r : lo ≤ hi = omega arith in r
  grows lo hi (x ∷ xs) e = let r : x.hi ≤ hi = grows x.hi hi xs e.3 in let q : lo < x.hi = e.1 in let s : ℕ = x.hi in
      let r' : s ≤ hi = r in
      let q' : lo < s = q in let z : lo ≤ hi = omega arith in z

  -- the range of parts that are there isn't empty
  pub not_empty : (lo hi : ℕ) (x : Partial P) (os : List (Option (Partial P))) (o : Option (Partial P)) → o ≡ Some x
      → AreParts fits lo hi (present (o ∷ os)) → lo < hi
  not_empty lo hi x os o is parts = let e : AreParts fits lo hi (x ∷ present os) =
      subst (λ (u : Option (Partial P)). AreParts fits lo hi (present (u ∷ os))) is parts in
      let r : x.hi ≤ hi = grows x.hi hi (present os) e.3 in let q : lo < x.hi = e.1 in let s : ℕ = x.hi in
      let r' : s ≤ hi = r in
      let q' : lo < s = q in let z : lo < hi = omega arith in z

  pub ends_at : (lo hi : ℕ) (os : List (Option (Partial P))) → AreParts fits lo hi (present os) → ends lo os ≡ hi
  ends_at lo hi [] e = e
  ends_at lo hi (None ∷ os) e = ends_at lo hi os e
  ends_at lo hi (Some x ∷ os) e = ends_at x.hi hi os e.3

  pub is_part : (lo hi : ℕ) (x : Partial P) → x.lo ≡ lo → x.hi ≡ hi → fits x.lo x.hi x.part → IsPart fits lo hi x
  is_part lo hi x a b c = (a, b, subst (λ (z : ℕ × ℕ). fits z.0 z.1 x.part) (λ k. (a k, b k)) c)

-- the ticket above, found again by its code
pub again : (lo hi bins c slots : ℕ) (rights : List Right) → IsTicketAbove bins lo hi rights → code rights ≡ c → c ≢ 0
    → (rights ≢ [] → 8 * node_in rights + 8 ≤ slots)
    → (f : ℕ) × (up : List Above) × (rights ≡ Waits ((c - 1) / 8) ((c - 1) % 8) lo hi f up ∷ [])
    × (8 * ((c - 1) / 8) + 8 ≤ slots)
again lo hi bins c slots rights is e nz room = ⊎_elim
    (λ none_is. absurd (nz (sym e ∙ ap code none_is.0)))
    (λ one. let m : ℕ = one.0 in let i : ℕ = one.1 in let small : i < 8 = one.4 in
    let f : 8 * m + i + 1 ≡ c = ap code (sym one.5) ∙ e in
    let a : m ≡ (c - 1) / 8 = omega arith in let b : i ≡ (c - 1) % 8 = omega arith in
    let there : rights ≢ [] = λ z. nz (sym e ∙ ap code z) in
    let low : 8 * m + 8 ≤ slots = subst (λ (rs : List Right). 8 * node_in rs + 8 ≤ slots) one.5 (room there) in
    (one.2, one.3, one.5 ∙ (λ k. Waits (a k) (b k) lo hi one.2 one.3 ∷ []), subst (λ (z : ℕ). 8 * z + 8 ≤ slots) a low))
    is

-- the root has nothing above it, and the whole range
pub none_above : (lo hi bins c : ℕ) (rights : List Right) → IsTicketAbove bins lo hi rights → code rights ≡ c → c ≡ 0 →
    (rights ≡ []) × (lo ≡ 0)
    × (hi ≡ bins)
none_above lo hi bins c rights is e z = ⊎_elim (λ none_is. none_is)
    (λ one. let f : 8 * one.0 + one.1 + 1 ≡ c = ap code (sym one.5) ∙ e in let m : ℕ = one.0 in let i : ℕ = one.1 in
    let f' : 8 * m + i + 1 ≡ c = f in absurd (omega arith)) is

-- a seat with the right of a ticket
pub is_ticket : {S : Type 0} (me : Me S (List Right)) (n i lo hi f : ℕ) (up : List Above) →
    me ≡ (Waits n i lo hi f up ∷ [], [])
    → me ≡ (Waits n i lo hi (forks_in me.0) (up_in me.0) ∷ [], [])
is_ticket me n i lo hi f up e = e ∙ (λ t. (Waits n i lo hi (forks_in (sym e t).0) (up_in (sym e t).0) ∷ [], []))

-- and one with that of an open node
pub is_node : {S : Type 0} (me : Me S (List Right)) (n lo hi k : ℕ) (up : List Above) (rs : List Right)
    → me ≡ (Opened n lo hi k up ∷ rs, []) → me ≡ (Opened n lo hi k (up_in me.0) ∷ rs, [])
is_node me n lo hi k up rs e = e ∙ (λ t. (Opened n lo hi k (up_in (sym e t).0) ∷ rs, []))

-- what a fork leaves with the node
pub left_node : {S : Type 0} (a b c d : Me S (List Right)) (mid n lo hi k level : ℕ) (up : List Above) → 0 < level
    → a ≡ (Opened n lo hi k up ∷ nodes (n + 1) (2 ^ level - 1), [])
    → b ≡ (forked_rights mid a.0, a.1) → c ≡ (tail b.0, b.1) → d ≡ (lower_half c.0, c.1)
    → d ≡ (Opened n lo mid (k + 1) up ∷ nodes (n + 1) (2 ^ (level - 1) - 1), [])
left_node a b c d mid n lo hi k level up more is e f g =
    g ∙ (ap (λ u. (lower_half u.0, u.1)) f ∙
    (ap (λ u. (lower_half (tail u.0), u.1)) e
    ∙ (ap (λ u. (lower_half (tail (forked_rights mid u.0)), u.1)) is
    ∙ ap (λ l. (l, [])) (lower (Opened n lo mid (k + 1) up) n level more))))
