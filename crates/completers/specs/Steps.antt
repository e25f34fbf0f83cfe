-- What each step tells its token: its rights and slots before and after, and the number that it found.
use Rattle.std.specs.Prelude.{◌≡◌, ◌≢◌, ℕ, ◌+◌, ◌-◌, ◌*◌, ◌≤◌, List, [], ◌∷◌, Option, Some, None, length}
use Rattle.atomic_table.specs.Table.{Me, rest}
use Rattle.completers.specs.Game.{fork, own, arrive, number, IsPossible}
use Rattle.completers.specs.Parts.{AreParts, present, stack, pile}
use Rattle.completers.specs.Rights.{IsTicketAbove, code, path_of, node_in, ticket_in, tickets_in, forks_in, code_in}
use Rattle.completers.specs.Rights.{up_in}
use Rattle.completers.specs.declared.relation.Partial.{Partial}
use Rattle.completers.specs.declared.rule.Above.{Above}
use Rattle.completers.specs.declared.rule.Right.{Right}
use Rattle.completers.specs.declared.rule.Right.TheVariants.{Unopened, Opened, Waits, Fills, Counted}

-- the ticket has its slot, and has read this code
abbrev pub filling_rights : ℕ → List Right → List Right
filling_rights c [] = []
filling_rights c (Unopened n ∷ rs) = []
filling_rights c (Opened n lo hi k up ∷ rs) = []
filling_rights c (Waits n i lo hi f up ∷ rs) = Fills n i lo hi f c up ∷ []
filling_rights c (Fills n i lo hi f d up ∷ rs) = []
filling_rights c (Counted n i ∷ rs) = []

-- the node's new ticket, and the node with the range that is left
abbrev pub forked_rights : ℕ → List Right → List Right
forked_rights mid [] = []
forked_rights mid (Unopened n ∷ rs) = []
forked_rights mid (Opened n lo hi k up ∷ rs) = Waits n k mid hi 0 up ∷ Opened n lo mid (k + 1) up ∷ rs
forked_rights mid (Waits n i lo hi f up ∷ rs) = []
forked_rights mid (Fills n i lo hi f c up ∷ rs) = []
forked_rights mid (Counted n i ∷ rs) = []

-- the own ticket
abbrev pub own_rights : List Right → List Right
own_rights [] = []
own_rights (Unopened n ∷ rs) = []
own_rights (Opened n lo hi k up ∷ rs) = Waits n 0 lo hi (k - 1) up ∷ []
own_rights (Waits n i lo hi f up ∷ rs) = []
own_rights (Fills n i lo hi f c up ∷ rs) = []
own_rights (Counted n i ∷ rs) = []

-- the first node of a supply, opened for a range, with the supply that is left
abbrev pub opened_rights_for : ℕ → ℕ → List Above → List Right → List Right
opened_rights_for lo hi up [] = []
opened_rights_for lo hi up (Unopened n ∷ rs) = Opened n lo hi 1 up ∷ rs
opened_rights_for lo hi up (Opened n lo' hi' k up' ∷ rs) = []
opened_rights_for lo hi up (Waits n i lo' hi' f up' ∷ rs) = []
opened_rights_for lo hi up (Fills n i lo' hi' f c up' ∷ rs) = []
opened_rights_for lo hi up (Counted n i ∷ rs) = []

-- the root's range is the whole one, another node's that of the ticket in front, which goes to the node
abbrev pub opened_rights : ℕ → List Right → List Right
opened_rights bins [] = []
opened_rights bins (Unopened n ∷ rs) = Opened n 0 bins 1 [] ∷ rs
opened_rights bins (Opened n lo hi k up ∷ rs) = []
opened_rights bins (Waits n i lo hi f up ∷ rs) =
    opened_rights_for lo hi (record { node = n; number = i; lo = lo; hi = hi; forks = f } ∷ up) rs
opened_rights bins (Fills n i lo hi f c up ∷ rs) = []
opened_rights bins (Counted n i ∷ rs) = []

abbrev pub Knowledge : Type 0 → Type 0
Knowledge P = Me (Option (Partial P)) (List Right)

module _ {P : Type 0} where
  abbrev pub Opens : ℕ → Knowledge P → Knowledge P → Type 0
  Opens bins m m' = m' ≡ (opened_rights bins m.0, m.1)

  abbrev pub Forks : ℕ → Knowledge P → ℕ → Knowledge P → Type 0
  Forks mid m found m' = (m' ≡ (forked_rights mid m.0, m.1))
      × IsPossible fork (λ p. (number p ≡ found) × (length p.arrived ≡ tickets_in m.0))

  abbrev pub Owns : Knowledge P → ℕ → Knowledge P → Type 0
  Owns m found m' = (m' ≡ (own_rights m.0, m.1))
      × IsPossible own (λ p. (number p ≡ found) × (length p.arrived ≡ tickets_in m.0))

  abbrev pub Takes : Knowledge P → ℕ → Knowledge P → Type 0
  Takes m found m' = m' ≡ (filling_rights found m.0, (8 * node_in m.0 + ticket_in m.0, None) ∷ m.1)

  -- what the slot in front holds
  abbrev pub in_front : List (ℕ × Option (Partial P)) → Option (Partial P)
  in_front [] = None
  in_front (x ∷ xs) = x.1

  -- all slots of the node, what the ticket put into its own among them, and the right above the node, for the range
  -- that it was opened for
  pub record TakesAll (fits : ℕ → ℕ → P → Type 0) (bins slots : ℕ) (m m' : Knowledge P) : Type 0 where
    pub lo : ℕ
    pub hi : ℕ
    pub held : ℕ → Option (Partial P)
    pub all_slots : m'.1 ≡ (8 * node_in m.0, held 0) ∷ pile (node_in m.0) held 7 (rest m.1)
    pub mine : held (ticket_in m.0) ≡ in_front m.1
    pub parts : AreParts fits lo hi (present (held 0 ∷ stack held 7))
    pub first : (x : Partial P) × (held 0 ≡ Some x) × (x.lo ≡ lo)
    pub above : IsTicketAbove bins lo hi m'.0
    pub coded : code m'.0 ≡ code_in m.0
    pub path : path_of m'.0 ≡ up_in m.0
    pub inside : m'.0 ≢ [] → 8 * node_in m'.0 + 8 ≤ slots

  abbrev pub Arrives : (ℕ → ℕ → P → Type 0) → ℕ → ℕ → Knowledge P → ℕ → Knowledge P → Type 0
  Arrives fits bins slots m found m' =
      IsPossible (arrive (ticket_in m.0))
      (λ p. (number p ≡ found) × (ticket_in m.0 ≡ 0 → length p.arrived ≡ forks_in m.0 + 1))
      × (found ≡ 1 → TakesAll fits bins slots m m')
      × (found ≢ 1 → m' ≡ (Counted (node_in m.0) (ticket_in m.0) ∷ [], rest m.1))
