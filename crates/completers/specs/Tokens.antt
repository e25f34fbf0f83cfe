-- What the seats of the tokens know.
use Rattle.std.specs.Prelude.{◌≡◌, ℕ, ◌+◌, ◌-◌, ◌*◌, ◌^◌, ◌<◌, ◌≤◌, List, [], ◌∷◌}
use Rattle.atomic_table.specs.Table.{Me}
use Rattle.atomic_table.specs.Seated.{TableId}
use Rattle.completers.specs.Limits.{most_nodes}
use Rattle.completers.specs.declared.rule.Right.{Right}
use Rattle.completers.specs.declared.rule.Right.TheVariants.{Opened, Waits, Counted}
use Rattle.completers.specs.Rights.{nodes, forks_in, up_in}

-- a table of two words and eight slots a node
pub record IsTree (table : TableId) (nodes slots : ℕ) : Type 0 where
  pub words : table.words ≡ 2 * nodes
  pub all_slots : table.slots ≡ 8 * nodes
  pub few_nodes : nodes ≤ most_nodes
  pub few_slots : slots ≤ 8

module _ {S : Type 0} where
  pub record IsSupply (table : TableId) (me : Me S (List Right)) (first level : ℕ) : Type 0 where
    pub rights : me ≡ (nodes first (2 ^ level), [])
    pub inside : 8 * (first + 2 ^ level) ≤ table.slots
    pub few : level ≤ 7

  pub record IsNode (table : TableId) (me : Me S (List Right)) (node lo hi forks level : ℕ) : Type 0 where
    pub rights : me ≡ (Opened node lo hi (forks + 1) (up_in me.0) ∷ nodes (node + 1) (2 ^ level - 1), [])
    pub inside : 8 * (node + 2 ^ level) ≤ table.slots
    pub few : level ≤ 7
    pub range : lo < hi

  pub record IsTicket (table : TableId) (me : Me S (List Right)) (node number lo hi : ℕ) : Type 0 where
    pub rights : me ≡ (Waits node number lo hi (forks_in me.0) (up_in me.0) ∷ [], [])
    pub small : number < 8
    pub inside : 8 * node + 8 ≤ table.slots
    pub range : lo < hi

  pub record IsCounted (me : Me S (List Right)) (node number : ℕ) : Type 0 where
    pub rights : me ≡ (Counted node number ∷ [], [])
