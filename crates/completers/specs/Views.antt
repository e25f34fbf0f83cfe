-- What callers see of a tree and of its tokens.
use Rattle.std.specs.Prelude.{ℕ, ◌+◌, ◌-◌, ◌^◌, List, [], ◌∷◌, length, Option, Some, None}
use Rattle.completers.specs.declared.rule.Above.{Above}
pub use Rattle.atomic_table.specs.Seated.{TableId}

-- a tree: what no other tree shares with it, what its parts relate to, the end of its range, and how many tickets a
-- node can have
pub record TreeView (B : Type 0) : Type 0 where
  pub identity : TableId
  pub relation : B
  pub bins : ℕ
  pub slots : ℕ

-- 2 ^ level nodes of a tree, from the first on
pub record SupplyView : Type 0 where
  pub tree : TableId
  pub first : ℕ
  pub level : ℕ

-- an open node of a tree: the range that is left, how often it forked, its supply of 2
-- ^ level nodes, itself among them, and the tickets above it, the nearest first
pub record NodeView : Type 0 where
  pub tree : TableId
  pub node : ℕ
  pub lo : ℕ
  pub hi : ℕ
  pub forks : ℕ
  pub level : ℕ
  pub above : List Above

-- a ticket of a node: its number, 0 for the own ticket, its range, how often the node forked,
-- where it is the own ticket (else 0), and the tickets above the node, the nearest first
pub record TicketView : Type 0 where
  pub tree : TableId
  pub node : ℕ
  pub number : ℕ
  pub lo : ℕ
  pub hi : ℕ
  pub forks : ℕ
  pub above : List Above

-- a ticket that has arrived at a node of a tree, where others had not: its number
pub record CountedView : Type 0 where
  pub tree : TableId
  pub node : ℕ
  pub number : ℕ

-- a ticket, and then those above it: what stands above a node that is opened with it. Nothing stands above the root
abbrev pub path_from : Option TicketView → List Above
path_from None = []
path_from (Some t) = record { node = t.node; number = t.number; lo = t.lo; hi = t.hi; forks = t.forks } ∷ t.above

-- the nearest of the tickets above a node
abbrev pub nearest : TableId → List Above → Option TicketView
nearest tree [] = None
nearest tree (t ∷ up) =
    Some (record { tree = tree; node = t.node; number = t.number; lo = t.lo; hi = t.hi; forks = t.forks; above = up })

-- the range that a node with these tickets above it was opened for: that of the nearest, or of the whole tree
abbrev pub opened_from : List Above → ℕ
opened_from [] = 0
opened_from (t ∷ up) = t.lo

abbrev pub opened_to : ℕ → List Above → ℕ
opened_to bins [] = bins
opened_to bins (t ∷ up) = t.hi

-- how many tickets are above a ticket's node
abbrev pub depth : TicketView → ℕ
depth t = length t.above

abbrev pub counted_ticket : TicketView → CountedView
counted_ticket t = record { tree = t.tree; node = t.node; number = t.number }

abbrev pub new_node : SupplyView → List Above → ℕ → ℕ → NodeView
new_node s up lo hi = record { tree = s.tree; node = s.first; lo = lo; hi = hi; forks = 0; level = s.level; above = up }

-- the node, its new ticket and the new ticket's supply after a fork at mid
abbrev pub after_fork : ℕ → NodeView → NodeView
after_fork mid n = record {
  tree = n.tree;
  node = n.node;
  lo = n.lo;
  hi = mid;
  forks = n.forks + 1;
  level = n.level - 1;
  above = n.above;
}

abbrev pub forked_ticket : ℕ → NodeView → TicketView
forked_ticket mid n = record {
  tree = n.tree;
  node = n.node;
  number = n.forks + 1;
  lo = mid;
  hi = n.hi;
  forks =
      0;
  above = n.above;
}

abbrev pub forked_supply : NodeView → SupplyView
forked_supply n = record { tree = n.tree; first = n.node + 2 ^ (n.level - 1); level = n.level - 1 }

abbrev pub own_ticket : NodeView → TicketView
own_ticket n = record {
  tree = n.tree;
  node = n.node;
  number = 0;
  lo = n.lo;
  hi = n.hi;
  forks =
      n.forks;
  above = n.above;
}
