-- How many nodes a tree has at most, with their words and slots, and how many indices can be claimed.
use Rattle.std.specs.Prelude.{ℕ, ◌*◌}

abbrev pub most_nodes : ℕ
most_nodes = 128

-- a node has two words
abbrev pub most_words : ℕ
most_words = 2 * most_nodes

-- and eight slots
abbrev pub most_slots : ℕ
most_slots = 8 * most_nodes

-- an index that is claimed is below this
abbrev pub most_indices : ℕ
most_indices = 65536
