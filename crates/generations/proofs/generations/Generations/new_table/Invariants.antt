use Rattle.std.proofs.Common.{◌≡◌, ◌≤◌, map, vec_len, vec_capacity}
use Rattle.std.specs.List.{range_with_len}
use Rattle.generations.proofs.Indexes.{tag_at}
use Rattle.generations.proofs.generations.Generations.new_table.Given as goal

abbrev pub invariant-loop-index : goal.invariant-loop-index
invariant-loop-index g l =
    record {
      places : l.places.items ≡ map (tag_at l.self l.size) (range_with_len 0 l.index);
      len : vec_len l.places ≡ l.index;
      room : l.size ≤ vec_capacity l.places;
    }
