use Rattle.std.proofs.Common.{◌≡◌, ◌≤◌, ℕ, ◌<◌, length, slice_index_or, vec_capacity}
use Rattle.clients.specs.PassPools.{IsRow, RowView}
use Rattle.clients.proofs.pass_slot.new_rows.Given as goal

abbrev pub invariant-loop-row : goal.invariant-loop-row
invariant-loop-row g l =
    record {
      len : length l.rows.items ≡ l.row;
      room : 14 ≤ vec_capacity l.rows;
      each : (i : ℕ) (r : RowView) → i < l.row → IsRow l.tag.numbers i (slice_index_or l.rows.items i r);
    }
