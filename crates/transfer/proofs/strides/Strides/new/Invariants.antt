use Rattle.std.proofs.Common.{◌≡◌, ◌+◌, ◌-◌, vec_len}
use Rattle.std.specs.Prelude.{All, vec_capacity}
use Rattle.std.specs.List.{range_with_len}
use Rattle.transfer.specs.Books.{new_book}
use Rattle.transfer.specs.Views.{IsSpare, move_of}
use Rattle.transfer.proofs.strides.Strides.new.Given as goal

abbrev pub invariant-loop-number : goal.invariant-loop-number
invariant-loop-number g l =
    record {
      table : l.seat.table_id ≡ l.table.shared.table_id;
      book : l.seat.me.0 ≡ new_book l.bins 0 (range_with_len l._number (64 - l._number));
      dealt : vec_len l.spare + 1 ≡ l._number;
      room : vec_capacity l.spare ≡ 63;
      spare : All (λ p. IsSpare (move_of l.table.shared.table_id l.bins) p.value) l.spare.items;
    }
