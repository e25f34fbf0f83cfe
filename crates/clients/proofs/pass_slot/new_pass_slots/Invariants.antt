use Rattle.std.proofs.Common.{◌≡◌, ◌≤◌, ◌+◌, ◌<◌, ◌∷◌, ℕ, List, length, slice_index_or, vec_capacity}
use Rattle.clients.proofs.pass_slot.new_pass_slots.Given as goal

abbrev pub invariant-loop-at : goal.invariant-loop-at
invariant-loop-at g l =
    (length l.pass_slots.items ≡ l.at) × (l.len ≤ vec_capacity l.pass_slots)
    × ((i : ℕ) (c : List ℕ) → i < l.at → slice_index_or l.pass_slots.items i c ≡ (l.first + i) ∷ l.tag.numbers)
