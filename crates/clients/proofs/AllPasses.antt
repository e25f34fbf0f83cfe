-- The passes of all clients: those that were taken, and those that nobody took.
use Rattle.std.proofs.Common.{◌≡◌, ℕ, ◌+◌, ◌-◌, ◌<◌, ◌≤◌, inl, inr, List, ◌++◌, length, ap, sym, ◌∙◌, arith}
use Rattle.std.proofs.Common.{slice_index_or}
use Rattle.std.specs.List.{range_with_len}
use Rattle.std.proofs.lemmas.List.{get_or_append_left, get_or-append_right, get_or-map, length-append}
use Rattle.std.proofs.lemmas.List.FromFn.{get_or-range_with_len, length-map-range_with_len, length-range_with_len}
use Rattle.count_ledger.specs.Opening.{left_in, new_pass}
use Rattle.count_ledger.specs.Views.{PassView, RosterView}
use Rattle.clients.specs.Teams.{AreInOrder}
use Rattle.clients.specs.PassPools.{AreOfAll}
use Rattle.clients.proofs.Rows.{below-or-not}

module _ (K V F : Type 0) (roster : RosterView) where
  abbrev left : List (PassView K V F)
  left = left_in roster

  many-left : length left ≡ roster.clients - roster.next
  many-left = length-map-range_with_len (new_pass {K = K} {V = V} {F = F} roster.ledger) roster.next (roster.clients - roster.next)

  left-at : (i : ℕ) (p : PassView K V F) → i < roster.clients - roster.next →
      (slice_index_or left i p).client ≡ roster.next + i
  left-at i p low =
      let count = roster.clients - roster.next in
      ap (λ (q : PassView K V F). q.client)
      (get_or-map (new_pass {K = K} {V = V} {F = F} roster.ledger) (range_with_len roster.next count) i i p
      (let l = length-range_with_len roster.next count in omega arith))
      ∙ get_or-range_with_len roster.next count i i low

  pub all-in-order : (taken : List (PassView K V F)) → AreInOrder taken → length taken ≡ roster.next →
      roster.next ≤ roster.clients → AreOfAll roster.clients (taken ++ left)
  all-in-order taken order long few = record {
    long = length-append taken left ∙ (let m = many-left in omega arith);
    in_order = λ i p low. elim (below-or-not i roster.next) [
      | inl less ↦ ap (λ (q : PassView K V F). q.client) (get_or_append_left taken left p i (omega arith))
          ∙ order i p (omega arith)
      | inr more ↦
          let fewer : i - roster.next < roster.clients - roster.next =
          let m = many-left in let w = length-append taken left in omega arith in
          let sum : roster.next + (i - roster.next) ≡ i = omega arith in
          ap (λ (q : PassView K V F). q.client) (get_or-append_right taken left roster.next i p long more)
          ∙ left-at (i - roster.next) p fewer ∙ sum
    ];
  }
