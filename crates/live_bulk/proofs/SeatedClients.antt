-- Clients in their seats, before and after they visited their shares.
use Rattle.std.proofs.Common.{◌≡◌, ℕ, zero, suc, ◌<◌, ◌==◌, false, Bool, Option, List, All, Some, None, IsSome, IsSomeAnd, length, map}
use Rattle.std.proofs.Common.{◌++◌, take, slice_index_or, refl, sym, ap, ◌∙◌, arith}
use Rattle.std.proofs.Math.Seq.{take-append_seam}
use Rattle.std.proofs.lemmas.Bool.{false≢true}
use Rattle.std.proofs.lemmas.List.{get_or-map, length-map}
use Rattle.bin_history.specs.declared.call.Call.{Call}
use Rattle.count_ledger.specs.Fronts.{HasSeenMore}
use Rattle.count_ledger.specs.Views.{LedgerId, LedgerView, PassView}
use Rattle.part_walks.specs.declared.seats.Seat.{Seat}
use Rattle.chm.specs.Shares.{AreSameClients}
use Rattle.live_bulk.specs.Shared.{HasVisited}

-- a list that is not empty has an item
pub not-empty : (n : ℕ) → (n == 0) ≡ false → 0 < n
not-empty zero is = absurd (false≢true (sym is))
not-empty (suc n) is = omega arith

-- a list that was lent and has its length again
pub restored : {X : Type 0} (xs rest : List X) (n : ℕ) → length xs ≡ n → take n (xs ++ rest) ≡ xs
restored xs rest n is = ap (λ (m : ℕ). take m (xs ++ rest)) (sym is) ∙ take-append_seam xs rest

is-some : {T : Type 0} (P : T → Type 0) (o : Option T) → IsSomeAnd o P → IsSome o
is-some P None none = absurd none
is-some P (Some x) p = refl

module _ {K V F T : Type 0} (id : LedgerId) (old : List (PassView K V F)) (before : List (Seat K V F T))
    (seated : map (λ s. s.pass) before ≡ old) where
  abbrev pass_of : Seat K V F T → PassView K V F
  pass_of s = s.pass

  abbrev seat_of : PassView K V F → Seat K V F T
  seat_of p = record { pass = p; part = None }

  pub as_many : length before ≡ length old
  as_many = sym (length-map before pass_of) ∙ ap length seated

  before-at : (i : ℕ) (s : Seat K V F T) → i < length before →
      (slice_index_or before i s).pass ≡ slice_index_or old i s.pass
  before-at i s lt = sym (get_or-map pass_of before i s s.pass lt)
      ∙ ap (λ (ps : List (PassView K V F)). slice_index_or ps i s.pass) seated

  pub own-before : All (λ p. p.ledger ≡ id) old → All (λ s. s.pass.ledger ≡ id) before
  own-before own = λ i s lt. ap (λ (p : PassView K V F). p.ledger) (before-at i s lt)
      ∙ own i s.pass (let n = as_many in omega arith)

  module _ (same : K → K → Bool) (code : K → ℕ) (after : Call K V F → Option V → Option V)
      (reached : List (K × V) → T → Type 0) (ends : T → Type 0)
      (ledger : LedgerView K V) (n shares : ℕ) (later : List (Seat K V F T)) (long : length later ≡ length before)
      (visited : (i : ℕ) (d : Seat K V F T) → i < length before → HasVisited same code after reached ends ledger n shares i
      (slice_index_or before i d) (slice_index_or later i d)) where
    later-at : (i : ℕ) (p : PassView K V F) → i < length old →
        slice_index_or (map pass_of later) i p ≡ (slice_index_or later i (seat_of p)).pass
    later-at i p lt = get_or-map pass_of later i (seat_of p) p (let m = as_many in omega arith)

    more-at : (i : ℕ) (s : Seat K V F T) → i < length before →
        HasSeenMore (slice_index_or before i s).pass (slice_index_or later i s).pass
    more-at i s lt = let own = visited i s lt in own.seen

    pub all-collected : All (λ s. IsSome s.part) later
    all-collected = λ i s lt.
        let own = visited i s (omega arith) in is-some _ (slice_index_or later i s).part own.collected

    pub length-later : length (map pass_of later) ≡ length old
    length-later = length-map later pass_of ∙ long ∙ as_many

    pub own-later : All (λ p. p.ledger ≡ id) old → All (λ p. p.ledger ≡ id) (map pass_of later)
    own-later own = λ i p lt.
        let many : i < length old = let m = length-later in omega arith in
        let less : i < length before = let m = as_many in omega arith in
        ap (λ (q : PassView K V F). q.ledger) (later-at i p many)
        ∙ ap (λ (q : PassView K V F). q.ledger) (more-at i (seat_of p) less).pass
        ∙ ap (λ (q : PassView K V F). q.ledger) (before-at i (seat_of p) less)
        ∙ own i p many

    pub clients-later : AreSameClients old (map pass_of later)
    clients-later = λ i p lt.
        let less : i < length before = let m = as_many in omega arith in
        ap (λ (q : PassView K V F). q.client) (later-at i p lt)
        ∙ ap (λ (q : PassView K V F). q.client) (more-at i (seat_of p) less).pass
        ∙ ap (λ (q : PassView K V F). q.client) (before-at i (seat_of p) less)
