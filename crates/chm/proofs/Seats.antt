-- Clients in their seats, their passes and what they answered.
use Rattle.std.proofs.Common.{◌≡◌, ℕ, ◌<◌, List, ◌++◌, Option, Some, None, IsSome, IsSomeAnd, All, length, map}
use Rattle.std.proofs.Common.{take, slice_index_or, refl, sym, ap, subst, ◌∙◌, arith}
use Rattle.std.proofs.Math.Seq.{take-append_seam}
use Rattle.std.proofs.lemmas.List.{get_or-map, length-map}
use Rattle.count_ledger.specs.Views.{LedgerId, PassView}
use Rattle.chm.specs.Shares.{AreSameClients, HasEnded, HaveWorked}
use Rattle.part_walks.specs.declared.seats.Seat.{Seat}

is-some : {T : Type 0} (P : T → Type 0) (o : Option T) → IsSomeAnd o P → IsSome o
is-some P None none = absurd none
is-some P (Some x) p = refl

-- a list that was lent and has its length again
pub restored : {X : Type 0} (xs rest : List X) (n : ℕ) → length xs ≡ n → take n (xs ++ rest) ≡ xs
restored xs rest n is = ap (λ (m : ℕ). take m (xs ++ rest)) (sym is) ∙ take-append_seam xs rest

-- clients with these passes, before their work and after
module _ {K V F T : Type 0} (does : PassView K V F → PassView K V F → T → Type 0) (id : LedgerId)
    (old : List (PassView K V F)) (before : List (Seat K V F T)) (seated : map (λ s. s.pass) before ≡ old) where
  abbrev pass_of : Seat K V F T → PassView K V F
  pass_of s = s.pass

  abbrev answer_of : Seat K V F T → Option T
  answer_of s = s.part

  abbrev seat_of : PassView K V F → Seat K V F T
  seat_of p = record { pass = p; part = None }

  as_many : length before ≡ length old
  as_many = sym (length-map before pass_of) ∙ ap length seated

  before-at : (i : ℕ) (s : Seat K V F T) → i < length before →
      (slice_index_or before i s).pass ≡ slice_index_or old i s.pass
  before-at i s lt = sym (get_or-map pass_of before i s s.pass lt)
      ∙ ap (λ (ps : List (PassView K V F)). slice_index_or ps i s.pass) seated

  pub own-before : All (λ p. p.ledger ≡ id) old → All (λ s. s.pass.ledger ≡ id) before
  own-before own = λ i s lt. ap (λ (p : PassView K V F). p.ledger) (before-at i s lt)
      ∙ own i s.pass (let n = as_many in omega arith)

  module _ (after : List (Seat K V F T)) (long : length after ≡ length before)
      (ended : (i : ℕ) (s : Seat K V F T) → i < length before →
      HasEnded does (slice_index_or before i s) (slice_index_or after i s)) where
    after-at : (i : ℕ) (p : PassView K V F) → i < length old →
        slice_index_or (map pass_of after) i p ≡ (slice_index_or after i (seat_of p)).pass
    after-at i p lt = get_or-map pass_of after i (seat_of p) p (let n = as_many in omega arith)

    pub all-answered : All (λ s. IsSome s.part) after
    all-answered = λ i s lt.
        is-some (does (slice_index_or before i s).pass (slice_index_or after i s).pass)
        (slice_index_or after i s).part (ended i s (omega arith)).done

    pub length-after : length (map pass_of after) ≡ length old
    length-after = length-map after pass_of ∙ long ∙ as_many

    pub own-after : All (λ p. p.ledger ≡ id) old → All (λ p. p.ledger ≡ id) (map pass_of after)
    own-after own = λ i p lt.
        let many : i < length old = let n = length-after in omega arith in
        let less : i < length before = let n = as_many in omega arith in
        ap (λ (q : PassView K V F). q.ledger) (after-at i p many)
        ∙ (ended i (seat_of p) less).ledger
        ∙ ap (λ (q : PassView K V F). q.ledger) (before-at i (seat_of p) less)
        ∙ own i p many

    pub clients-after : AreSameClients old (map pass_of after)
    clients-after = λ i p lt.
        let less : i < length before = let n = as_many in omega arith in
        ap (λ (q : PassView K V F). q.client) (after-at i p lt)
        ∙ (ended i (seat_of p) less).client
        ∙ ap (λ (q : PassView K V F). q.client) (before-at i (seat_of p) less)

    pub have-worked : (answers : List T) → map Some answers ≡ map answer_of after →
        HaveWorked does old (map pass_of after) answers
    have-worked answers told =
        let many : length answers ≡ length old = sym (length-map answers Some) ∙ ap length told
        ∙ length-map after answer_of ∙ long ∙ as_many in
        record {
          as_many = many;
          each = λ i p a lt.
              let s : Seat K V F T = seat_of p in
              let less : i < length before = let n = as_many in omega arith in
              let later : PassView K V F = (slice_index_or after i s).pass in
              let own : T = slice_index_or answers i a in
              let is : (slice_index_or after i s).part ≡ Some own =
              sym (get_or-map answer_of after i s None (omega arith))
              ∙ ap (λ (os : List (Option T)). slice_index_or os i None) (sym told)
              ∙ get_or-map Some answers i a None (omega arith) in
              subst (λ (q : PassView K V F). does q (slice_index_or (map pass_of after) i p) own)
              (before-at i s less)
              (subst (λ (q : PassView K V F). does (slice_index_or before i s).pass q own) (sym (after-at i p lt))
              (subst (λ (o : Option T). IsSomeAnd o (does (slice_index_or before i s).pass later)) is
              (ended i s less).done));
        }
