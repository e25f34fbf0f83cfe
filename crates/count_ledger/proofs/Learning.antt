-- Passes of a list learn one after the other.
use Rattle.std.proofs.Common.{◌≡◌, Bool, Option, ℕ, ◌+◌, ◌<◌, List, [], ◌∷◌, ◌++◌, length, get_or, take, drop, set, All}
use Rattle.std.proofs.Common.{sym, ap, subst, ◌∙◌, arith, add-zero, length-drop}
use Rattle.std.proofs.lemmas.List.{take_more, take_more_set, drop-drop, drop-set-lt, get_or-drop}
use Rattle.std.proofs.lemmas.List.Elements.{All-cons, All-head, All-more, All-push, All-tail, All-weaker, AllZip-push}
use Rattle.std.specs.List.{AllZip}
use Rattle.bin_history.specs.Clients.{by_client}
use Rattle.bin_history.specs.Records.{RecordView}
use Rattle.bin_history.specs.declared.call.Call.{Call}
use Rattle.count_ledger.specs.Fronts.{BeginsWith, HasSeen}
use Rattle.count_ledger.specs.Views.{LedgerId, LedgerView, PassView}
use Rattle.count_ledger.proofs.Fronts.{BeginsWith-more}

module _ {K V F : Type 0} (same : K → K → Bool) (after : Call K V F → Option V → Option V) (ledger : LedgerView K V) where
  HasSeen-then : (p q r : PassView K V F) → HasSeen same after ledger p q → HasSeen same after ledger q r
      → HasSeen same after ledger p r
  HasSeen-then p q r first second = record {
    front = record {
      client = first.front.client;
      seen = BeginsWith-more r.seen q.seen p.seen second.front.seen first.front.seen;
      own = ap (λ (x : PassView K V F). by_client x.client r.seen) (sym first.pass) ∙ second.front.own
          ∙ ap (λ (x : PassView K V F). x.made) first.pass;
      legal = second.front.legal;
      clients = second.front.clients;
    };
    pass = second.pass ∙ ap (λ (x : PassView K V F). record x { seen = r.seen }) first.pass;
  }

  pub seen_then : (ps qs rs : List (PassView K V F)) → AllZip (HasSeen same after ledger) ps qs
      → AllZip (HasSeen same after ledger) qs rs → AllZip (HasSeen same after ledger) ps rs
  seen_then [] [] [] a b = tt
  seen_then [] [] (r ∷ rs) a b = absurd b
  seen_then [] (q ∷ qs) rs a b = absurd a
  seen_then (p ∷ ps) [] rs a b = absurd a
  seen_then (p ∷ ps) (q ∷ qs) [] a b = absurd b
  seen_then (p ∷ ps) (q ∷ qs) (r ∷ rs) a b = (HasSeen-then p q r a.0 b.0, seen_then ps qs rs a.1 b.1)

  -- passes stay of their ledger
  pub ledgers_seen : (id : LedgerId) (ps qs : List (PassView K V F)) → AllZip (HasSeen same after ledger) ps qs
      → All (λ p. p.ledger ≡ id) ps → All (λ p. p.ledger ≡ id) qs
  ledgers_seen id [] [] a own = own
  ledgers_seen id [] (q ∷ qs) a own = absurd a
  ledgers_seen id (p ∷ ps) [] a own = absurd a
  ledgers_seen id (p ∷ ps) (q ∷ qs) a own =
      let P : PassView K V F → Type 0 = λ p. p.ledger ≡ id in
      All-cons P q qs (ap (λ (x : PassView K V F). x.ledger) a.0.pass ∙ All-head P p ps own)
      (ledgers_seen id ps qs a.1 (All-tail P p ps own))

module _ {X : Type 0} (olds now : List X) (i : ℕ) (d : X) (low : i < length now) (rest : drop i now ≡ drop i olds) where
  -- the next one is as it was at first
  pub next_low : i < length olds
  next_low =
      let a = length-drop i now in
      let b = length-drop i olds in
      let e = ap length rest in
      omega arith

  pub next_is : get_or now i d ≡ get_or olds i d
  next_is = sym (at now) ∙ ap (λ (l : List X). get_or l 0 d) rest ∙ at olds where
    at : (l : List X) → get_or (drop i l) 0 d ≡ get_or l i d
    at l = get_or-drop i l 0 d ∙ ap (λ (k : ℕ). get_or l k d) (add-zero i)

  pub rest_more : (q : X) → drop (i + 1) (set now i q) ≡ drop (i + 1) olds
  rest_more q = drop-set-lt (i + 1) now i q (omega arith)
      ∙ sym (drop-drop 1 i now) ∙ ap (drop 1) rest ∙ drop-drop 1 i olds

  pub zipped_more : (R : X → X → Type 0) (q : X) → AllZip R (take i olds) (take i now) → R (get_or olds i d) q
      → AllZip R (take (i + 1) olds) (take (i + 1) (set now i q))
  zipped_more R q zip one =
      subst (λ (l : List X). AllZip R l (take (i + 1) (set now i q))) (sym (take_more olds i d next_low))
      (subst (AllZip R (take i olds ++ get_or olds i d ∷ [])) (sym (take_more_set now i q low))
      (AllZip-push R (take i olds) (take i now) (get_or olds i d) q zip one))

module _ {K V F : Type 0} (olds now : List (PassView K V F)) (i : ℕ) (d q : PassView K V F) (low : i < length now)
    (rest : drop i now ≡ drop i olds) where
  -- what was seen before the next one learned has been seen then, and what that one had seen
  pub all_more : (old new : List (RecordView K V F)) → BeginsWith new old
      → BeginsWith new (get_or now i d).seen
      → All (λ p. BeginsWith old p.seen) (take i olds) → All (λ p. BeginsWith new p.seen) (take (i + 1) olds)
  all_more old new more own all =
      All-more (λ (p : PassView K V F). BeginsWith new p.seen) olds i d (next_low olds now i d low rest)
      (All-weaker (λ (p : PassView K V F). BeginsWith old p.seen) (λ p. BeginsWith new p.seen)
      (λ p had. BeginsWith-more new old p.seen more had) (take i olds) all)
      (subst (λ (p : PassView K V F). BeginsWith new p.seen) (next_is olds now i d low rest) own)

  pub learned_more : (moment : List (RecordView K V F)) → BeginsWith q.seen moment
      → All (λ p. BeginsWith p.seen moment) (take i now) → All (λ p. BeginsWith p.seen moment) (take (i + 1) (set now i q))
  learned_more moment own all =
      subst (All (λ p. BeginsWith p.seen moment)) (sym (take_more_set now i q low))
      (All-push (λ p. BeginsWith p.seen moment) (take i now) q all own)
