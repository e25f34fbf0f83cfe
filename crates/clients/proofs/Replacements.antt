-- Values that are changed one after the other.
use Rattle.std.proofs.Common.{◌≡◌, ℕ, ◌+◌, ◌<◌, ◌≤◌, ◌↔◌, Bool, Option, Some, None, List, [], ◌∷◌, ◌++◌}
use Rattle.std.proofs.Common.{Ok, Err, IsErrOf, IsSomeAnd}
use Rattle.std.proofs.Common.{refl, ap, rules, subst, arith}
use Rattle.std.specs.Borrow.{Bor}
use Rattle.hashkeys.specs.Classes.{ClassView}
use Rattle.bin_history.specs.declared.form.Form.{Form}
use Rattle.count_ledger.specs.Limits.{most_calls}
use Rattle.count_ledger.specs.Views.{LedgerView, PassView}
use Rattle.count_ledger.proofs.Posted.{most_calls_le}
use Rattle.part_walks.specs.Parts.{HasComeTo}
use Rattle.chm.specs.Updates.{IsUpdated}
use Rattle.chm.specs.Visits.{VisitView, classes_of_visits}
use Rattle.chm.specs.declared.calls.update.Change.{Change}
use Rattle.chm.specs.declared.calls.update.Change.TheVariants.{Keep, Set}
use Rattle.chm.specs.declared.fault.Fault.{Fault}
use Rattle.chm.specs.declared.fault.Fault.TheVariants.{PassFull}
use Rattle.clients.specs.Replaced.{AreReplaced, AreReplacedIn, HasStopped, IsCounted, IsReplacedAt, IsStopped, IsVisited}
use Rattle.clients.specs.Replaced.{Replaces}

-- nothing is set where what stays is kept
pub sets-none : {V : Type 0} (value : V) → Set value ≡ Keep → ⊥
sets-none value e = search (rules, e)

module _ {G K V F : Type 0} (step : G → Bor K → Bor V → V → G → Type 0) (same_key : K → K → Bool)
    (same_value : V → V → Bool) (remapped : F → K → Option V → Option V) (merged : F → V → V → Option V)
    (ledger : LedgerView K V) where
  -- the call for the change that the closure returned
  pub updated-so : (key : K) (p q : G × ℕ) (old new : PassView K V F) (r : G × Bool)
      (answered : Option V → Change V → Type 0)
      → IsUpdated same_key same_value remapped merged answered ledger key old new → IsCounted p r q
      → ((before : Option V) (change : Change V) → answered before change → Replaces step key p.0 before change r)
      → IsReplacedAt step same_key same_value remapped merged ledger key p old q new
  updated-so key p q old new r answered (front, record_, change, reply, is_front, made, found, told) counted each =
      (front, record_, change, reply, is_front, made, found, (r, each record_.before change told, counted))

  pub AreReplaced-push : (es : List (K × V)) (e : K × V) (p j q : G × ℕ) (old mid new : PassView K V F)
      → AreReplaced step same_key same_value remapped merged ledger es p old j mid
      → IsReplacedAt step same_key same_value remapped merged ledger e.0 j mid q new
      → AreReplaced step same_key same_value remapped merged ledger (es ++ e ∷ []) p old q new
  AreReplaced-push [] e p j q old mid new (same, as_was) at = (
    q,
    new,
    subst (λ (i : G × ℕ). IsReplacedAt step same_key same_value remapped merged ledger e.0 i old q new) same
        (subst (λ (w : PassView K V F). IsReplacedAt step same_key same_value remapped merged ledger e.0 j w q new) as_was
        at),
    (refl, refl),
  )
  AreReplaced-push (x ∷ es) e p j q old mid new (i, w, first, others) at =
      (i, w, first, AreReplaced-push es e i j q w mid new others at)

  module _ (code : K → ℕ) where
    pub AreReplacedIn-push : (vs : List (VisitView K V)) (v : VisitView K V) (p j q : G × ℕ)
        (old mid seen new : PassView K V F)
        → AreReplacedIn step same_key code same_value remapped merged ledger vs p old j mid
        → IsVisited same_key code same_value remapped merged ledger v mid seen
        → AreReplaced step same_key same_value remapped merged ledger v.entries j seen q new
        → AreReplacedIn step same_key code same_value remapped merged ledger (vs ++ v ∷ []) p old q new
    AreReplacedIn-push [] v p j q old mid seen new (same, as_was) visited are = (
      seen,
      q,
      new,
      subst (λ (w : PassView K V F). IsVisited same_key code same_value remapped merged ledger v w seen) as_was visited,
      subst (λ (i : G × ℕ). AreReplaced step same_key same_value remapped merged ledger v.entries i seen q new) same are,
      (refl, refl),
    )
    AreReplacedIn-push (x ∷ vs) v p j q old mid seen new (s, i, w, first, its, others) visited are =
        (s, i, w, first, its, AreReplacedIn-push vs v i j q w mid seen new others visited are)

    -- it stopped where a walk had come to
    pub stopped-at : (fault : Fault) (f : G) (old : PassView K V F) (count n : ℕ) (next : Option ClassView)
        (vs : List (VisitView K V)) (j : G × ℕ) (mid new : PassView K V F) → HasComeTo n next (classes_of_visits vs)
        → AreReplacedIn step same_key code same_value remapped merged ledger vs (f, 0) old j mid
        → IsSomeAnd next (λ c. HasStopped step same_key code same_value remapped merged ledger fault c j mid count new)
        → IsStopped step same_key code same_value remapped merged ledger fault f old count new
    stopped-at fault f old count n (Some c) vs j mid new come are stopped = (n, c, vs, j, mid, come, are, stopped)
    stopped-at fault f old count n None vs j mid new come are stopped = absurd stopped

-- what is next, of a walk that is not at its end
pub next-of : {X : Type 0} {P : X → Type 0} (next : Option X) → (next ≡ None → ⊥) → ((x : X) → P x) → IsSomeAnd next P
next-of (Some x) goes_on each = each x
next-of None goes_on each = absurd (goes_on refl)

-- the same of what is next
pub next-with : {X : Type 0} {P Q : X → Type 0} (next : Option X) → IsSomeAnd next P → ((x : X) → P x → Q x)
    → IsSomeAnd next Q
next-with (Some x) p each = each x p
next-with None p each = absurd p

-- a refusal of a full pass, and no other
pub full-of : {T : Type 0} (fault : Fault) (P : Type 0) → IsErrOf {T = T} (Err fault) PassFull ↔ P → (fault ≡ PassFull) ↔ P
full-of fault P iff = (λ full. iff.0 (ap Err full), λ p. (let e = iff.1 p in search (rules, e)))

-- one more than a count of calls fits
pub count-fits : (form : Form) (clients count made : ℕ) → count ≤ made → (most_calls form clients ≤ made → ⊥)
    → count + 1 < 18446744073709551616
count-fits form clients count made le within =
    let most = most_calls_le form clients in omega (arith, le, within, most)

-- a call that was made was not refused
pub made-within : {T : Type 0} (x : T) (fault : Fault) (P : Type 0) → IsErrOf {T = T} (Ok x) fault ↔ P → P → ⊥
made-within x fault P iff p = (let e = iff.1 p in search (rules, e))
