-- Puts of many pairs, one more at a time.
use Rattle.std.proofs.Common.{Bool, Option, List, [], ◌∷◌, ◌++◌, Result, Ok, Err, MatchResult, IsErrAnd, refl, subst}
use Rattle.bin_history.specs.declared.call.Call.TheVariants.{Put}
use Rattle.bin_history.specs.declared.call.Reply.{Reply}
use Rattle.count_ledger.specs.Views.{LedgerView, PassView}
use Rattle.chm.specs.Headline.{IsCalled}
use Rattle.clients.specs.Filled.{ArePut}

-- what holds where it failed, of a result that is an error
pub fails-of : {T E : Type 0} (P Q : Type 0) (R : E → Type 0) (result : Result T E) → IsErrAnd result R → Q
    → MatchResult result (λ _. P) (λ _. Q)
fails-of P Q R (Ok _) is q = absurd is
fails-of P Q R (Err _) is q = q

module _ {K V F : Type 0} (same_key : K → K → Bool) (same_value : V → V → Bool) (remapped : F → K → Option V → Option V)
    (merged : F → V → V → Option V) (ledger : LedgerView K V) where
  -- others, and then a put
  pub ArePut-push : (es : List (K × V)) (e : K × V) (old mid new : PassView K V F) (reply : Reply V)
      → ArePut same_key same_value remapped merged ledger es old mid
      → IsCalled same_key same_value remapped merged ledger (Put e.0 e.1) mid new reply
      → ArePut same_key same_value remapped merged ledger (es ++ e ∷ []) old new
  ArePut-push [] e old mid new reply same called = (
    new,
    reply,
    subst (λ (p : PassView K V F). IsCalled same_key same_value remapped merged ledger (Put e.0 e.1) p new reply) same called,
    refl,
  )
  ArePut-push (x ∷ es) e old mid new reply (w, its, first, others) called =
      (w, its, first, ArePut-push es e w mid new reply others called)
