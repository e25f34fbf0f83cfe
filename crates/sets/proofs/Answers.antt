-- An answer of another type, which stands for the same reply.
use Rattle.std.proofs.Common.{◌≡◌, Bool, Option, Ok, subst}
use Rattle.bin_history.specs.declared.call.Call.{Call}
use Rattle.bin_history.specs.declared.call.Reply.{Reply}
use Rattle.count_ledger.specs.Views.{LedgerView, PassView}
use Rattle.chm.specs.Headline.{IsAnsweredAs, IsCalled}

module _ {K V F : Type 0} (same_key : K → K → Bool) (same_value : V → V → Bool) (remapped : F → K → Option V → Option V)
    (merged : F → V → V → Option V) where
  pub stands_for : {S T : Type 0} (reply_of : S → Reply V) (reply_as : T → Reply V) (ledger : LedgerView K V)
      (call : Call K V F) (old new : PassView K V F) (answer : S) (other : T)
      → reply_of answer ≡ reply_as other
      → IsAnsweredAs same_key same_value remapped merged reply_of ledger call old new (Ok answer)
      → IsAnsweredAs same_key same_value remapped merged reply_as ledger call old new (Ok other)
  stands_for reply_of reply_as ledger call old new answer other is answered = record {
    called = subst (IsCalled same_key same_value remapped merged ledger call old new) is answered.called;
    refused = tt;
    full = (λ no. absurd cc, λ all. absurd (let no = answered.full.1 all in cc));
    faults = tt;
  }
