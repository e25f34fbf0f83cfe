-- An answer of a type of its own, which stands for the reply.
use Rattle.std.proofs.Common.{◌≡◌, Bool, Option, Result, Ok, Err, sym, ap, subst}
use Rattle.std.specs.Prelude.{IsErrAnd, IsErrOf}
use Rattle.bin_history.specs.declared.call.Call.{Call}
use Rattle.bin_history.specs.declared.call.Reply.{Reply}
use Rattle.count_ledger.specs.Views.{LedgerView, PassView}
use Rattle.chm.specs.Headline.{IsAnsweredAs, IsCalled}
use Rattle.chm.specs.declared.fault.Fault.{Fault}
use Rattle.chm.specs.declared.fault.Fault.TheVariants.{PassFull}

fault_in : {T : Type 0} → Fault → Result T Fault → Fault
fault_in d (Ok x) = d
fault_in d (Err fault) = fault

same_fault : {T U : Type 0} (fault wanted : Fault) → IsErrOf {T = T} (Err fault) wanted →
    IsErrOf {T = U} (Err fault) wanted
unfolding fault_in
same_fault {T} {U} fault wanted is =
    let failed : Fault → Result U Fault = λ f. Err f in
    ap failed (ap (fault_in {T = T} fault) is)

module _ {K V F : Type 0} (same_key : K → K → Bool) (same_value : V → V → Bool) (remapped : F → K → Option V → Option V)
    (merged : F → V → V → Option V) where
  pub stands_for : {S T : Type 0} (reply_of : S → Reply V) (reply_as : T → Reply V) (ledger : LedgerView K V)
      (call : Call K V F) (old new : PassView K V F) (answer : S) (other : T)
      → reply_of answer ≡ reply_as other
      → IsAnsweredAs same_key same_value remapped merged reply_of ledger call old new (Ok answer)
      → IsAnsweredAs same_key same_value remapped merged reply_as ledger call old new (Ok other)
  stands_for reply_of reply_as ledger call old new answer other is answered = record {
    called = subst (IsCalled same_key same_value remapped merged ledger call old new) is answered.called;
    refused = tt;
    full = (λ no. absurd cc, λ all. absurd (let no = answered.full.1 all in cc));
    faults = tt;
  }

  -- the same, where what was answered says the rest
  pub stands_as : {S T : Type 0} {reply_of : S → Reply V} {ledger : LedgerView K V} {call : Call K V F}
      {old new : PassView K V F} {answer : S}
      → IsAnsweredAs same_key same_value remapped merged reply_of ledger call old new (Ok answer)
      → (reply_as : T → Reply V) (other : T) → reply_of answer ≡ reply_as other
      → IsAnsweredAs same_key same_value remapped merged reply_as ledger call old new (Ok other)
  stands_as {S} {T} {reply_of} {ledger} {call} {old} {new} {answer} answered reply_as other is =
      stands_for reply_of reply_as ledger call old new answer other is answered

  -- a call was refused for the same reason, whatever stands for its reply
  pub refused_as : {S T : Type 0} (reply_of : S → Reply V) (reply_as : T → Reply V) (ledger : LedgerView K V)
      (call : Call K V F) (old new : PassView K V F) (result : Result T Fault) (fault : Fault)
      → IsErrAnd result (λ f. f ≡ fault)
      → IsAnsweredAs same_key same_value remapped merged reply_of ledger call old new (Err fault)
      → IsAnsweredAs same_key same_value remapped merged reply_as ledger call old new result
  refused_as reply_of reply_as ledger call old new (Ok answer) fault is answered = absurd is
  refused_as {S} {T} reply_of reply_as ledger call old new (Err f) fault is answered =
      subst (λ (g : Fault). IsAnsweredAs same_key same_value remapped merged {T = T} reply_as ledger call old new (Err g))
      (sym is)
      (record {
        called = tt;
        refused = answered.refused;
        full = (
          λ no. answered.full.0 (same_fault {T = T} {U = S} fault PassFull no),
          λ all. same_fault {T = S} {U = T} fault PassFull (answered.full.1 all),
        );
        faults = answered.faults;
      })
