-- An update by a function of whose answers less is known.
use Rattle.std.proofs.Common.{Bool, Option, None, Some, Result, Ok, Err}
use Rattle.std.specs.Prelude.{IfSome}
use Rattle.std.specs.Borrow.{Bor}
use Rattle.count_ledger.specs.Views.{LedgerView, PassView}
use Rattle.chm.specs.Updates.{IsUpdate}
use Rattle.chm.specs.declared.calls.update.Change.{Change}
use Rattle.chm.specs.declared.calls.update.Change.TheVariants.{Set}
use Rattle.chm.specs.declared.fault.Fault.{Fault}

pub some-by : {A : Type 0} {P Q : A → Type 0} → ((a : A) → P a → Q a) → (o : Option A) → IfSome o P → IfSome o Q
some-by into None p = p
some-by into (Some a) p = into a p

module _ {K V F T : Type 0} (same_key : K → K → Bool) (same_value : V → V → Bool)
    (remapped : F → K → Option V → Option V) (merged : F → V → V → Option V)
    (post then : Option (Bor V) → Change V × T → Type 0)
    (into : (shown : Option (Bor V)) (made : Change V × T) → post shown made → then shown made)
    (ledger : LedgerView K V) (key : K) (old new : PassView K V F) where
  pub update-by : (result : Result T Fault) → IsUpdate same_key same_value remapped merged post ledger key old new result
      → IsUpdate same_key same_value remapped merged then ledger key old new result
  update-by (Ok answer) u =
      let (front, r, change, reply, is_front, made, before, (shown, same, holds)) = u.updated in
      record {
        updated = (front, r, change, reply, is_front, made, before, (shown, same, into shown (change, answer) holds));
        refused = u.refused;
        full = u.full;
        faults = u.faults;
        sets = λ lean no. let (value, other, (shown', same', holds')) = u.sets lean no in
            (value, other, (shown', same', into shown' (Set value, other) holds'));
      }
  update-by (Err fault) u = record {
    updated = u.updated;
    refused = u.refused;
    full = u.full;
    faults = u.faults;
    sets = λ lean no. let (value, other, (shown', same', holds')) = u.sets lean no in
        (value, other, (shown', same', into shown' (Set value, other) holds'));
  }
