-- A client that has made all the calls that it may.
use Rattle.std.proofs.Common.{◌≡◌, Result, Ok, Err, IsErrOf, refl, rules, sym, subst, ap, ◌∙◌}
use Rattle.std.specs.Prelude.{IsErrAnd}
use Rattle.std.proofs.lemmas.Result.{IfErr-at_err}
use Rattle.caches.specs.Caches.{HasMadeAll}
use Rattle.caches.specs.declared.entry.CacheEntry.{CacheEntry}
use Rattle.chm.specs.Views.{MapView}
use Rattle.chm.specs.declared.fault.Fault.{Fault}
use Rattle.chm.specs.declared.fault.Fault.TheVariants.{NoMemory, PassFull}
use Rattle.count_ledger.specs.Views.{PassView}
use Rattle.functions.specs.declared.nothing.NoFunction.{NoFunction}

pub memory≢full : NoMemory ≡ PassFull → ⊥
memory≢full is = search (rules, is)

-- the fault of an error
pub fault_of : {T : Type 0} (fault wanted : Fault) → IsErrOf {T = T} (Err fault) wanted → fault ≡ wanted
fault_of fault wanted is = IfErr-at_err (λ (f : Fault). fault ≡ f) is refl

pub ok_fails : {T : Type 0} (x : T) (wanted : Fault) → IsErrOf (Ok x) wanted → ⊥
ok_fails x wanted is = IfErr-at_err (λ (_ : Fault). ⊥) is tt

-- what a `?` returns, by what it had
pub fails_by : {T U : Type 0} (result : Result T Fault) (fault wanted : Fault) → IsErrAnd result (λ f. f ≡ fault)
    → IsErrOf result wanted → IsErrOf {T = U} (Err fault) wanted
fails_by (Ok x) fault wanted is fails = absurd is
fails_by {T} {U} (Err f) fault wanted is fails = ap Err (sym is ∙ fault_of {T = T} f wanted fails)

pub fails_as : {T U : Type 0} (result : Result T Fault) (fault wanted : Fault) → IsErrAnd result (λ f. f ≡ fault)
    → IsErrOf {T = U} (Err fault) wanted → IsErrOf result wanted
fails_as (Ok x) fault wanted is fails = absurd is
fails_as {T} {U} (Err f) fault wanted is fails = ap Err (is ∙ fault_of {T = U} fault wanted fails)

-- out of memory is no full pass
pub short_is_not_full : {T : Type 0} (result : Result T Fault) (fault : Fault) → IsErrAnd result (λ f. f ≡ fault)
    → fault ≡ NoMemory → IsErrOf result PassFull → ⊥
short_is_not_full (Ok x) fault is short fails = absurd is
short_is_not_full {T} (Err f) fault is short fails = memory≢full (sym short ∙ sym is ∙ fault_of {T = T} f PassFull fails)

-- the map and the pass are as they were
pub made_all_still : {K V : Type 0} (m n : MapView K (CacheEntry V)) (p q : PassView K (CacheEntry V) NoFunction) → n ≡ m → q ≡ p
    → HasMadeAll m.ledger p → HasMadeAll n.ledger q
made_all_still m n p q map pass all = subst (λ (x : MapView _ (CacheEntry _)). HasMadeAll x.ledger q) (sym map)
    (subst (λ (x : PassView _ (CacheEntry _) NoFunction). HasMadeAll m.ledger x) (sym pass) all)
