use Rattle.std.proofs.Common.{◌≡◌, ℕ, ◌⊎◌, inl, inr, List, [], Option, None, Some, IfErr, Result, IsErrOf, refl, sym}
use Rattle.std.proofs.Common.{subst, rules}
use Rattle.mapcli_core.specs.Runs.{IsRefusalOf, OfInput}
use Rattle.mapcli_core.specs.declared.fault.Fault.{Fault}
use Rattle.mapcli_core.specs.declared.fault.Fault.TheVariants.{NoMemory, Device}
use Rattle.mapcli_core.proofs.running.run.Goals as goal

abbrev IsExplained : Option (List ℕ) → Result Unit Fault → Type 0
IsExplained remaining r = IfErr r (λ fault. (fault ≡ Device) ⊎ OfInput remaining (λ text. IsRefusalOf text fault))

-- memory may run out whatever the text is
no_memory : (remaining : Option (List ℕ)) (r : Result Unit Fault) → IsErrOf r NoMemory → IsExplained remaining r
no_memory None r e = subst (IsExplained None) (sym e) (inr ([], tt, inl tt))
no_memory (Some bytes) r e = subst (IsExplained (Some bytes)) (sym e) (inr (bytes, refl, inl tt))

no_device : (remaining : Option (List ℕ)) (r : Result Unit Fault) → IsErrOf r Device → IsExplained remaining r
no_device remaining r e = subst (IsExplained remaining) (sym e) (inl refl)

pub returns-in_err-clone-clause-fault : goal.returns-in_err-clone-clause-fault
returns-in_err-clone-clause-fault g c = no_memory _ _ (search rules)

pub returns-in_err-text-clause-fault : goal.returns-in_err-text-clause-fault
returns-in_err-text-clause-fault g c = elim c.in_err-text.ensures.faults [
  | inl e ↦ no_device _ _ (search rules)
  | inr e ↦ no_memory _ _ (search rules)
]
