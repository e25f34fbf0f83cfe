-- A map that was opened, or refused for want of memory, was within its limits.
use Rattle.std.proofs.Common.{◌≡◌, ◌≤◌, ℕ, Result, Ok, Err, inl, refl, sym, ap, subst, arith}
use Rattle.std.specs.Prelude.{IsErrAnd, IsErrOf}
use Rattle.bin_history.specs.Limits.{most_clients}
use Rattle.bin_history.specs.declared.form.Form.{Form}
use Rattle.bin_history.specs.declared.form.Form.TheVariants.{Recorded, Lean}
use Rattle.chm.specs.Opened.{IsLimited}
use Rattle.chm.specs.Refusals.{AreClients}
use Rattle.chm.specs.declared.fault.Fault.{Fault}
use Rattle.chm.specs.declared.fault.Fault.TheVariants.{NoMemory, BadCapacity, BadClients}

pub IsLimited-ok : {T : Type 0} (HasRoom : Type 0) (most n : ℕ) (x : T) → HasRoom → AreClients most n →
    IsLimited {T = T} HasRoom most n (Ok x)
IsLimited-ok HasRoom most n x room clients = record {
  ok = λ is. (room, clients);
  capacity = (λ is. absurd cc, λ none. absurd (none room));
  some = (λ is. absurd cc, λ both. absurd (both.1 clients));
  faults = tt;
}

pub IsLimited-refused : {T : Type 0} (HasRoom : Type 0) (most n : ℕ) (r : Result T Fault) →
    IsErrAnd r (λ fault. fault ≡ NoMemory) → HasRoom → AreClients most n
    → IsLimited HasRoom most n r
IsLimited-refused HasRoom most n (Ok x) refused room clients = absurd refused
IsLimited-refused {T} HasRoom most n (Err fault) is room clients =
    subst (λ (f : Fault). IsLimited {T = T} HasRoom most n (Err f)) (sym is)
    (record {
      ok = λ is. (room, clients);
      capacity = (λ is. absurd cc, λ none. absurd (none room));
      some = (λ is. absurd cc, λ both. absurd (both.1 clients));
      faults = inl refl;
    })

fault_in : {T : Type 0} → Fault → Result T Fault → Fault
fault_in d (Ok x) = d
fault_in d (Err fault) = fault

same_fault : {T U : Type 0} (fault wanted : Fault) → IsErrOf {T = T} (Err fault) wanted →
    IsErrOf {T = U} (Err fault) wanted
unfolding fault_in
same_fault {T} {U} fault wanted is =
    let failed : Fault → Result U Fault = λ f. Err f in
    ap failed (ap (fault_in {T = T} fault) is)

-- whatever was to be opened, it was refused for the same reason
pub IsLimited-same : {T U : Type 0} (HasRoom : Type 0) (most n : ℕ) (fault : Fault) →
    IsLimited {T = T} HasRoom most n (Err fault) → IsLimited {T = U} HasRoom most n (Err fault)
IsLimited-same {T} {U} HasRoom most n fault limited = record {
  ok = λ is. absurd cc;
  capacity = (
    λ is. limited.capacity.0 (same_fault {T = U} {U = T} fault BadCapacity is),
    λ none. same_fault {T = T} {U = U} fault BadCapacity (limited.capacity.1 none),
  );
  some = (
    λ is. limited.some.0 (same_fault {T = U} {U = T} fault BadClients is),
    λ both. same_fault {T = T} {U = U} fault BadClients (limited.some.1 both),
  );
  faults = limited.faults;
}

-- there are at most so many clients, whatever the form
pub most_clients_le : (form : Form) → most_clients form ≤ 65536
most_clients_le Recorded = omega arith
most_clients_le Lean = omega arith
