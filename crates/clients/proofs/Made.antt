-- A map that was opened, and what it was made into.
use Rattle.std.proofs.Common.{◌≡◌, ◌≤◌, ℕ, Result, Ok, Err, IfOk, IfErr, sym, subst, arith}
use Rattle.bin_history.specs.Limits.{most_clients}
use Rattle.bin_history.specs.declared.form.Form.{Form}
use Rattle.bin_history.specs.declared.form.Form.TheVariants.{Recorded, Lean}
use Rattle.chm.specs.Opened.{IsLimited}
use Rattle.chm.specs.Refusals.{AreClients}
use Rattle.chm.specs.declared.fault.Fault.{Fault}
use Rattle.chm.specs.declared.fault.Fault.TheVariants.{NoMemory}
use Rattle.chm.proofs.Limits.{IsLimited-ok, IsLimited-refused}

-- within the limits, out of memory alone can come between
pub IsLimited-made : {T : Type 0} (HasRoom : Type 0) (most n : ℕ) (r : Result T Fault) →
    IfErr r (λ fault. fault ≡ NoMemory) → HasRoom → AreClients most n → IsLimited HasRoom most n r
IsLimited-made HasRoom most n (Ok x) is room clients = IsLimited-ok HasRoom most n x room clients
IsLimited-made HasRoom most n (Err fault) is room clients = IsLimited-refused HasRoom most n (Err fault) is room clients

-- what holds of a thing holds of what is the same
pub IfOk-same : {T E : Type 0} (r : Result T E) (x : T) (P : T → Type 0) → IfOk r (λ y. y ≡ x) → P x → IfOk r P
IfOk-same (Ok y) x P is holds = subst P (sym is) holds
IfOk-same (Err e) x P is holds = tt

-- a map of each form can have as many clients as a team
pub most_clients-team : (form : Form) → 32 ≤ most_clients form
most_clients-team Recorded = omega arith
most_clients-team Lean = omega arith

-- a team has fewer clients than a map can have
pub team-limited : {T : Type 0} (HasRoom : Type 0) (most n m : ℕ) (fault : Fault) → 32 ≤ most →
    (1 ≤ m → (m ≡ n) × (n ≤ 32)) → (n ≤ 32 → m ≡ n) → IsLimited {T = T} HasRoom most m (Err fault) →
    IsLimited {T = T} HasRoom 32 n (Err fault)
team-limited {T} HasRoom most n m fault wide some few limited =
    let are : AreClients 32 n → AreClients most m = λ all. let same = few all.1 in let one = all.0 in let low = all.1 in
    (omega (arith, same, one), omega (arith, same, low, wide)) in
    let are_of : AreClients most m → AreClients 32 n = λ all. let both = some all.0 in let same = both.0 in
    let one = all.0 in (omega (arith, same, one), both.1) in
    record {
      ok = λ is. absurd cc;
      capacity = limited.capacity;
      some = (
        λ is. let both = limited.some.0 is in (both.0, λ all. both.1 (are all)),
        λ both. limited.some.1 (both.0, λ all. both.1 (are_of all)),
      );
      faults = limited.faults;
    }
