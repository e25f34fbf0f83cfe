-- A cache that was opened.
use Rattle.std.proofs.Common.{◌≡◌, ℕ, Result, Ok, Err, IfErr, IfOk, subst, sym}
use Rattle.chm.proofs.Limits.{IsLimited-ok, IsLimited-refused}
use Rattle.chm.specs.Opened.{IsLimited}
use Rattle.chm.specs.Refusals.{AreClients}
use Rattle.chm.specs.declared.fault.Fault.{Fault}
use Rattle.chm.specs.declared.fault.Fault.TheVariants.{NoMemory}

-- what is so of the map is so of what has it
pub IfOk-part : {T X E : Type 0} (part : T → X) (r : Result T E) (x : X) (P : X → Type 0) → IfOk r (λ t. part t ≡ x) → P x
    → IfOk r (λ t. P (part t))
IfOk-part part (Ok t) x P is p = subst P (sym is) p
IfOk-part part (Err e) x P is p = tt

-- within the limits, out of memory alone can come between
pub IsLimited-made : {T : Type 0} (HasRoom : Type 0) (most n : ℕ) (r : Result T Fault)
    → IfErr r (λ fault. fault ≡ NoMemory) → HasRoom → AreClients most n → IsLimited HasRoom most n r
IsLimited-made HasRoom most n (Ok x) is room clients = IsLimited-ok HasRoom most n x room clients
IsLimited-made HasRoom most n (Err fault) is room clients = IsLimited-refused HasRoom most n (Err fault) is room clients
