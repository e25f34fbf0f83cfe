-- A map that is opened, or why it is not.
use Rattle.std.specs.Prelude.{◌≡◌, ◌↔◌, ℕ, List, [], All, Result, IsOk, IfErr, IsErrOf}
use Rattle.hashkeys.specs.declared.hashing.Salt.{Salt}
use Rattle.bin_history.specs.declared.form.Form.{Form}
use Rattle.count_ledger.specs.Opening.{new_passes}
use Rattle.count_ledger.specs.Views.{PassView}
use Rattle.chm.specs.Refusals.{AreClients, IsMaking}
use Rattle.chm.specs.Sizes.{IsSizeFor}
use Rattle.chm.specs.Views.{MapView}
use Rattle.chm.specs.declared.fault.Fault.{Fault}
use Rattle.chm.specs.declared.fault.Fault.TheVariants.{BadCapacity, BadClients}

-- a map without entries, of this form and salt, whose table is for the capacity, with a pass that made nothing for each
-- of its n clients
pub record IsNew {K V F : Type 0} (f : Form) (s : Salt) (capacity n : ℕ) (map : MapView K V)
    (all : List (PassView K V F)) : Type 0 where
  pub form : map.ledger.form ≡ f
  pub salt : map.ledger.salt ≡ s
  pub clients : map.ledger.clients ≡ n
  pub opening : map.ledger.opening ≡ []
  pub size : IsSizeFor capacity map.n
  pub passes : all ≡ new_passes map.ledger.id n
  pub own : All (λ p. p.ledger ≡ map.ledger.id) all

-- a map is opened for 1 to so many clients alone, and where it has room for what it is opened with.
-- Which of both was not so is told, room first; else the making fails out of memory alone
pub record IsLimited {T : Type 0} (HasRoom : Type 0) (most clients : ℕ) (result : Result T Fault) : Type 0 where
  pub ok : IsOk result → HasRoom × AreClients most clients
  pub capacity : IsErrOf result BadCapacity ↔ (¬ HasRoom)
  pub some : IsErrOf result BadClients ↔ (HasRoom × (¬ AreClients most clients))
  pub faults : IfErr result IsMaking
