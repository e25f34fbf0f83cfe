-- Maps, from their opening to their close.
use Rattle.std.specs.Prelude.{◌≡◌, ◌≢◌, ◌⊎◌, ◌↔◌, ℕ, ◌<◌, ◌≤◌, ◌^◌, Bool, Option, List, length, Result, Ok, Err}
use Rattle.hashkeys.specs.declared.hashing.Salt.{Salt}
use Rattle.bin_history.specs.Limits.{most_clients}
use Rattle.bin_history.specs.Records.{RecordView}
use Rattle.bin_history.specs.declared.call.Call.{Call}
use Rattle.bin_history.specs.declared.form.Form.TheVariants.{Lean}
use Rattle.count_ledger.specs.Views.{PassView}
use Rattle.chm.specs.Headline.{IsOneOrder, entries_of}
use Rattle.chm.specs.Limits.{most_pairs}
use Rattle.chm.specs.Opened.{IsNew}
use Rattle.chm.specs.Refusals.{AreClients}
use Rattle.chm.specs.Reopened.{IsReopened}
use Rattle.chm.specs.Views.{MapView}
use Rattle.facing_maps.specs.Statuses.{facing_bad_capacity, facing_bad_clients, facing_bin_missing, facing_client_out}
use Rattle.facing_maps.specs.Statuses.{facing_done, facing_no_client, facing_no_memory, facing_wrong_handle}
use Rattle.facing_maps.specs.declared.stage.Stage.{Stage}
use Rattle.facing_maps.specs.declared.stage.Stage.TheVariants as stage

-- it is a new map, whose passes made nothing
abbrev pub IsOpened : {K V F : Type 0} → Salt → ℕ → ℕ → Stage K V F → Type 0
IsOpened {K} {V} {F} salt capacity clients (stage.Map map) =
    (passes : List (PassView K V F)) × IsNew Lean salt capacity clients map passes
IsOpened _ _ _ _ = ⊥

-- it is a client of the map that this is
abbrev pub IsClientOf : {K V F : Type 0} → Stage K V F → Stage K V F → Type 0
IsClientOf (stage.Map map) (stage.Client c) = c.map ≡ map
IsClientOf _ _ = ⊥

-- it was made, or it was refused, and the status is another than facing_done
abbrev pub IsMadeOr : {T : Type 0} → (T → Type 0) → Result T ℕ → Type 0
IsMadeOr IsIt (Ok t) = IsIt t
IsMadeOr IsIt (Err status) = status ≢ facing_done

-- its status
abbrev pub status_in : {T : Type 0} → Result T ℕ → ℕ
status_in (Ok _) = facing_done
status_in (Err status) = status

-- a map opens for 1 to so many clients alone, and where it has room for what it is opened with: the status tells first that
-- it has none, else that these are no clients, and else that it is done, or out of memory
pub record IsMakingStatus (HasRoom : Type 0) (most clients status : ℕ) : Type 0 where
  pub done : status ≡ facing_done → HasRoom × AreClients most clients
  pub capacity : (status ≡ facing_bad_capacity) ↔ (¬ HasRoom)
  pub some : (status ≡ facing_bad_clients) ↔ (HasRoom × (¬ AreClients most clients))
  pub codes : (status ≡ facing_done) ⊎ (status ≡ facing_no_memory) ⊎ (status ≡ facing_bad_capacity) ⊎ (status ≡ facing_bad_clients)

-- of a closed map it is that of a map that opens with its pairs, fewer than 2^32; anything else is a wrong handle
abbrev pub IsReopeningStatus : {K V F : Type 0} → Stage K V F → ℕ → ℕ → Type 0
IsReopeningStatus (stage.Closed q) clients status =
    IsMakingStatus (length (entries_of q.bins) ≤ most_pairs) (most_clients q.ledger.form) clients status
IsReopeningStatus _ _ status = status ≡ facing_wrong_handle

-- of a map it is done, or there is no memory, or no client is free; anything else is a wrong handle
abbrev pub IsClientStatus : {K V F : Type 0} → Stage K V F → ℕ → Type 0
IsClientStatus (stage.Map _) status = (status ≡ facing_done) ⊎ (status ≡ facing_no_memory) ⊎ (status ≡ facing_no_client)
IsClientStatus _ status = status ≡ facing_wrong_handle

-- of a closed map it is done, or there is no memory for one more owner; anything else is a wrong handle
abbrev pub IsAgainStatus : {K V F : Type 0} → Stage K V F → ℕ → Type 0
IsAgainStatus (stage.Closed _) status = (status ≡ facing_done) ⊎ (status ≡ facing_no_memory)
IsAgainStatus _ status = status ≡ facing_wrong_handle

-- of a closed map it is the number of keys, and of another some number; what ended has none
abbrev pub IsCounted : {K V F : Type 0} → Stage K V F → Result ℕ ℕ → Type 0
IsCounted (stage.Closed q) (Ok n) = n ≡ length (entries_of q.bins)
IsCounted (stage.Closed q) (Err _) = ⊥
IsCounted stage.Gone counted = counted ≡ Err facing_wrong_handle
IsCounted _ (Ok n) = n < 2 ^ 63
IsCounted _ (Err _) = ⊥

module _ {K V F : Type 0} (same_key : K → K → Bool) (code : K → ℕ) where
  -- it is a new map with the pairs of the closed one that this was
  abbrev pub IsReopenedFrom : Stage K V F → ℕ → Stage K V F → Type 0
  IsReopenedFrom (stage.Closed q) clients (stage.Map map) =
      (passes : List (PassView K V F)) × IsReopened same_key code q q.ledger.salt clients map passes
  IsReopenedFrom _ _ _ = ⊥

  module _ (after : Call K V F → Option V → Option V) where
    -- a map closes, with its books, and there is one order of all calls; or it is as it was, shared still, as there was
    -- no memory or a client is out; or shared no more, as there was no memory; or it ended, for bins were missing
    abbrev pub IsCloseOf : MapView K V → Stage K V F → ℕ → Type 0
    IsCloseOf map (stage.Closed q) status = (status ≡ facing_done) × (q.ledger ≡ map.ledger) × (q.n ≡ map.n)
        × (calls : List (RecordView K V F)) × IsOneOrder same_key code after q calls
    IsCloseOf map (stage.Map same) status = (same ≡ map) × ((status ≡ facing_no_memory) ⊎ (status ≡ facing_client_out))
    IsCloseOf map (stage.CloseFailed unshared) status = (unshared.map ≡ map) × (status ≡ facing_no_memory)
    IsCloseOf map stage.Gone status = status ≡ facing_bin_missing
    IsCloseOf map (stage.Client c) status = ⊥

    -- what a map is after it was to be closed; anything else is as it was, and a wrong handle
    abbrev pub IsClosedAs : Stage K V F → Stage K V F → ℕ → Type 0
    IsClosedAs (stage.Map map) then status = IsCloseOf map then status
    IsClosedAs (stage.CloseFailed unshared) then status = IsCloseOf unshared.map then status
    IsClosedAs other then status = (then ≡ other) × (status ≡ facing_wrong_handle)
