-- Bins may cross threads.
use denote.RattleType.{RattleType}
use denote.Struct.Declared.{row, shape}
use denote.Param.Send.{IsSend, IsSync, Frees, AllSend, AllSync, sendable}
use denote.Param.SendFields.{declared_send, declared_sync}
use Rattle.std.proofs.CrossingOver.{crosses}
use Rattle.std.proofs.Crossing as owned
use Rattle.std.specs.declared.alloc.Allocator as Allocator
use Rattle.std.specs.declared.clone.Clone as Clone
use Rattle.std.specs.declared.cmp.PartialEq as PartialEq
use Rattle.hashkeys.specs.declared.hashing.HashKey as HashKey
use Rattle.bin_entries.proofs.Shared.{entries_send, entries_sync}
use Rattle.bin_history.specs.declared.call.Remap as Remap
use Rattle.bin_history.specs.contracts.bin.Bin as Bin
use Rattle.bin_history.specs.contracts.bin.Bin.TheInside as BinInside
use Rattle.bin_history.specs.contracts.lean.LeanBin as LeanBin
use Rattle.bin_history.specs.contracts.lean.LeanBin.TheInside as LeanInside
use Rattle.bin_history.specs.contracts.log.Log as Log
use Rattle.bin_history.specs.contracts.log.Log.TheInside as LogInside
use Rattle.bin_history.specs.contracts.record.Record as Record
use Rattle.bin_history.specs.contracts.record.Record.TheInside as RecordInside
use Rattle.bin_history.specs.contracts.recorded.RecordedBin as RecordedBin
use Rattle.bin_history.specs.contracts.recorded.RecordedBin.TheInside as RecordedInside

module _ (K V F A : RattleType) (hash : HashKey.Ghosts K.Denot) (key_same : PartialEq.Ghosts K.Denot)
    (key_clone : Clone.Ghosts K.Denot) (value_clone : Clone.Ghosts V.Denot) (value_same : PartialEq.Ghosts V.Denot)
    (remap : Remap.Ghosts F.Denot K.Denot V.Denot) (function_clone : Clone.Ghosts F.Denot)
    (alloc : Allocator.Ghosts A.Denot)
    (sk : IsSend K) (sv : IsSend V) (sf : IsSend F) (sa : IsSend A) (yk : IsSync K) (yv : IsSync V) (yf : IsSync F)
    (ya : IsSync A)
    (frees : Frees alloc alloc.dealloc_token) where
  lean_inside_send : IsSend (row (LeanInside.the_type K V A hash key_same key_clone alloc))
  lean_inside_send = declared_send (LeanInside.the_type K V A hash key_same key_clone alloc)
      (entries_send K V A hash key_same key_clone alloc sk sv sa frees, (search sendable depth 20, (search sendable depth 20, tt)))

  pub lean_send : IsSend (LeanBin.the_row K V A hash key_same key_clone alloc)
  lean_send = search (sendable, lean_inside_send) depth 20

  record_fields_send : AllSend (shape (RecordInside.the_type K V F)).fields
  record_fields_send = (search sendable depth 20, (search sendable depth 20, (search sendable depth 20, tt)))

  record_send : IsSend (Record.the_row K V F)
  record_send = search (sendable, record_fields_send) depth 20

  log_fields_send : AllSend (shape (LogInside.the_type K V F A alloc)).fields
  log_fields_send = (search (sendable, crosses) depth 20, (search (sendable, crosses, record_send) depth 20, tt))

  log_send : IsSend (Log.the_row K V F A alloc)
  log_send = search (sendable, log_fields_send) depth 20

  recorded_fields_send : AllSend (shape (RecordedInside.the_type K V F A hash key_same key_clone value_clone value_same remap function_clone alloc)).fields
  recorded_fields_send = (
    search (sendable, crosses) depth 20,
    (search sendable depth 20, (search sendable depth 20, (search (sendable, crosses, log_send) depth 20, tt))),
  )

  recorded_send : IsSend (RecordedBin.the_row K V F A hash key_same key_clone value_clone value_same remap function_clone alloc)
  recorded_send = search (sendable, recorded_fields_send) depth 30

  bin_fields_send : AllSend (shape (BinInside.the_type K V F A hash key_same key_clone value_clone value_same remap function_clone alloc)).fields
  bin_fields_send = (search (sendable, crosses, lean_send, recorded_send) depth 30, tt)

  pub bin_send : IsSend (Bin.the_row K V F A hash key_same key_clone value_clone value_same remap function_clone alloc)
  bin_send = search (sendable, bin_fields_send) depth 30

  lean_inside_sync : IsSync (row (LeanInside.the_type K V A hash key_same key_clone alloc))
  lean_inside_sync = declared_sync (LeanInside.the_type K V A hash key_same key_clone alloc) (
    entries_sync K V A hash key_same key_clone alloc sk sv sa frees yk yv ya,
    (search sendable depth 20, (search sendable depth 20, tt)),
  )

  pub lean_sync : IsSync (LeanBin.the_row K V A hash key_same key_clone alloc)
  lean_sync = search (sendable, lean_inside_sync) depth 20

  record_fields_sync : AllSync (shape (RecordInside.the_type K V F)).fields
  record_fields_sync = (search sendable depth 20, (search sendable depth 20, (search sendable depth 20, tt)))

  record_sync : IsSync (Record.the_row K V F)
  record_sync = search (sendable, record_fields_sync) depth 20

  log_fields_sync : AllSync (shape (LogInside.the_type K V F A alloc)).fields
  log_fields_sync = (search (sendable, crosses) depth 20, (search (sendable, crosses, record_sync) depth 20, tt))

  log_sync : IsSync (Log.the_row K V F A alloc)
  log_sync = search (sendable, log_fields_sync) depth 20

  recorded_fields_sync : AllSync (shape (RecordedInside.the_type K V F A hash key_same key_clone value_clone value_same remap function_clone alloc)).fields
  recorded_fields_sync = (
    search (sendable, crosses) depth 20,
    (search sendable depth 20, (search sendable depth 20, (search (sendable, crosses, log_sync) depth 20, tt))),
  )

  recorded_sync : IsSync (RecordedBin.the_row K V F A hash key_same key_clone value_clone value_same remap function_clone alloc)
  recorded_sync = search (sendable, recorded_fields_sync) depth 30

  bin_fields_sync : AllSync (shape (BinInside.the_type K V F A hash key_same key_clone value_clone value_same remap function_clone alloc)).fields
  bin_fields_sync = (search (sendable, crosses, lean_sync, recorded_sync) depth 30, tt)

  pub bin_sync : IsSync (Bin.the_row K V F A hash key_same key_clone value_clone value_same remap function_clone alloc)
  bin_sync = search (sendable, bin_fields_sync) depth 30
