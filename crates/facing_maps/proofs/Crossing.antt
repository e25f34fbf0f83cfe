-- What a handle stands for may go to another thread.
use denote.RattleType.{RattleType}
use denote.Enum.Declared as enum
use denote.Struct.Declared.{shape}
use denote.Param.Send.{IsSend, IsSync, Frees, AllSend, AllSync, EachSend, EachSync, sendable}
use Rattle.core.proofs.snapshot.Sent.{snapshot_sync}
use Rattle.std.proofs.CrossingOver.{crosses}
use Rattle.std.proofs.Crossing as heap
use Rattle.std.specs.declared.alloc.Allocator as Allocator
use Rattle.std.specs.declared.clone.Clone as Clone
use Rattle.std.specs.declared.cmp.Eq as Eq
use Rattle.std.specs.declared.cmp.PartialEq as PartialEq
use Rattle.std_heap.specs.contracts.Global as Heap
use Rattle.std_heap.specs.contracts.GlobalAllocator.TheImpl.{ghosts}
use Rattle.hashkeys.specs.declared.exact.Exact as Exact
use Rattle.hashkeys.specs.declared.hashing.HashKey as HashKey
use Rattle.seeded_keys.proofs.Crossing.{short_send, short_sync, padded_send, padded_sync, hashed_send, hashed_sync}
use Rattle.seeded_keys.specs.contracts.hashed.Hashed as Hashed
use Rattle.bin_history.specs.declared.call.Remap as Remap
use Rattle.bin_history.specs.declared.call.Value as Value
use Rattle.bin_history.proofs.Shared.{bin_send, bin_sync}
use Rattle.chm.specs.contracts.closed.quiet.Quiet as Quiet
use Rattle.chm.specs.contracts.closed.quiet.Quiet.TheInside as QuietInside
use Rattle.clients.proofs.Crossing.{owned_send, shared_send, unshared_send}
use Rattle.facing_maps.specs.contracts.closed.ClosedMap as ClosedMap
use Rattle.facing_maps.specs.contracts.closed.ClosedMap.TheInside as ClosedInside
use Rattle.facing_maps.specs.contracts.closed.Owner as Owner
use Rattle.facing_maps.specs.contracts.keys.Keys as Keys
use Rattle.facing_maps.specs.contracts.keys.Keys.TheInside as KeysInside
use Rattle.facing_maps.specs.contracts.shared.Place as Place
use Rattle.facing_maps.specs.contracts.shared.SharedBytes as SharedBytes
use Rattle.facing_maps.specs.contracts.shared.SharedBytes.TheInside as SharedInside
use Rattle.facing_maps.specs.contracts.stage.Stage as Stage

module _ (K V F A : RattleType) (hash : HashKey.Ghosts K.Denot) (key_eq : Eq.Ghosts K.Denot)
    (key_same : PartialEq.Ghosts K.Denot)
    (key_exact : Exact.Ghosts K.Denot) (key_clone : Clone.Ghosts K.Denot) (value : Value.Ghosts V.Denot) (value_exact : Exact.Ghosts V.Denot)
    (value_clone : Clone.Ghosts V.Denot) (value_eq : Eq.Ghosts V.Denot)
    (value_same : PartialEq.Ghosts V.Denot)
    (remap : Remap.Ghosts F.Denot K.Denot V.Denot) (function_exact : Exact.Ghosts F.Denot) (function_clone : Clone.Ghosts F.Denot)
    (alloc : Allocator.Ghosts A.Denot)
    (sk : IsSend K) (sv : IsSend V) (sf : IsSend F) (sa : IsSend A) (yk : IsSync K) (yv : IsSync V) (yf : IsSync F)
    (ya : IsSync A)
    (frees : Frees alloc alloc.dealloc_token) where
  quiet_fields : AllSend
      (shape (QuietInside.the_type K V F A hash key_eq key_same key_exact key_clone value_clone value_eq value_same remap function_exact
      function_clone alloc)).fields
  quiet_fields = (
    search (sendable, crosses, bin_send) depth 30,
    (
      search sendable depth 20,
      (
        search sendable depth 20,
        (
          search sendable depth 20,
          (
            search sendable depth 20,
            (
              search (sendable, crosses) depth 20,
              (search (sendable, crosses) depth 20, (search (sendable, crosses) depth 20, (search (sendable, crosses) depth 20, tt))),
            ),
          ),
        ),
      ),
    ),
  )

  -- a closed map
  quiet_send : IsSend
      (Quiet.the_row K V F A hash key_eq key_same key_exact key_clone value_clone value_eq value_same remap function_exact function_clone alloc)
  quiet_send = search (sendable, quiet_fields) depth 30

  quiet_fields_sync : AllSync
      (shape (QuietInside.the_type K V F A hash key_eq key_same key_exact key_clone value_clone value_eq value_same remap function_exact
      function_clone alloc)).fields
  quiet_fields_sync = (
    search (sendable, crosses, bin_sync) depth 30,
    (
      search sendable depth 20,
      (
        search sendable depth 20,
        (
          search sendable depth 20,
          (
            search sendable depth 20,
            (
              search (sendable, crosses, snapshot_sync) depth 20,
              (
                search (sendable, crosses, snapshot_sync) depth 20,
                (search (sendable, crosses, snapshot_sync) depth 20, (search (sendable, crosses, snapshot_sync) depth 20, tt)),
              ),
            ),
          ),
        ),
      ),
    ),
  )

  -- the same, lent to several
  quiet_sync : IsSync
      (Quiet.the_row K V F A hash key_eq key_same key_exact key_clone value_clone value_eq value_same remap function_exact function_clone alloc)
  quiet_sync = search (sendable, quiet_fields_sync) depth 30

module _ (K V F : RattleType) (hash : HashKey.Ghosts K.Denot) (key_eq : Eq.Ghosts K.Denot)
    (key_same : PartialEq.Ghosts K.Denot)
    (key_exact : Exact.Ghosts K.Denot) (key_clone : Clone.Ghosts K.Denot) (value : Value.Ghosts V.Denot) (value_exact : Exact.Ghosts V.Denot)
    (value_clone : Clone.Ghosts V.Denot) (value_eq : Eq.Ghosts V.Denot)
    (value_same : PartialEq.Ghosts V.Denot)
    (remap : Remap.Ghosts F.Denot K.Denot V.Denot) (function_exact : Exact.Ghosts F.Denot) (function_clone : Clone.Ghosts F.Denot)
    (sk : IsSend K) (sv : IsSend V) (sf : IsSend F) (yk : IsSync K) (yv : IsSync V) (yf : IsSync F) where
  owners_send : EachSend
      (enum.shape (Owner.the_type K V F hash key_eq key_same key_exact key_clone value_clone value_eq value_same remap function_exact
      function_clone)).variants
  owners_send = (
    (search (sendable, crosses, heap.crosses, quiet_send) depth 30, tt),
    ((search (sendable, crosses, heap.crosses, quiet_send, quiet_sync) depth 30, tt), tt),
  )

  closed_fields : AllSend
      (shape (ClosedInside.the_type K V F hash key_eq key_same key_exact key_clone value_clone value_eq value_same remap function_exact
      function_clone)).fields
  closed_fields = (search (sendable, owners_send) depth 30, tt)

  -- a closed map, with one owner or several
  closed_send : IsSend
      (ClosedMap.the_row K V F hash key_eq key_same key_exact key_clone value_clone value_eq value_same remap function_exact function_clone)
  closed_send = search (sendable, closed_fields) depth 30

  stages_send : EachSend
      (enum.shape (Stage.the_type K V F hash key_eq key_same key_exact key_clone value value_exact value_clone value_eq value_same remap
      function_exact
      function_clone)).variants
  stages_send = (
    (search (sendable, crosses, heap.crosses, shared_send) depth 30, tt),
    (
      (search (sendable, crosses, heap.crosses, owned_send) depth 60 fits 60000, tt),
      (
        (search (sendable, crosses, heap.crosses, unshared_send) depth 30, tt),
        ((search (sendable, crosses, heap.crosses, closed_send) depth 30, tt), (tt, tt)),
      ),
    ),
  )

  -- a map, or a client
  pub stage_send : IsSend
      (Stage.the_row K V F hash key_eq key_same key_exact key_clone value value_exact value_clone value_eq value_same remap function_exact
      function_clone)
  stage_send = search (sendable, stages_send) depth 30

  -- the same in a field
  pub stage_within : IsSend
      (Stage.the_field K V F hash key_eq key_same key_exact key_clone value value_exact value_clone value_eq value_same remap
      function_exact function_clone).row
  stage_within = search (sendable, stages_send) depth 30

-- a key with its code
pub key_send : IsSend (Hashed.the_row Heap.the_row ghosts)
key_send = search (sendable, hashed_send, heap.crosses) depth 20

pub key_sync : IsSync (Hashed.the_row Heap.the_row ghosts)
key_sync = search (sendable, hashed_sync, heap.crosses) depth 20

-- a value
places_send : EachSend (enum.shape Place.the_type).variants
places_send = (
  (search (sendable, short_send) depth 20, tt),
  (
    (search sendable depth 20, (search (sendable, heap.crosses, padded_send, padded_sync) depth 20, tt)),
    (
      (search sendable depth 20, (search (sendable, heap.crosses, padded_send, padded_sync) depth 20, tt)),
      (
        (search sendable depth 20, (search (sendable, heap.crosses, padded_send, padded_sync) depth 20, tt)),
        (
          (search sendable depth 20, (search (sendable, heap.crosses, padded_send, padded_sync) depth 20, tt)),
          (
            (search sendable depth 20, (search (sendable, heap.crosses, padded_send, padded_sync) depth 20, tt)),
            (
              (search sendable depth 20, (search (sendable, heap.crosses, padded_send, padded_sync) depth 20, tt)),
              (
                (search sendable depth 20, (search (sendable, heap.crosses, padded_send, padded_sync) depth 20, tt)),
                (
                  (search sendable depth 20, (search (sendable, heap.crosses, padded_send, padded_sync) depth 20, tt)),
                  (
                    (search sendable depth 20, (search (sendable, heap.crosses, padded_send, padded_sync) depth 20, tt)),
                    (
                      (search sendable depth 20, (search (sendable, heap.crosses, padded_send, padded_sync) depth 20, tt)),
                      (
                        (search sendable depth 20, (search (sendable, heap.crosses, padded_send, padded_sync) depth 20, tt)),
                        (
                          (search sendable depth 20, (search (sendable, heap.crosses, padded_send, padded_sync) depth 20, tt)),
                          (
                            (search sendable depth 20, (search (sendable, heap.crosses, padded_send, padded_sync) depth 20, tt)),
                            (
                              (search sendable depth 20, (search (sendable, heap.crosses, padded_send, padded_sync) depth 20, tt)),
                              ((search (sendable, heap.crosses) depth 20, tt), tt),
                            ),
                          ),
                        ),
                      ),
                    ),
                  ),
                ),
              ),
            ),
          ),
        ),
      ),
    ),
  ),
)

places_sync : EachSync (enum.shape Place.the_type).variants
places_sync = (
  (search (sendable, short_sync) depth 20, tt),
  (
    (search sendable depth 20, (search (sendable, heap.crosses, padded_send, padded_sync) depth 20, tt)),
    (
      (search sendable depth 20, (search (sendable, heap.crosses, padded_send, padded_sync) depth 20, tt)),
      (
        (search sendable depth 20, (search (sendable, heap.crosses, padded_send, padded_sync) depth 20, tt)),
        (
          (search sendable depth 20, (search (sendable, heap.crosses, padded_send, padded_sync) depth 20, tt)),
          (
            (search sendable depth 20, (search (sendable, heap.crosses, padded_send, padded_sync) depth 20, tt)),
            (
              (search sendable depth 20, (search (sendable, heap.crosses, padded_send, padded_sync) depth 20, tt)),
              (
                (search sendable depth 20, (search (sendable, heap.crosses, padded_send, padded_sync) depth 20, tt)),
                (
                  (search sendable depth 20, (search (sendable, heap.crosses, padded_send, padded_sync) depth 20, tt)),
                  (
                    (search sendable depth 20, (search (sendable, heap.crosses, padded_send, padded_sync) depth 20, tt)),
                    (
                      (search sendable depth 20, (search (sendable, heap.crosses, padded_send, padded_sync) depth 20, tt)),
                      (
                        (search sendable depth 20, (search (sendable, heap.crosses, padded_send, padded_sync) depth 20, tt)),
                        (
                          (search sendable depth 20, (search (sendable, heap.crosses, padded_send, padded_sync) depth 20, tt)),
                          (
                            (search sendable depth 20, (search (sendable, heap.crosses, padded_send, padded_sync) depth 20, tt)),
                            (
                              (search sendable depth 20, (search (sendable, heap.crosses, padded_send, padded_sync) depth 20, tt)),
                              ((search (sendable, heap.crosses) depth 20, tt), tt),
                            ),
                          ),
                        ),
                      ),
                    ),
                  ),
                ),
              ),
            ),
          ),
        ),
      ),
    ),
  ),
)

shared_fields_send : AllSend (shape SharedInside.the_type).fields
shared_fields_send = (search (sendable, places_send) depth 20, tt)

pub value_send : IsSend SharedBytes.the_row
value_send = search (sendable, shared_fields_send) depth 20

shared_fields_sync : AllSync (shape SharedInside.the_type).fields
shared_fields_sync = (search (sendable, places_sync) depth 20, tt)

pub value_sync : IsSync SharedBytes.the_row
value_sync = search (sendable, shared_fields_sync) depth 20

-- a seed, and room for a key
keys_fields : AllSend (shape KeysInside.the_type).fields
keys_fields = (
  search sendable depth 20,
  (search (sendable, crosses, heap.crosses) depth 30, (search (sendable, heap.crosses) depth 20, tt)),
)

pub keys_send : IsSend Keys.the_row
keys_send = search (sendable, keys_fields) depth 20
