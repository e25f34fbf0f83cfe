-- Keys of bytes may go to another thread.
use denote.RattleType.{RattleType}
use denote.Enum.Declared as enum
use denote.Struct.Declared.{shape}
use denote.Param.Send.{IsSend, IsSync, Frees, AllSend, AllSync, EachSend, EachSync, sendable}
use Rattle.std.proofs.CrossingOver.{crosses}
use Rattle.std.specs.declared.alloc.Allocator as Allocator
use Rattle.seeded_keys.specs.contracts.padded.Padded as Padded
use Rattle.seeded_keys.specs.contracts.padded.Padded.TheInside as PaddedInside
use Rattle.seeded_keys.specs.contracts.hashed.Hashed as Hashed
use Rattle.seeded_keys.specs.contracts.hashed.Hashed.TheInside as HashedInside
use Rattle.seeded_keys.specs.contracts.hashed.Place as Place
use Rattle.seeded_keys.specs.contracts.short.ShortBytes as ShortBytes
use Rattle.seeded_keys.specs.contracts.short.ShortBytes.TheInside as ShortInside

-- bytes that lie in themselves
module _ (N : RattleType) where
  short_fields_send : AllSend (shape (ShortInside.the_type N)).fields
  short_fields_send = (search sendable depth 20, (search sendable depth 20, tt))

  pub short_send : IsSend (ShortBytes.the_row N)
  short_send = search (sendable, short_fields_send) depth 20

  short_fields_sync : AllSync (shape (ShortInside.the_type N)).fields
  short_fields_sync = (search sendable depth 20, (search sendable depth 20, tt))

  pub short_sync : IsSync (ShortBytes.the_row N)
  short_sync = search (sendable, short_fields_sync) depth 20

-- bytes and others after them
module _ (N : RattleType) where
  padded_fields_send : AllSend (shape (PaddedInside.the_type N)).fields
  padded_fields_send = (search sendable depth 20, tt)

  pub padded_send : IsSend (Padded.the_row N)
  padded_send = search (sendable, padded_fields_send) depth 20

  padded_fields_sync : AllSync (shape (PaddedInside.the_type N)).fields
  padded_fields_sync = (search sendable depth 20, tt)

  pub padded_sync : IsSync (Padded.the_row N)
  padded_sync = search (sendable, padded_fields_sync) depth 20

module _ (A : RattleType) (alloc : Allocator.Ghosts A.Denot) (sa : IsSend A) (ya : IsSync A)
    (frees : Frees alloc alloc.dealloc_token) where
  places_send : EachSend (enum.shape (Place.the_type A alloc)).variants
  places_send = (
    (search (sendable, short_send) depth 20, (search sendable depth 20, tt)),
    (
      (search sendable depth 20, (search sendable depth 20, (search (sendable, crosses, padded_send) depth 20, tt))),
      (
        (search sendable depth 20, (search sendable depth 20, (search (sendable, crosses, padded_send) depth 20, tt))),
        (
          (search sendable depth 20, (search sendable depth 20, (search (sendable, crosses, padded_send) depth 20, tt))),
          (
            (search sendable depth 20, (search sendable depth 20, (search (sendable, crosses, padded_send) depth 20, tt))),
            ((search sendable depth 20, (search (sendable, crosses) depth 20, tt)), tt),
          ),
        ),
      ),
    ),
  )

  places_sync : EachSync (enum.shape (Place.the_type A alloc)).variants
  places_sync = (
    (search (sendable, short_sync) depth 20, (search sendable depth 20, tt)),
    (
      (search sendable depth 20, (search sendable depth 20, (search (sendable, crosses, padded_sync) depth 20, tt))),
      (
        (search sendable depth 20, (search sendable depth 20, (search (sendable, crosses, padded_sync) depth 20, tt))),
        (
          (search sendable depth 20, (search sendable depth 20, (search (sendable, crosses, padded_sync) depth 20, tt))),
          (
            (search sendable depth 20, (search sendable depth 20, (search (sendable, crosses, padded_sync) depth 20, tt))),
            ((search sendable depth 20, (search (sendable, crosses) depth 20, tt)), tt),
          ),
        ),
      ),
    ),
  )

  key_fields_send : AllSend (shape (HashedInside.the_type A alloc)).fields
  key_fields_send = (search (sendable, places_send) depth 20, tt)

  key_fields_sync : AllSync (shape (HashedInside.the_type A alloc)).fields
  key_fields_sync = (search (sendable, places_sync) depth 20, tt)

  -- a key
  pub hashed_send : IsSend (Hashed.the_row A alloc)
  hashed_send = search (sendable, key_fields_send) depth 20

  pub hashed_sync : IsSync (Hashed.the_row A alloc)
  hashed_sync = search (sendable, key_fields_sync) depth 20
