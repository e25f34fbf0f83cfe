-- What a handle stands for may go to another thread.
use denote.Enum.Declared as enum
use denote.Param.Send.{IsSend, IsSync, EachSend, sendable}
use Rattle.facing_maps.proofs.Crossing.{stage_within, keys_send, key_send, key_sync, value_send, value_sync}
use Rattle.facing_maps.specs.contracts.merging.Merging as Merging
use Rattle.functions.specs.contracts.nothing.NoFunction as NoFunction
use Rattle.facing.specs.contracts.target.Target as Target

merging_send : IsSend Merging.the_row
merging_send = search sendable depth 20

merging_sync : IsSync Merging.the_row
merging_sync = search sendable depth 20

nothing_send : IsSend NoFunction.the_row
nothing_send = search sendable depth 20

nothing_sync : IsSync NoFunction.the_row
nothing_sync = search sendable depth 20

targets_send : EachSend (enum.shape Target.the_type).variants
targets_send = (
  (search sendable depth 20, (search (sendable, stage_within, merging_send, merging_sync) depth 20, tt)),
  (
    (
      keys_send,
      (search (sendable, stage_within, key_send, key_sync, value_send, value_sync, nothing_send, nothing_sync) depth 20, tt),
    ),
    (
      (keys_send, (search (sendable, stage_within, key_send, key_sync, merging_send, merging_sync) depth 20, tt)),
      ((value_send, tt), tt),
    ),
  ),
)

pub target_send : IsSend Target.the_row
target_send = search (sendable, targets_send) depth 30
