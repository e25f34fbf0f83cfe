-- Threads may share the program's keys and functions.
use denote.Param.Send.{IsSend, IsSync, sendable}
use Rattle.std.proofs.CrossingOver.{crosses}
use Rattle.hashkeys.specs.contracts.key.Key as Key
use Rattle.script.specs.contracts.function.Function as Function

pub key_send : IsSend Key.the_row
key_send = search (sendable, crosses) depth 20

pub key_sync : IsSync Key.the_row
key_sync = search (sendable, crosses) depth 20

pub function_send : IsSend Function.the_row
function_send = search (sendable, crosses) depth 20

pub function_sync : IsSync Function.the_row
function_sync = search (sendable, crosses) depth 20
