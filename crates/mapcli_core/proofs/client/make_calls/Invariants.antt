use Rattle.std.proofs.Common.{◌≡◌, ◌≤◌, length, take, vec_len, vec_capacity}
use Rattle.mapcli_core.specs.Played.{HasMade}
use Rattle.mapcli_core.proofs.client.make_calls.Given as goal

abbrev pub invariant-loop-call : goal.invariant-loop-call
invariant-loop-call g l =
    (l.pass.ledger ≡ l.initial.pass.ledger) × (l.pass.client ≡ l.initial.pass.client)
    × HasMade (take l.call-index l.calls.items) l.replies.items l.pass.made
    × (length l.pass.made ≡ l.call-index)
    × (vec_len l.replies ≡ l.call-index)
    × (length l.calls.items ≤ vec_capacity l.replies)
