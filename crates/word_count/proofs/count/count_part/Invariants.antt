use Rattle.std.proofs.Common.{◌≡◌, [], take}
use Rattle.bin_history.specs.Limits.{most_calls}
use Rattle.word_count.specs.Counted.{HasCounted}
use Rattle.word_count.proofs.count.count_part.Given as goal

abbrev pub invariant-loop-word : goal.invariant-loop-word
invariant-loop-word g l =
    (l.client.pass.client ≡ l.initial.client.pass.client)
    × (l.client.map ≡ l.initial.client.map)
    × (l.initial.client.pass.made ≡ [] → HasCounted (most_calls l.initial.client.map.ledger.form
    l.initial.client.map.ledger.clients) (take l.word-index l.part) l.client.pass.made)
