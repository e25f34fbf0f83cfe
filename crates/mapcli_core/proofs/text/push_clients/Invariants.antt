use Rattle.std.proofs.Common.{◌≡◌, ◌++◌, drop, map}
use Rattle.mapcli_core.specs.Texts.{clients_text}
use Rattle.mapcli_core.proofs.text.push_clients.Given as goal

abbrev pub invariant-loop-client : goal.invariant-loop-client
invariant-loop-client g l =
    l.initial.text.items ++ clients_text 0 (map (λ r. r.items) l.replies) ≡ l.text.items ++ clients_text l.client
    (map (λ r. r.items) (drop l.client l.replies))
