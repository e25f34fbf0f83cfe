use Rattle.std.proofs.Common.{◌≡◌, ◌<◌, vec_len}
use Rattle.std.specs.Io.KnownBytes.{Consumes}
use Rattle.mapcli_core.proofs.whole.read_all.Given as goal

abbrev pub invariant-loop : goal.invariant-loop
invariant-loop g l =
    (0 < vec_len l.piece) × Consumes (g.I.Input.remaining l.initial.input) (g.I.Input.remaining l.input) l.text.items
    × (g.I.Input.failures l.input ≡ g.I.Input.failures l.initial.input)
