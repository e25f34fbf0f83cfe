use Rattle.std.proofs.Common.{◌≡◌, take}
use Rattle.std.specs.Io.KnownBytes.{Appends}
use Rattle.std.specs.List.{flat_map}
use Rattle.mapcli_core.proofs.whole.write_pieces.Given as goal

abbrev pub invariant-loop-piece : goal.invariant-loop-piece
invariant-loop-piece g l =
    Appends (g.O.Output.contents l.initial.output) (g.O.Output.contents l.output)
    (flat_map (λ p. p.now) (take l.piece-index l.pieces))
    × (g.O.Output.failures l.output ≡ g.O.Output.failures l.initial.output)
