use Rattle.std.proofs.Common.{◌≡◌, ◌∷◌, map, take, codes}
use Rattle.std.specs.Prelude.{string_bytes}
use Rattle.mapcli_core.proofs.command.whole_line.Given as goal

abbrev pub invariant-loop-word : goal.invariant-loop-word
invariant-loop-word l = map (λ s. s.now) l.line.items ≡ codes "mapcli" ∷ map string_bytes (take l.word-index l.words)
