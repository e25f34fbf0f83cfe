use Rattle.std.proofs.Common.{◌≡◌, ◌++◌, take}
use Rattle.std.specs.List.{flat_map}
use Rattle.mapcli_core.specs.Texts.{output_line, pair_text}
use Rattle.mapcli_core.proofs.text.push_pairs.Given as goal

abbrev pub invariant-loop-key : goal.invariant-loop-key
invariant-loop-key g l = l.text.items ≡ l.initial.text.items ++ flat_map (λ e. output_line (pair_text e))
    (take l.key-index l.pairs)
