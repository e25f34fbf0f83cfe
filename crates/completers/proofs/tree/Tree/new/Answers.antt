use Rattle.std.proofs.Common.{arith, ◌*◌, refl}
use Rattle.std.proofs.lemmas.List.{take-replicate}
use Rattle.completers.proofs.Forks.{starts}
use Rattle.completers.specs.Limits.{most_words}
use Rattle.completers.proofs.tree.Tree.new.Goals as goal

pub vacant-requires : goal.vacant-requires
vacant-requires g c =
    let few = c.level_of-level.ensures.2 in
    starts (g.B.Relation.relates c.of.result.value) c.args.bins c.args.nodes (2 * c.args.nodes) (8 * c.args.nodes) _
    (take-replicate (2 * c.args.nodes) most_words 1 (omega arith)) refl refl few
