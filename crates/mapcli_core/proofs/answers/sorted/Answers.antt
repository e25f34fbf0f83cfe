use Rattle.std.proofs.Common.{IsPermutation, List, subst, ◌∙◌}
use Rattle.chm.specs.Headline.{entries_of}
use Rattle.mapcli_core.proofs.Reduced.{answers-pairs}
use Rattle.mapcli_core.proofs.answers.sorted.Goals as goal

pub returns-clause-permutation : goal.returns-clause-permutation
returns-clause-permutation g c = subst (λ (l : List (_ × _)). IsPermutation l c.sort_unstable.new.self.items)
    (c.in-Ok.ensures.answers ∙ answers-pairs (entries_of c.args.quiet.now.bins)) c.sort_unstable.ensures.permutation
