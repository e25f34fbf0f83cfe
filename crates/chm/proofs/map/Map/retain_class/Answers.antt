use Rattle.std.specs.Option.{IsSomeAnd}
use Rattle.std.proofs.Common.{sym, subst}
use Rattle.part_walks.specs.Parts.{IsFirstOf}
use Rattle.chm.proofs.map.Map.retain_class.Goals as goal

pub retain_held-requires-clause-within : goal.retain_held-requires-clause-within
retain_held-requires-clause-within g c = λ hash of. rw c.class.ensures at (c.narrower-class.ensures.within hash of)

pub retain_held-requires-clause-first : goal.retain_held-requires-clause-first
retain_held-requires-clause-first g c =
    subst (λ o. IsSomeAnd o (λ k. IsFirstOf k c.narrower-class.result)) (sym c.requires.next) c.narrower-class.ensures.first
