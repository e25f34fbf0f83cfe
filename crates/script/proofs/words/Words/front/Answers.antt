use Rattle.std.proofs.Common.{◌≡◌, ℕ, Option, Some, List, [], sym, ap, ◌∙◌, arith}
use Rattle.std.specs.Option.{option_map_or}
use Rattle.script.specs.Lines.{words}
use Rattle.script.proofs.Parts.{words_at}
use Rattle.script.proofs.words.Words.front.Goals as goal

pub returns-clause-ok : goal.returns-clause-ok
returns-clause-ok c =
    let held : c.self.inside.rest ≡ Some c.in-Some.line = grind arith in
    sym c.self.view_is ∙ ap (λ (r : Option (List ℕ)). option_map_or words r []) held
    ∙ words_at c.in-Some.line _ _ c.split-word.ensures.before c.split-word.ensures.parts
