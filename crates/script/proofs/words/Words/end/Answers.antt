use Rattle.std.proofs.Common.{ℕ, Option, List, [], sym, ap, ◌∙◌, subst}
use Rattle.std.specs.Option.{option_map_or}
use Rattle.script.specs.Lines.{Word, words}
use Rattle.script.specs.Faults.{IsWrong}
use Rattle.script.specs.declared.fault.Kind.TheVariants as kinds
use Rattle.script.proofs.Parts.{words-too_many}
use Rattle.script.proofs.words.Words.end.Goals as goal

pub returns-in-Some-clause-err : goal.returns-in-Some-clause-err
returns-in-Some-clause-err c =
    let held = sym (ap (λ (r : Option (List ℕ)). option_map_or words r []) c.in-Some.is) ∙ c.self.view_is in
    subst (λ (ws : List Word). IsWrong [] ws kinds.Count) held (words-too_many c.in-Some.field-0)
