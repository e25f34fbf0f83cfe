use Rattle.std.proofs.Common.{[], ◌∷◌, ◌++◌, Vec, map, ap, ◌∙◌, arith}
use Rattle.std.proofs.lemmas.List.{length-map}
use Rattle.script.specs.Grammar.{client}
use Rattle.script.specs.Reading.{next_client}
use Rattle.script.proofs.Steps.{blocks_pushed, Leads-to_calls}
use Rattle.script.proofs.draft.push_block.Goals as goal

pub returns-clause-ok : goal.returns-clause-ok
returns-clause-ok g c =
    let items = λ (b : Vec _ _). b.items in
    let full = ap (λ (b : Vec _ _). map items c.args.blocks.now.items ++ b.items ∷ []) c.replace.ensures.value in
    let empty = ap items c.replace.ensures.after ∙ c.new.ensures.items in
    Leads-to_calls _ client _ _ _ _ (blocks_pushed _ _ _ c.in_ok-push.ensures.items ∙ full) empty
    (next_client _ _ (omega (arith, length-map c.args.blocks.now.items items)))
