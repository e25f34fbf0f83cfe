use Rattle.std.proofs.Common.{◌≡◌, ℕ, List, [], ◌∷◌, ◌++◌, sym, ap, ◌∙◌, subst}
use Rattle.std.specs.Cmp.Lexicographic.{bytes_decides}
use Rattle.script.specs.Grammar.{ScriptCall}
use Rattle.script.specs.Reading.{Verdict, whole, faulty}
use Rattle.script.specs.declared.script.Query.{Query}
use Rattle.mapcli_core.specs.Determined.{HasNoSearch}
use Rattle.mapcli_core.specs.Outcomes.{Outcome, same_key, IsAllowed}
use Rattle.mapcli_core.specs.Texts.{clients_text, IsOutput}
use Rattle.mapcli_core.proofs.Determined.{same_answers}
use Rattle.mapcli_core.proofs.OneClient.{same_outcomes}
use Rattle.mapcli_core.proofs.SamePairs.{same_pairs}
use Rattle.mapcli_core.proofs.laws.one_output.Goals as goal

same_output : (calls : List ScriptCall) (queries : List Query) (o p : Outcome) (one other : List ℕ)
    → HasNoSearch queries → IsAllowed (calls ∷ []) o → IsAllowed (calls ∷ []) p → IsOutput queries o one →
    IsOutput queries p other → one ≡ other
same_output calls queries o p one other none first second (answers, all, is) (answers', all', is') =
    let (replies, values) = same_outcomes calls o.replies p.replies o.pairs p.pairs first second in
    let pairs = same_pairs same_key bytes_decides o.pairs p.pairs first.distinct second.distinct values in
    let same = same_answers o.pairs p.pairs queries answers answers' pairs first.distinct none all all' in
    is ∙ (λ i. clients_text 0 (replies i) ++ same i) ∙ sym is'

-- the blocks and queries of a verdict that is a script
abbrev blocks_in : Verdict → List (List ScriptCall)
blocks_in (whole blocks queries) = blocks
blocks_in (faulty n kind) = []

abbrev queries_in : Verdict → List Query
queries_in (whole blocks queries) = queries
queries_in (faulty n kind) = []

pub returns-clause-script : goal.returns-clause-script
returns-clause-script c = same_output

pub returns-clause-text : goal.returns-clause-text
returns-clause-text c = λ text one other (calls, queries, script, none) (blocks, asked, o, is, allowed, output)
    (blocks', asked', p, is', allowed', output').
    let first = script.only _ is.holds in
    let second = script.only _ is'.holds in
    same_output calls queries o p one other none
    (subst (λ bs. IsAllowed bs o) (ap blocks_in first) allowed)
    (subst (λ bs. IsAllowed bs p) (ap blocks_in second) allowed')
    (subst (λ qs. IsOutput qs o one) (ap queries_in first) output)
    (subst (λ qs. IsOutput qs p other) (ap queries_in second) output')
