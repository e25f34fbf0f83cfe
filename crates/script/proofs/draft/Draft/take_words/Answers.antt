use Rattle.std.proofs.Common.{[], ◌∷◌, ◌++◌, Vec, map, refl, ap, ◌∙◌, subst}
use Rattle.std.proofs.lemmas.Result.{on_ok_weaker, IfErr-weaker}
use Rattle.script.specs.Grammar.{client, query, call, ask, block_forms, Reads}
use Rattle.script.specs.Reading.{start, calls, queries, first_client, first_query, next_query}
use Rattle.script.specs.Drafts.{line_of}
use Rattle.script.specs.declared.forms.BlockLine.{BlockLine}
use Rattle.script.proofs.Steps.{Reads-words, IsMisread-at_limit, blocks_pushed, Leads-to_calls, Leads-to_queries}
use Rattle.script.proofs.draft.Draft.take_words.Goals as goal

pub returns-in_ok-clone-in-Start-clause-ok : goal.returns-in_ok-clone-in-Start-clause-ok
returns-in_ok-clone-in-Start-clause-ok g c =
    let read = c.first_word-rest.result in
    let line = c.args.line.now in
    let none = ap (map (λ (b : Vec _ _). b.items)) c.new.ensures.items in
    rw c.in-Start.is (
      client,
      Reads-words start line (read.0.now ∷ read.1) c.first_word-rest.ensures client
          c.in_ok-read_start-in-Start.ensures.ok,
      Leads-to_calls start client [] _ [] _ none c.new-in-Start.ensures.items first_client,
    )

pub returns-in_ok-clone-in-Query-2-clause-ok : goal.returns-in_ok-clone-in-Query-2-clause-ok
returns-in_ok-clone-in-Query-2-clause-ok g c =
    let read = c.first_word-rest.result in
    let line = c.args.line.now in
    let items = λ (b : Vec _ _). b.items in
    let before = map items c.in-Calls.blocks.items in
    let block = c.in-Calls.block.items in
    let reads = subst (λ (b : BlockLine). Reads block_forms (read.0.now ∷ read.1) (line_of b)) c.in-Query.is
    c.in_ok-read_in_block-in-Calls.ensures.ok in
    let taken = ap (λ (v : Vec _ _). map items v.items) c.replace-in-Query.ensures.value in
    let full = ap (λ (b : Vec _ _). before ++ b.items ∷ []) c.replace.ensures.value in
    let pushed = blocks_pushed _ _ _ c.in_ok-push-in-Query.ensures.items in
    rw c.in-Calls.is (
      query,
      Reads-words (calls before block) line (read.0.now ∷ read.1) c.first_word-rest.ensures query reads,
      Leads-to_queries _ query _ _ _ _ (taken ∙ pushed ∙ full) c.new-in-Query-3.ensures.items
          (first_query before block),
    )

pub returns-in-Call-clause-ok : goal.returns-in-Call-clause-ok
returns-in-Call-clause-ok g c =
    let read = c.first_word-rest.result in
    let line = c.args.line.now in
    let said = call c.in-Call.call in
    let before = map (λ (b : Vec _ _). b.items) c.in-Calls.blocks.items in
    let block = c.in-Calls.block.items in
    let reads = subst (λ (b : BlockLine). Reads block_forms (read.0.now ∷ read.1) (line_of b)) c.in-Call.is
    c.in_ok-read_in_block-in-Calls.ensures.ok in
    rw c.in-Calls.is
    (on_ok_weaker c.push_call.result
    (λ leads. (
      said,
      Reads-words (calls before block) line (read.0.now ∷ read.1) c.first_word-rest.ensures said reads,
      leads before,
    ))
    c.push_call.ensures.ok)

pub returns-in-Call-clause-err : goal.returns-in-Call-clause-err
returns-in-Call-clause-err g c =
    let read = c.first_word-rest.result in
    let line = c.args.line.now in
    let said = call c.in-Call.call in
    let before = map (λ (b : Vec _ _). b.items) c.in-Calls.blocks.items in
    let block = c.in-Calls.block.items in
    let reads = subst (λ (b : BlockLine). Reads block_forms (read.0.now ∷ read.1) (line_of b)) c.in-Call.is
    c.in_ok-read_in_block-in-Calls.ensures.ok in
    rw c.in-Calls.is
    (IfErr-weaker c.push_call.result _ _
    (λ e refused. IsMisread-at_limit (calls before block) line (read.0.now ∷ read.1) c.first_word-rest.ensures said e
    reads (refused before))
    c.push_call.ensures.err)

pub returns-in_ok-push-in-Queries-clause-ok : goal.returns-in_ok-push-in-Queries-clause-ok
returns-in_ok-push-in-Queries-clause-ok g c =
    let read = c.first_word-rest.result in
    let line = c.args.line.now in
    let asked = ask c.in_ok-query-in-Queries.query in
    rw c.in-Queries.is (
      asked,
      Reads-words (queries [] []) line (read.0.now ∷ read.1) c.first_word-rest.ensures asked
          c.in_ok-query-in-Queries.ensures.ok,
      Leads-to_queries _ _ _ _ _ _ refl c.in_ok-push-in-Queries.ensures.items
          (next_query _ _ c.in_ok-query-in-Queries.query),
    )
