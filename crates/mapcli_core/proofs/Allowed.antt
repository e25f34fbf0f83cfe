-- A closed map that was called as the blocks say makes an allowed outcome.
use Rattle.std.proofs.Common.{◌≡◌, ℕ, ℤ, ◌<◌, Option, List, [], length, map, All, slice_index_or, sym, ap, ◌∙◌, subst}
use Rattle.std.proofs.Common.{arith}
use Rattle.std.proofs.lemmas.List.Elements.{All-get_or}
use Rattle.std.specs.Cmp.Lexicographic.{bytes_decides}
use Rattle.hashkeys.specs.Hashing.{hash_of}
use Rattle.hashkeys.specs.Text.{code_of}
use Rattle.bin_history.specs.Clients.{by_client}
use Rattle.bin_history.specs.Entries.{lookup}
use Rattle.bin_history.specs.Plain.{run, IsLegal}
use Rattle.bin_history.specs.declared.call.Reply.{Reply}
use Rattle.chm.specs.Headline.{IsQuiet, entries_of}
use Rattle.chm.specs.Views.{bins_of}
use Rattle.chm.proofs.Homes.{distinct}
use Rattle.chm.proofs.Ordering.{IsOneOrder-closed}
use Rattle.script.specs.Grammar.{ScriptCall}
use Rattle.mapcli_core.specs.Outcomes.{same_key, value_after, call_and_reply, nothing, IsAllowed}
use Rattle.mapcli_core.specs.Played.{ScriptPass, ScriptQuiet, ScriptRecord, ArePlayed}

pub IsAllowed-closed : (blocks : List (List ScriptCall)) (replies : List (List (Reply ℤ))) (q : ScriptQuiet) →
    IsQuiet same_key code_of value_after q
    → q.ledger.opening ≡ [] → q.ledger.clients ≡ length blocks → ArePlayed blocks replies q.passes
    → IsAllowed blocks (record { replies = replies; pairs = entries_of q.bins })
IsAllowed-closed blocks replies q quiet empty clients played =
    let (calls, books) = quiet.books.order in
    let one = IsOneOrder-closed same_key bytes_decides code_of value_after q calls quiet books in
    let opened : lookup same_key q.ledger.opening ≡ nothing = ap (lookup same_key) empty in
    record {
      answered = played.answered;
      distinct = distinct same_key bytes_decides code_of value_after (bins_of (record { ledger = q.ledger; n = q.n }))
          q.bins q.roles quiet.with_roles
          (λ k. let once = quiet.walk.each_hash (hash_of q.ledger.salt (code_of k)) in omega arith);
      order = (
        calls,
        record {
          clients = subst (λ (n : ℕ). All (λ (x : ScriptRecord). x.client < n) calls) clients books.clients;
          made = λ c lt.
              let some_pass : ScriptPass = record { ledger = q.ledger.id; client = c; made = []; seen = [] } in
              let p : ScriptPass = slice_index_or q.passes c some_pass in
              let own : by_client p.client calls ≡ p.made =
              All-get_or (λ p. by_client p.client calls ≡ p.made) q.passes c some_pass (let m = played.as_many in
              omega arith) books.made in
              ap (map call_and_reply) (ap (λ (n : ℕ). by_client n calls) (sym (played.clients c some_pass lt)) ∙ own)
              ∙ (played.made c some_pass lt).0;
          legal = subst (λ (m : List ℕ → Option ℤ). IsLegal same_key value_after m calls) opened one.legal;
          final = λ k. one.final k ∙ ap (λ (m : List ℕ → Option ℤ). run same_key m calls k) opened;
        },
      );
    }
