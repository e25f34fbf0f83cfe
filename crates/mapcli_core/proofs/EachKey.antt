-- Where there is one order of all calls, each key by itself has a history.
use Rattle.std.proofs.Common.{◌≡◌, ℕ, ℤ, Bool, ◌<◌, ◌==◌, List, [], ◌∷◌, length, map, filter, refl, sym, ap, ◌∙◌, arith}
use Rattle.std.proofs.lemmas.Grind.{common_steps}
use Rattle.std.proofs.lemmas.List.Elements.{All-filter}
use Rattle.std.specs.Cmp.Lexicographic.{bytes_decides}
use Rattle.bin_history.specs.Calls.{key_of}
use Rattle.bin_history.specs.Cells.{records_on}
use Rattle.bin_history.specs.Clients.{by_client}
use Rattle.bin_history.specs.declared.call.Reply.{Reply}
use Rattle.bin_history.proofs.Cells.{run-cell, IsLegal-cell}
use Rattle.count_ledger.proofs.Filters.{filter_turn}
use Rattle.script.specs.Grammar.{ScriptCall}
use Rattle.mapcli_core.specs.Outcomes.{Outcome, same_key, value_after, call_and_reply, nothing, IsOrderOf, IsHistoryOf}
use Rattle.mapcli_core.specs.Played.{ScriptRecord}

pub map-filter : {X Y : Type 0} (f : X → Y) (p : Y → Bool) (xs : List X) → map f (filter (λ x. p (f x)) xs)
    ≡ filter p (map f xs)
map-filter f p [] = refl
map-filter f p (x ∷ xs) = let ih = map-filter f p xs in grind (arith, common_steps)

pub IsHistoryOf-order : (blocks : List (List ScriptCall)) (o : Outcome) (k : List ℕ) (calls : List ScriptRecord) →
    IsOrderOf blocks o calls
    → IsHistoryOf blocks o k (records_on same_key k calls)
IsHistoryOf-order blocks o k calls order =
    let on : ScriptRecord → Bool = λ x. same_key (key_of x.call) k in
    record {
      clients = All-filter on (λ (x : ScriptRecord). x.client < length blocks) calls order.clients;
      made = λ c lt.
          ap (map call_and_reply) (filter_turn (λ (x : ScriptRecord). x.client == c) on calls)
          ∙ map-filter call_and_reply (λ (m : ScriptCall × Reply ℤ). same_key (key_of m.0) k) (by_client c calls)
          ∙ ap (filter (λ (m : ScriptCall × Reply ℤ). same_key (key_of m.0) k)) (order.made c lt);
      legal = IsLegal-cell same_key bytes_decides value_after nothing calls k order.legal;
      final = sym (run-cell same_key bytes_decides nothing calls k) ∙ sym (order.final k);
    }
