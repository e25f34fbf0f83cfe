use Rattle.std.proofs.Common.{◌≡◌, ◌+◌, ◌<◌, ◌≤◌, ◌^◌, ℕ, Option, Some, min, nat_eq, List, [], Vec, length, map, sym, ap}
use Rattle.std.proofs.Common.{◌∙◌, subst, refl, arith}
use Rattle.std.proofs.lemmas.List.{length-map}
use Rattle.std.proofs.Math.Nat.{le_trans, mul-div-le}
use Rattle.bin_history.specs.Limits.{most_lean_calls}
use Rattle.bin_history.specs.Calls.{after}
use Rattle.bin_history.specs.Entries.{lookup}
use Rattle.bin_history.specs.declared.call.Call.{Call}
use Rattle.count_ledger.specs.Views.{LedgerView}
use Rattle.chm.specs.Headline.{entries_of}
use Rattle.functions.specs.declared.numbers.Add.{Add}
use Rattle.clients.proofs.Tallies.{stored_count-of-key, times-few}
use Rattle.clients.specs.Tallies.{AllCounted, times_in_all}
use Rattle.clients.proofs.Passes.{as-many-seen, length-new_passes}
use Rattle.word_count.proofs.Worked.{all-counted, all-few, all-met}
use Rattle.word_count.specs.Counted.{WordPass, most_words, same_word}
use Rattle.word_count.proofs.count.count.Goals as goal

-- a sum that stays in the range is exact
exact : (n : ℕ) → n + 1 < 2 ^ 64 → Some (min (n + 1) 18446744073709551615) ≡ Some (n + 1)
exact n room = ap Some (omega arith)

pub returns-in-Ok : goal.returns-in-Ok
returns-in-Ok g c =
    let after_calls : Call (List ℕ) ℕ Add → Option ℕ
    → Option ℕ = after nat_eq (λ (f : Add) (k : List ℕ) (v : Option ℕ). v)
    (λ (f : Add) (old given : ℕ). Some (min (old + given) 18446744073709551615)) in
    let parts : List (List (List ℕ)) = map (λ part. part.items) c.args.parts.now in
    let n : ℕ = length c.args.parts.now in
    let team = c.in_ok-team.team in
    let passes : List WordPass = c.work.new.self.passes in
    let q = c.in_ok-map.map in
    let new = c.in_ok-team.ensures.new.passes in
    let wide : length parts ≡ n = length-map c.args.parts.now (λ (b : Vec (List ℕ) _). b.items) in
    let (mid, joined, worked, met) = c.in_ok-answers.ensures.done in
    let done = c.in_ok-all_done.ensures in
    let counted : AllCounted parts mid = all-counted team.map.ledger.id n team.passes new c.args.parts.now refl mid
    c.in_ok-answers.answers.items worked done in
    let many : length parts ≤ length mid = (
    let l = length-new_passes team.map.ledger.id n team.passes new in let m = as-many-seen _ _ _ _ _ met.seen in
    let k = c.work.ensures.len in omega (arith, wide)) in
    let made : AllCounted parts passes = all-met parts team.map.ledger _ mid passes met.seen many counted in
    let ledger_is : q.ledger ≡ team.map.ledger = c.in_ok-map.ensures.ledger ∙ ap (λ m. m.ledger) c.work.ensures.map in
    let clients : q.ledger.clients ≡ length parts = ap (λ (l : LedgerView (List ℕ) ℕ). l.clients) ledger_is
    ∙ c.in_ok-team.ensures.new.clients ∙ sym wide in
    let opening : q.ledger.opening ≡ [] = ap (λ (l : LedgerView (List ℕ) ℕ). l.opening) ledger_is
    ∙ c.in_ok-team.ensures.new.opening in
    let as_many : length q.passes ≡ length parts = ap length c.in_ok-map.ensures.passes ∙ c.work.ensures.len
    ∙ length-new_passes team.map.ledger.id n team.passes new
    ∙ sym wide in
    let counted : AllCounted parts q.passes = subst (AllCounted parts) (sym c.in_ok-map.ensures.passes) made in
    let items : c.in-Ok.counts.items ≡ entries_of q.bins = c.in-Ok.ensures.entries in
    record {
      distinct = c.in-Ok.ensures.distinct;
      each = λ w.
          let few = times-few same_word w (most_words c.args.parts.now) c.args.parts.now
          (all-few team.map.ledger.id n team.passes new c.args.parts.now refl mid c.in_ok-answers.answers.items
          worked done) in
          let all : times_in_all same_word w parts ≤ most_lean_calls = le_trans few (mul-div-le most_lean_calls n) in
          let room : times_in_all same_word w parts < 2 ^ 64 = omega (arith, all) in
          ap (λ (es : List (List ℕ × ℕ)). lookup same_word es w) items
          ∙ stored_count-of-key same_word after_calls (λ k f. refl)
          (λ k f m. exact m) q parts clients as_many opening counted c.histories.ensures.each_key w room;
    }
