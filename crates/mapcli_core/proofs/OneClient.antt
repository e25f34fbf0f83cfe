-- With one client all allowed outcomes have the same replies and the same final map.
use Rattle.std.proofs.Common.{◌≡◌, ℕ, ℤ, true, cond, ◌<◌, ◌==◌, Option, List, [], ◌∷◌, length, map, All, slice_index_or}
use Rattle.std.proofs.Common.{refl, sym, ap, ◌∙◌, subst, arith}
use Rattle.std.specs.List.{zip}
use Rattle.std.specs.Ordering.{int_eq}
use Rattle.std.proofs.lemmas.Bool.Decides.{nat_tests}
use Rattle.std.proofs.lemmas.List.Elements.{All-head, All-tail}
use Rattle.bin_history.specs.Calls.{key_of, reply}
use Rattle.bin_history.specs.Clients.{by_client}
use Rattle.bin_history.specs.Entries.{lookup}
use Rattle.bin_history.specs.Plain.{step, run, IsLegal}
use Rattle.bin_history.specs.declared.call.Reply.{Reply}
use Rattle.script.specs.Grammar.{ScriptCall}
use Rattle.mapcli_core.specs.Outcomes.{same_key, value_after, call_and_reply, nothing, IsAllowed}
use Rattle.mapcli_core.specs.Played.{ScriptRecord}

-- legal lists of the same calls tell the same, and leave the same map
call_and_reply-run : (m : List ℕ → Option ℤ) (rs ss : List ScriptRecord) → map (λ r. r.call) rs ≡ map (λ r. r.call) ss →
    IsLegal same_key value_after m rs
    → IsLegal same_key value_after m ss
    → (map call_and_reply rs ≡ map call_and_reply ss) × (run same_key m rs ≡ run same_key m ss)
call_and_reply-run m [] [] e h g = (refl, refl)
call_and_reply-run m [] (s ∷ ss) e h g = absurd cc
call_and_reply-run m (r ∷ rs) [] e h g = absurd cc
call_and_reply-run m (r ∷ rs) (s ∷ ss) e h g =
    let call : r.call ≡ s.call = cc in
    let before : r.before ≡ s.before = h.0.0 ∙ ap (λ (c : ScriptCall). m (key_of c)) call ∙ sym g.0.0 in
    let after : r.after ≡ s.after = h.0.1 ∙ (λ i. value_after (call i) (before i)) ∙ sym g.0.1 in
    let left : step same_key m r ≡ step same_key m s = λ i k. cond (same_key (key_of (call i)) k) (after i) (m k) in
    let rest = call_and_reply-run (step same_key m s) rs ss (cc)
    (subst (λ (n : List ℕ → Option ℤ). IsLegal same_key value_after n rs) left h.1) g.1 in
    let one : call_and_reply r ≡ call_and_reply s = λ i. (call i, reply int_eq (call i) (before i) (after i)) in
    ((λ i. one i ∷ rest.0 i), ap (λ (n : List ℕ → Option ℤ). run same_key n rs) left ∙ rest.1)

call_told : (rs : List ScriptRecord) → map (λ r. r.call) rs ≡ map (λ m. m.0) (map call_and_reply rs)
call_told [] = refl
call_told (r ∷ rs) = ap (λ (cs : List ScriptCall). r.call ∷ cs) (call_told rs)

-- all records are the only client's
only_client : (rs : List ScriptRecord) → All (λ r. r.client < 1) rs → by_client 0 rs ≡ rs
only_client [] h = refl
only_client (r ∷ rs) h =
    let P : ScriptRecord → Type 0 = λ x. x.client < 1 in
    let zero_client : (r.client == 0) ≡ true = let l = All-head P r rs h in grind (arith, nat_tests) in
    rw zero_client (ap (λ (xs : List ScriptRecord). r ∷ xs) (only_client rs (All-tail P r rs h)))

calls_of : (calls : List ScriptCall) (replies : List (Reply ℤ)) → length replies ≡ length calls →
    map (λ m. m.0) (zip calls replies) ≡ calls
calls_of [] replies e = refl
calls_of (c ∷ calls) [] e = absurd (omega arith)
calls_of (c ∷ calls) (a ∷ replies) e = ap (λ (cs : List ScriptCall). c ∷ cs) (calls_of calls replies (omega arith))

replies_of : (calls : List ScriptCall) (replies : List (Reply ℤ)) → length replies ≡ length calls →
    map (λ m. m.1) (zip calls replies) ≡ replies
replies_of [] [] e = refl
replies_of [] (a ∷ replies) e = absurd (omega arith)
replies_of (c ∷ calls) [] e = absurd (omega arith)
replies_of (c ∷ calls) (a ∷ replies) e =
    ap (λ (rest : List (Reply ℤ)). a ∷ rest) (replies_of calls replies (omega arith))

-- with one client two allowed outcomes have the same replies, and the same value at each key
pub same_outcomes : (calls : List ScriptCall) (os ps : List (List (Reply ℤ))) (es fs : List (List ℕ × ℤ))
    → IsAllowed (calls ∷ []) (record { replies = os; pairs = es }) →
    IsAllowed (calls ∷ []) (record { replies = ps; pairs = fs })
    → (os ≡ ps) × ((k : List ℕ) → lookup same_key es k ≡ lookup same_key fs k)
same_outcomes calls [] ps es fs h g = let bad = h.answered in absurd cc
same_outcomes calls (xs ∷ x ∷ os) ps es fs h g = let bad = ap length h.answered in absurd (omega arith)
same_outcomes calls (xs ∷ []) [] es fs h g = let bad = g.answered in absurd cc
same_outcomes calls (xs ∷ []) (ys ∷ y ∷ ps) es fs h g = let bad = ap length g.answered in absurd (omega arith)
same_outcomes calls (xs ∷ []) (ys ∷ []) es fs h g =
    let first : length xs ≡ length calls = ap (λ (ns : List ℕ). slice_index_or ns 0 0) h.answered in
    let second : length ys ≡ length calls = ap (λ (ns : List ℕ). slice_index_or ns 0 0) g.answered in
    let (rs, a) = h.order in
    let (ss, b) = g.order in
    let mine : map call_and_reply rs ≡ zip calls xs = ap (map call_and_reply) (sym (only_client rs a.clients))
    ∙ a.made 0 (omega arith) in
    let other : map call_and_reply ss ≡ zip calls ys = ap (map call_and_reply) (sym (only_client ss b.clients))
    ∙ b.made 0 (omega arith) in
    let same_calls : map (λ r. r.call) rs ≡ map (λ r. r.call) ss =
    call_told rs ∙ ap (map (λ m. m.0)) mine ∙ calls_of calls xs first ∙ sym (calls_of calls ys second)
    ∙ ap (map (λ m. m.0)) (sym other) ∙ sym (call_told ss)
    in
    let both = call_and_reply-run nothing rs ss same_calls a.legal b.legal in
    let replies : xs ≡ ys = sym (replies_of calls xs first) ∙ ap (map (λ m. m.1)) (sym mine ∙ both.0 ∙ other)
    ∙ replies_of calls ys second in (
      ap (λ (r : List (Reply ℤ)). r ∷ []) replies,
      λ k. a.final k ∙ ap (λ (m : List ℕ → Option ℤ). m k) both.1
          ∙ sym (b.final k),
    )
