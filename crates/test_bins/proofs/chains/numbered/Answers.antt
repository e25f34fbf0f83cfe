use Rattle.std.proofs.Common.{◌≡◌, ◌+◌, ◌≤◌, ◌∷◌, [], ◌++◌, ℕ, List, None, nat_eq, arith}
use Rattle.std.proofs.lemmas.Bool.Decides.{Decides-eqb}
use Rattle.std.proofs.lemmas.Grind.{common_steps}
use Rattle.bin_history.specs.Entries.{lookup, put}
use Rattle.bin_entries.proofs.Entries.{lookup-put, HasDistinctKeys-put, put-new}
use Rattle.test_bins.proofs.chains.numbered.Goals as goal

-- a key that a put was not on is still not there
none_after : (es : List (ℕ × ℕ)) (k v q : ℕ) → k + 1 ≤ q → lookup nat_eq es q ≡ None
    → lookup nat_eq (put nat_eq es k v) q ≡ None
none_after es k v q over none =
    let there = lookup-put nat_eq Decides-eqb es k v q in
    let tells = Decides-eqb k q in
    grind (arith, common_steps)

pub loop-number-preserved : goal.loop-number-preserved
loop-number-preserved c =
    let old = c.loop-number.list.items in
    let k = c.loop-number.number in
    let known = c.loop-number.invariant in
    let pushed : put nat_eq old k k ≡ old ++ (k, k) ∷ [] = put-new nat_eq old k k (known.new k (omega arith)) in
    rw (c.in_ok-push.ensures.items, ← pushed) (record {
      distinct = HasDistinctKeys-put nat_eq Decides-eqb old k k known.distinct;
      new = λ q over. none_after old k k q over (known.new q (omega (arith, over)));
    })
