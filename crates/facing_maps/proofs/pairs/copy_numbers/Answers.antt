use Rattle.std.proofs.Common.{◌≡◌, ℕ, ◌+◌, ◌∷◌, ◌++◌, List, [], length, map, refl, sym, ap, ◌∙◌, append_assoc, arith}
use Rattle.std.proofs.lemmas.List.{length-append, length-set, map-append, take_more_set}
use Rattle.seeded_keys.specs.Mixing.{unmixed}
use Rattle.facing_maps.proofs.Copied.{stays_beyond}
use Rattle.facing_maps.proofs.pairs.copy_numbers.Goals as goal

pub loop-pair-preserved : goal.loop-pair-preserved
loop-pair-preserved c =
    let (done, all, long, in_keys, in_values, keys_are, values_are, keys_stay, values_stay) = c.loop-pair.invariant in
    let e = c.in-Some.pair.now in
    let first : c.loop-pair.rest.now ≡ e ∷ c.in-Some.tail.now = c.in-Some.ensures.cases.0 in
    let n = c.loop-pair.count in
    let keys = c.loop-pair.keys in
    let values = c.loop-pair.values in
    let longer = length-append done (e ∷ []) in
    let x = c.unmix.result in
    let same_keys = length-set keys n x in
    let same_values = length-set values n e.1 in
    let below_keys = c.if-count-keys.false in
    let below_values = c.if-count-values.false in (
      done ++ e ∷ [],
      append_assoc done (e ∷ []) c.in-Some.tail.now ∙ ap (λ (l : List (ℕ × ℕ)). done ++ l) (sym first) ∙ all,
      omega (arith, longer, long),
      omega (arith, same_keys, below_keys),
      omega (arith, same_values, below_values),
      take_more_set keys n x below_keys ∙ ap (λ (l : List ℕ). l ++ x ∷ []) keys_are
          ∙ ap (λ (y : ℕ). map (λ (entry : ℕ × ℕ). unmixed c.args.seed entry.0) done ++ y ∷ []) c.unmix.ensures.value
          ∙ sym (map-append (λ (entry : ℕ × ℕ). unmixed c.args.seed entry.0) done (e ∷ [])),
      take_more_set values n e.1 below_values ∙ ap (λ (l : List ℕ). l ++ e.1 ∷ []) values_are
          ∙ sym (map-append (λ (entry : ℕ × ℕ). entry.1) done (e ∷ [])),
      stays_beyond n x keys c.args.keys.now keys_stay,
      stays_beyond n e.1 values c.args.values.now values_stay,
    )
