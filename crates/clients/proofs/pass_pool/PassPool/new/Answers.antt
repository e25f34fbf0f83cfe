use Rattle.std.proofs.Common.{◌≡◌, ℕ, List, ◌∷◌, ap, subst, ◌∙◌}
use Rattle.clients.specs.PassPools.{AreRows}
use Rattle.clients.proofs.pass_pool.PassPool.new.Goals as goal

pub invariant_of-result : goal.invariant_of-result
invariant_of-result g c = record {
  roster_of =
      c.new-place.ensures
      ∙ c.with_number.ensures
      ∙ ap (λ (n : ℕ). n ∷ c.of-tag.result.numbers) c.clients.ensures.value
      ∙ ap (λ (ns : List ℕ). c.args.map.ledger.clients ∷ ns) c.of-tag.ensures;
  rows_of = subst (λ (ns : List ℕ). AreRows ns c.in_ok-rows.rows.items) c.of-tag.ensures c.in_ok-rows.ensures;
}
