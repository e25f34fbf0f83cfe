use Rattle.std.proofs.Common.{◌≡◌, ℕ, length, get_or, set, ap, sym, ◌∙◌, rules}
use Rattle.std.proofs.lemmas.List.Sums.{sum_by_push}
use Rattle.clients.specs.Stats.{capped}
use Rattle.clients.proofs.Lengths.{buckets-more, capped-add, capped-max, capped-place, each-more, greatest-push}
use Rattle.clients.proofs.stats.with_bucket.Goals as goal

pub returns : goal.returns
returns c = λ lengths whole is len_is. record {
  buckets = c.saturating_add-2.ensures ∙ buckets-more lengths whole c.args.stats.buckets is.buckets;
  entries = c.saturating_add-3.ensures ∙ capped-add c.args.stats.entries c.args.len _ whole is.entries len_is
      ∙ ap capped (sym (sum_by_push (λ n. n) lengths whole));
  longest = c.max.ensures ∙ capped-max c.args.stats.longest c.args.len _ whole is.longest len_is
      ∙ ap capped (sym (greatest-push lengths whole));
  each = λ k small.
      let place : c.min-place.result ≡ _ = c.min-place.ensures ∙ capped-place c.args.len whole len_is in
      let nine : length c.args.stats.lengths ≡ 9 = search rules in
      ap (λ (x : ℕ). get_or (set c.args.stats.lengths c.min-place.result x) k 0) c.saturating_add.ensures
      ∙ each-more c.args.stats.lengths lengths whole c.min-place.result place nine is.each k small;
}
