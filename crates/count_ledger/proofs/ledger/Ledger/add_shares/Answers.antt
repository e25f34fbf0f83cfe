use Rattle.std.proofs.Common.{◌≡◌, ◌+◌, ◌<◌, ◌%◌, ◌^◌, length, set, get_or, take, sym, ap, ◌∙◌}
use Rattle.std.proofs.lemmas.List.{set-get_or}
use Rattle.std.proofs.lemmas.List.Elements.{All-more}
use Rattle.bin_history.specs.Deltas.{sum_of_deltas}
use Rattle.count_ledger.specs.Books.{IsPassOf}
use Rattle.count_ledger.specs.Words.{word_of, total_made}
use Rattle.count_ledger.proofs.WordSums.{word_of-add, total_of_more}
use Rattle.count_ledger.proofs.ledger.Ledger.add_shares.Goals as goal

pub loop-i-preserved : goal.loop-i-preserved
loop-i-preserved g c =
    let xs = c.loop-i.passes in
    let i = c.loop-i.i in
    let d = c.index-passes-i.result in
    let there : i < length xs = rw c.loop-i.auto.passes c.loop-i-test.true in
    let kept : set xs i c.share-total.new.pass ≡ xs = ap (set xs i) c.share-total.ensures.same ∙ set-get_or xs i d in
    record {
      total = rw kept (
          ap (λ n. (n + c.share-total.result) % 2 ^ 64) c.loop-i.invariant.total
          ∙ ap (λ n. (word_of (total_made (take i xs)) + n) % 2 ^ 64) c.share-total.ensures.sum
          ∙ sym (word_of-add (total_made (take i xs)) (sum_of_deltas (get_or xs i d).made))
          ∙ ap word_of (sym (total_of_more (λ p. sum_of_deltas p.made) xs i d there))
          );
      sound = rw kept
          (All-more (IsPassOf c.args.self.now) xs i d there c.loop-i.invariant.sound c.share-total.ensures.of_pass);
      same = kept ∙ c.loop-i.invariant.same;
    }
