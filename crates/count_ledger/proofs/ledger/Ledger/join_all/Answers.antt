use Rattle.std.proofs.Common.{◌+◌, sym, ap, arith}
use Rattle.std.proofs.lemmas.List.FromFn.{map-range_with_len_more}
use Rattle.count_ledger.specs.Opening.{new_pass}
use Rattle.count_ledger.proofs.ledger.Ledger.join_all.Goals as goal

pub loop-client-preserved : goal.loop-client-preserved
loop-client-preserved g c = record {
  passes = rw (
    c.push_reserved.ensures.items,
    c.loop-client.invariant.passes,
    c.in-Some.ensures.pass,
    c.loop-client.invariant.roster,
  ) (sym (map-range_with_len_more (new_pass c.args.self.now.id) 0 c.loop-client._client c.loop-client._client
      (omega arith)));
  room = rw c.push_reserved.ensures.capacity c.loop-client.invariant.room;
  len = rw c.push_reserved.ensures.len (ap (λ n. n + 1) c.loop-client.invariant.len);
  roster = rw c.loop-client.invariant.roster at c.in-Some.ensures.next;
}
