use Rattle.std.proofs.Common.{option_copied, IfSome, subst, arith}
use Rattle.chm.specs.Updates.{IsUpdate}
use Rattle.facing_maps.specs.Keys.{Key, same_key}
use Rattle.facing_maps.proofs.changing.try_change_at.Goals as goal

pub returns-in-Ok-clause-tried : goal.returns-in-Ok-clause-tried
returns-in-Ok-clause-tried g c = record {
  updated = subst (λ (k : Key). IfSome c.try_change_with-tried.result (IsUpdate same_key g.V.PartialEq.eq g.F.Remap.remapped
      g.F.Remap.merged (λ shown made. g.C.Changing.changes c.args.changing (option_copied shown) made) c.args.client.now.map.ledger k
      c.args.client.now.pass c.try_change_with-tried.new.client.pass)) c.in-Ok.ensures.key c.try_change_with-tried.ensures.updated;
  busy = c.try_change_with-tried.ensures.busy;
  allowed = omega (arith, c.if-key-gt-MOST_BYTES.false);
  same = tt;
  refused = tt;
}
