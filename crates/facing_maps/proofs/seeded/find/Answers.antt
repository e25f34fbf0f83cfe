use Rattle.std.proofs.Common.{◌≡◌, ◌≤◌, length, Ok, sym, subst, arith}
use Rattle.facing_maps.specs.Calls.{IsFound}
use Rattle.facing_maps.specs.Keys.{Key, same_key, IsTooLong}
use Rattle.facing_maps.proofs.Asked.{key-is}
use Rattle.facing_maps.proofs.seeded.find.Goals as goal

pub returns-else-key-gt-MOST_BYTES : goal.returns-else-key-gt-MOST_BYTES
returns-else-key-gt-MOST_BYTES g c =
    let found : IsFound same_key (length c.args.key.now ≤ 65536) (IsTooLong (length c.args.key.now)) c.args.stage.now
    (record { code = c.query.result.code; bytes = c.query.result.bytes.now }) (Ok c.get_as.result) =
    subst (λ s. IsFound same_key (length c.args.key.now ≤ 65536) (IsTooLong (length c.args.key.now)) s
    (record { code = c.query.result.code; bytes = c.query.result.bytes.now }) (Ok c.get_as.result))
    (sym c.in-Closed.is) (omega (arith, c.if-key-gt-MOST_BYTES.false), c.get_as.ensures) in
    subst (λ (k : Key). IsFound same_key (length c.args.key.now ≤ 65536) (IsTooLong (length c.args.key.now)) c.args.stage.now k
    (Ok c.get_as.result)) (key-is _ _ c.args.keys.now c.args.key.now c.query.ensures.code c.query.ensures.bytes) found
