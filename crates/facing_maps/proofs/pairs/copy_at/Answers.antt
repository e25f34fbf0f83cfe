use Rattle.std.proofs.Common.{◌+◌, ◌-◌, length, arith}
use Rattle.std.proofs.lemmas.Slice.{drop-put_mid}
use Rattle.facing_maps.proofs.pairs.copy_at.Goals as goal

pub returns-clause-rest : goal.returns-clause-rest
returns-clause-rest c =
    drop-put_mid c.args.at (c.args.at + length c.args.bytes.now - c.args.at) c.args.room.now _
    (c.args.at + length c.args.bytes.now) (omega arith) (omega (arith, c.requires)) (omega (arith, c.copy_from_slice.ensures.len))
