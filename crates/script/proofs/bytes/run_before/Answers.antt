use Rattle.std.proofs.Common.{eqb, w8, arith}
use Rattle.std.proofs.lemmas.Simd.{bitmask_splat, length-chunk}
use lib.Lanes.{chunk}
use Rattle.script.proofs.Places.{none_before, first_within, first_before, first_place}
use Rattle.script.proofs.bytes.run_before.Goals as goal

pub returns-then-found-eq0-clause-before : goal.returns-then-found-eq0-clause-before
returns-then-found-eq0-clause-before c =
    let text = c.args.text.now in
    let mask = bitmask_splat w8 eqb (chunk c.args.at 32 text) 32 c.args.byte (length-chunk c.args.at 32 text c.requires)
    (omega arith) in
    none_before text c.args.at c.args.byte _ c.requires mask c.if-found-eq0.true

pub returns-else-found-eq0-clause-within : goal.returns-else-found-eq0-clause-within
returns-else-found-eq0-clause-within c =
    let text = c.args.text.now in
    let mask = bitmask_splat w8 eqb (chunk c.args.at 32 text) 32 c.args.byte (length-chunk c.args.at 32 text c.requires)
    (omega arith) in
    first_within text c.args.at c.args.byte _ c.requires mask c.if-found-eq0.false

pub returns-else-found-eq0-clause-before : goal.returns-else-found-eq0-clause-before
returns-else-found-eq0-clause-before c =
    let text = c.args.text.now in
    let mask = bitmask_splat w8 eqb (chunk c.args.at 32 text) 32 c.args.byte (length-chunk c.args.at 32 text c.requires)
    (omega arith) in
    first_before text c.args.at c.args.byte _ c.requires mask c.if-found-eq0.false

pub returns-else-found-eq0-clause-place : goal.returns-else-found-eq0-clause-place
returns-else-found-eq0-clause-place c =
    let text = c.args.text.now in
    let mask = bitmask_splat w8 eqb (chunk c.args.at 32 text) 32 c.args.byte (length-chunk c.args.at 32 text c.requires)
    (omega arith) in
    first_place text c.args.at c.args.byte _ c.requires mask c.if-found-eq0.false
