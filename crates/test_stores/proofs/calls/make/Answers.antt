use Rattle.std.proofs.Common.{◌∷◌, [], arith}
use Rattle.bin_history.specs.Calls.{after}
use Rattle.bin_history.proofs.Keys.{key_tells}
use Rattle.count_ledger.proofs.Agreements.{BinAgrees-gone_on, IsLegalStep-made}
use Rattle.test_stores.proofs.calls.make.Goals as goal

pub make_on-requires-clause-ordinal : goal.make_on-requires-clause-ordinal
make_on-requires-clause-ordinal g c = λ form. omega (arith, c.requires.short, c.made-ordinal.ensures)

-- the call found what the role's records left at its key
pub post_trace-requires-clause-legal : goal.post_trace-requires-clause-legal
post_trace-requires-clause-legal g c =
    IsLegalStep-made g.K.PartialEq.eq (key_tells g.met.K.Eq.laws g.met.K.HashKey.equal_is_same) g.K.HashKey.code
    g.V.PartialEq.eq g.F.Remap.remapped g.F.Remap.merged c.args.bin.now c.args.role.now c.in_ok-trace.trace
    c.requires.agree c.lawful.ensures.lawful c.lawful.ensures.replayed c.in_ok-trace.ensures.made

-- bin and role go on by the call's record
pub returns-clause-agree : goal.returns-clause-agree
returns-clause-agree g c =
    BinAgrees-gone_on g.K.PartialEq.eq (key_tells g.met.K.Eq.laws g.met.K.HashKey.equal_is_same) g.K.HashKey.code
    (after g.V.PartialEq.eq g.F.Remap.remapped g.F.Remap.merged) c.args.bin.now c.make_on.new.self
    c.args.role.now c.post_trace.new.role
    (c.in_ok-trace.trace ∷ []) c.requires.agree c.make_on.ensures.class c.make_on.ensures.salt
    c.in_ok-trace.ensures.made.history c.post_trace.ensures.role
