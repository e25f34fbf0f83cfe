use Rattle.bin_history.proofs.Keys.{key_tells}
use Rattle.bin_history.proofs.Made.{IsMadeOn-applied}
use Rattle.bin_history.proofs.recorded.RecordedBin.make_on.Goals as goal

pub returns-clause-made : goal.returns-clause-made
returns-clause-made g c =
    let tells = key_tells g.met.K.Eq.laws g.met.K.HashKey.equal_is_same in
    IsMadeOn-applied g.K.PartialEq.eq tells g.K.HashKey.code g.V.PartialEq.eq g.F.Remap.remapped g.F.Remap.merged
    c.args.client c.args.ordinal _
    c.args.self.now c.prepare_on.new.self c.apply.new.self c.in_ok-ready.ready c.apply.result.0 c.apply.result.1
    c.lawful.ensures.lawful.base_distinct c.lawful.ensures.lawful.legal c.in_ok-ready.ensures.ok
    c.prepare_on.ensures.entries
    c.in_ok-ready.ensures.ready.worked_out c.in_ok-ready.ensures.call c.apply.ensures.trace c.apply.ensures.reply
    c.apply.ensures.entries
    c.apply.ensures.history
