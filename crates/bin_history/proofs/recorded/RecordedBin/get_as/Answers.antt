use Rattle.std.proofs.Common.{ap}
use Rattle.bin_history.specs.Lawful.{BinView}
use Rattle.bin_history.proofs.Keys.{key_tells}
use Rattle.bin_history.proofs.Changes.{lookup_at, lookup_absent}
use Rattle.bin_history.proofs.recorded.RecordedBin.get_as.Goals as goal

pub returns-in-Some : goal.returns-in-Some
returns-in-Some g c =
    let tells = key_tells g.met.K.Eq.laws g.met.K.HashKey.equal_is_same in
    let found = c.in-Some.ensures in
    let same = ap (λ (b : BinView _ _ _). b.entries) c.self.view_is in
    let read = lookup_at g.K.PartialEq.eq tells c.deref.result.now (g.Q.AsKey.stands_for c.args.query) c.in-Some.i c.index.result.now
    found.1 found.0 in
    cc (read, c.index.ensures, c.deref.ensures.value, same)

pub returns-in-None : goal.returns-in-None
returns-in-None g c =
    let tells = key_tells g.met.K.Eq.laws g.met.K.HashKey.equal_is_same in
    let same = ap (λ (b : BinView _ _ _). b.entries) c.self.view_is in
    let absent = lookup_absent g.K.PartialEq.eq tells c.deref.result.now (g.Q.AsKey.stands_for c.args.query) c.in-None.ensures in
    cc (absent, c.deref.ensures.value, same)
