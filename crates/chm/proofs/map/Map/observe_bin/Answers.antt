use Rattle.std.proofs.Common.{◌≡◌, ap, subst}
use Rattle.bin_history.specs.Calls.{after}
use Rattle.bin_history.proofs.Keys.{key_tells}
use Rattle.count_ledger.specs.Fronts.{HasSeen}
use Rattle.count_ledger.specs.Views.{LedgerView}
use Rattle.chm.specs.Histories.{IsMet}
use Rattle.chm.specs.Views.{MapView}
use Rattle.chm.proofs.Meeting.{IsMet-front}
use Rattle.chm.proofs.map.Map.observe_bin.Goals as goal

pub returns-clause-seen : goal.returns-clause-seen
returns-clause-seen g c =
    let own : c.self.inside.ledger ≡ c.args.self.now.ledger = ap (λ (m : MapView _ _). m.ledger) c.self.view_is in
    let L : LedgerView _ _ → Type 0 = λ l. HasSeen g.K.PartialEq.eq
    (after g.V.PartialEq.eq g.F.Remap.remapped g.F.Remap.merged) l c.args.pass.now c.meet.new.pass in
    subst L own c.meet.ensures.seen

pub returns-clause-met : goal.returns-clause-met
returns-clause-met g c =
    let own : c.self.inside.ledger ≡ c.args.self.now.ledger = ap (λ (m : MapView _ _). m.ledger) c.self.view_is in
    let L : LedgerView _ _ → Type 0 = λ l. IsMet g.K.PartialEq.eq g.K.HashKey.code l c.meet.new.pass.seen
    c.args.bin.now in
    subst L own
    (IsMet-front g.K.PartialEq.eq (key_tells g.met.K.Eq.laws g.met.K.HashKey.equal_is_same) g.K.HashKey.code _
    c.args.bin.now c.args.role.now c.requires.agree c.lawful.ensures.lawful c.lawful.ensures.replayed
    c.self.inside.ledger c.meet.ensures.of_role c.meet.new.pass.seen c.meet.ensures.kept)
