use Rattle.std.proofs.Common.{◌≡◌, ap, sym, subst, ◌∙◌}
use Rattle.hashkeys.specs.Classes.{covers}
use Rattle.bin_history.specs.Calls.{after}
use Rattle.count_ledger.specs.Agreement.{BinAgrees}
use Rattle.count_ledger.specs.Views.{RoleView}
use Rattle.chm.proofs.calls.view.ViewingAtKey.by_value.Goals as goal

pub returns-clause-done : goal.returns-clause-done
returns-clause-done g c =
    let key = g.Q.AsKey.stands_for c.args.self.query in
    let bin = c.args.bin.now in
    let on = ap (covers bin.class) (sym c.requires.hash) ∙ c.requires.covers in
    (c.observe_bin.ensures.seen, (c.get_as.result, c.get_as.ensures ∙ c.observe_bin.ensures.met.same_map key on, c.f-answer.ensures))

pub returns-clause-ledger : goal.returns-clause-ledger
returns-clause-ledger g c = ap (λ (r : RoleView _ _ _). r.ledger) c.observe_bin.ensures.same_role

pub returns-clause-agree : goal.returns-clause-agree
returns-clause-agree g c =
    subst (λ (r : RoleView _ _ _). BinAgrees g.K.PartialEq.eq (after g.V.PartialEq.eq g.F.Remap.remapped g.F.Remap.merged)
    c.args.bin.now r) (sym c.observe_bin.ensures.same_role) c.requires.agree
