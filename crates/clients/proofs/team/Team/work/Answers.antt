use Rattle.std.proofs.Common.{◌≡◌, List, All, drop, length, take, ◌++◌, sym, subst, ◌∙◌}
use Rattle.std.specs.List.{AllZip}
use Rattle.bin_history.specs.Calls.{after}
use Rattle.count_ledger.specs.Fronts.{BeginsWith, HasSeen}
use Rattle.count_ledger.specs.Views.{PassView}
use Rattle.clients.specs.Teams.{HaveMet, HaveWorkedTogether, IsTeam, TeamView}
use Rattle.clients.proofs.Passes.{as-many-seen, restored, team-met}
use Rattle.clients.proofs.team.Team.work.Goals as goal

pub invariant_of-self-2 : goal.invariant_of-self-2
invariant_of-self-2 g c =
    let its_after = after g.V.PartialEq.eq g.F.Remap.remapped g.F.Remap.merged in
    let map = c.self.inside.map in
    let worked = c.share.new.passes.items in
    let met = c.learn_all.new.passes in
    let whole = restored met (drop (length met) worked) c.share.new.passes.len
    (as-many-seen g.K.PartialEq.eq its_after map.ledger c.deref_mut.result.now met c.learn_all.ensures.seen
    ∙ c.deref_mut.ensures.len) in
    let seen = subst (λ (ps : List (PassView _ _ _)). AllZip (HasSeen g.K.PartialEq.eq its_after map.ledger) ps met)
    c.deref_mut.ensures.value c.learn_all.ensures.seen in
    subst (λ (ps : List (PassView _ _ _)). IsTeam map ps) (sym whole)
    (team-met g.K.PartialEq.eq its_after map c.self.inside.passes.items worked met c.self.invariant c.share.ensures.own
    c.share.ensures.len c.share.ensures.clients seen)

pub returns-clause-own : goal.returns-clause-own
returns-clause-own g c = (invariant_of-self-2 g c).own

pub returns-clause-done : goal.returns-clause-done
returns-clause-done g c =
    let its_after = after g.V.PartialEq.eq g.F.Remap.remapped g.F.Remap.merged in
    let map = c.self.inside.map in
    let worked = c.share.new.passes.items in
    let met = c.learn_all.new.passes in
    let (joined, joins, learned) = c.learn_all.ensures.learned in
    let rest = drop (length met) worked in
    let whole = restored met rest c.share.new.passes.len
    (as-many-seen g.K.PartialEq.eq its_after map.ledger c.deref_mut.result.now met c.learn_all.ensures.seen
    ∙ c.deref_mut.ensures.len) in
    let have : HaveMet g.K.PartialEq.eq its_after map.ledger worked met joined = record {
      joins = subst (λ (ps : List (PassView _ _ _)). All (λ p. BeginsWith joined p.seen) ps) c.deref_mut.ensures.value joins;
      seen = subst (λ (ps : List (PassView _ _ _)). AllZip (HasSeen g.K.PartialEq.eq its_after map.ledger) ps met)
          c.deref_mut.ensures.value c.learn_all.ensures.seen;
      learned = learned;
    } in
    subst (λ (t : TeamView _ _ _). HaveWorkedTogether g.K.PartialEq.eq its_after (g.W.Work.does c.args.work.now)
    t.map.ledger t.passes (take c.share.new.passes.len (met ++ rest)) c.in_ok-answers.answers.items) c.self.view_is (
      worked,
      joined,
      c.in_ok-answers.ensures.done,
      subst (λ (ps : List (PassView _ _ _)). HaveMet g.K.PartialEq.eq its_after map.ledger worked ps joined) (sym whole) have,
    )
