use Rattle.std.proofs.Common.{◌≡◌, Some}
use Rattle.std.proofs.lemmas.List.Elements.{All-pop}
use Rattle.count_ledger.specs.Tokens.{role_book}
use Rattle.count_ledger.specs.Views.{RoleView}
use Rattle.count_ledger.proofs.Gathering.{AreGathered-more}
use Rattle.count_ledger.proofs.settling.gather_roles.Goals as goal

pub loop-role-preserved : goal.loop-role-preserved
loop-role-preserved g c = record {
  table = c.gather.ensures.table;
  own = (All-pop (λ (x : RoleView g.row.K.Denot g.row.V.Denot g.row.F.Denot). x.ledger ≡ c.args.shared.now.table_id) _ _
      (Some c.in-Some.role) c.in-Some.ensures.items c.loop-role.invariant.own).0;
  done = AreGathered-more role_book _ _ _ _ c.in-Some.role _ _ _ c.loop-role.invariant.done c.in-Some.ensures.items
      c.into_seat.ensures.book
      c.gather.ensures.view;
}
