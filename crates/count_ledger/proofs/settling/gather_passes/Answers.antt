use Rattle.std.proofs.Common.{◌≡◌, Some}
use Rattle.std.proofs.lemmas.List.Elements.{All-pop}
use Rattle.count_ledger.specs.Tokens.{pass_book}
use Rattle.count_ledger.specs.Views.{PassView}
use Rattle.count_ledger.proofs.Gathering.{AreGathered-more}
use Rattle.count_ledger.proofs.settling.gather_passes.Goals as goal

pub loop-pass-preserved : goal.loop-pass-preserved
loop-pass-preserved g c = record {
  table = c.gather.ensures.table;
  own = (All-pop (λ (x : PassView g.row.K.Denot g.row.V.Denot g.row.F.Denot). x.ledger ≡ c.args.shared.now.table_id) _ _
      (Some c.in-Some.pass) c.in-Some.ensures.items c.loop-pass.invariant.own).0;
  done = AreGathered-more pass_book _ _ _ _ c.in-Some.pass _ _ _ c.loop-pass.invariant.done c.in-Some.ensures.items
      c.into_seat.ensures.book
      c.gather.ensures.view;
}
