use Rattle.bulk_tasks.proofs.Orders.{any_order}
use Rattle.live_bulk.proofs.folding.any_order.Goals as goal

pub returns : goal.returns
returns g c = any_order (g.T.Reducer.lifted c.args.reducer.now) (g.T.Reducer.joined c.args.reducer.now)
    (g.met.T.Reducer.associative c.args.reducer.now) (g.met.T.Reducer.commutative c.args.reducer.now)
