use Rattle.bulk_tasks.proofs.Orders.{any_order}
use Rattle.bulk_tasks.proofs.reducing.any_order.Goals as goal

pub returns : goal.returns
returns g c = any_order (g.R.Reducer.lifted c.args.reducer.now) (g.R.Reducer.joined c.args.reducer.now)
    (g.met.R.Reducer.associative c.args.reducer.now) (g.met.R.Reducer.commutative c.args.reducer.now)
