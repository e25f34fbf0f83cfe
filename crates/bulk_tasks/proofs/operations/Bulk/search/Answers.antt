use Rattle.std.proofs.Common.{List, IfOk, subst}
use Rattle.chm.specs.Headline.{entries_of}
use Rattle.bulk_tasks.specs.Searches.{IsSearched}
use Rattle.bulk_tasks.proofs.operations.Bulk.search.Goals as goal

pub returns-clause-found : goal.returns-clause-found
returns-clause-found g c =
    subst (λ (bins : List _). IfOk c.search_alone.result
    (IsSearched (g.P.Probe.probed c.args.probe.now) (entries_of bins))) c.bins.ensures
    c.search_alone.ensures.found
