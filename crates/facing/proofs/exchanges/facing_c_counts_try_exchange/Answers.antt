use Rattle.std.proofs.Common.{rules}
use Rattle.facing.proofs.exchanges.facing_c_counts_try_exchange.Goals as goal
use Rattle.facing.proofs.exchanges.facing_c_counts_try_exchange.Goals.{in-Some, in-None}

pub returns-clause-told : goal.returns-clause-told
returns-clause-told c = elim c.match-into_box.branch [
  | in-Some w ↦
      let changed = rw (c.exchange_of-exchange.ensures, w.as_mut-target.ensures.value, w.in-Some.ensures.1)
      at w.try_count-asked.ensures in
      λ filled. (
        c.answered-tried.result,
        rw (c.answered-tried.ensures, w.answered-is, w.out-is, w.of.ensures.target, w.as_mut-target.ensures.writes_back) changed,
        c.tell_exchanged.ensures.status,
        c.tell_exchanged.ensures.answer,
      )
  | in-None w ↦ search rules
]
