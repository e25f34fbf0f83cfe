use Rattle.bin_history.specs.Calls.{after}
use Rattle.caches.proofs.Seen.{seen_by_step}
use Rattle.caches.proofs.evicting.keys_of_next.Goals as goal
use Rattle.caches.specs.Caches.{no_value}
use Rattle.caches.specs.Entries.{same_entry}
use Rattle.chm.proofs.Visiting.{HasSeenMore-same, HasSeenMore-seen}

pub returns-clause-seen : goal.returns-clause-seen
returns-clause-seen g c =
    let old = c.args.client.now.pass in
    let new = c.show_next-was_left.new.self.pass in
    seen_by_step old new c.show_next-was_left.result
    (λ yes. HasSeenMore-seen g.K.PartialEq.eq (after (same_entry g.V.PartialEq.eq) no_value no_value)
    c.args.client.now.map.ledger old new (c.show_next-was_left.ensures.shown yes).1)
    (λ no. HasSeenMore-same old new (c.show_next-was_left.ensures.end no).1)
