use Rattle.std.proofs.Common.{sym}
use Rattle.bin_history.proofs.Keys.{key_tells}
use Rattle.bin_history.proofs.Changes.{lookup_at, lookup_absent}
use Rattle.bin_history.proofs.change.value_at.Goals as goal

pub returns-in-Some : goal.returns-in-Some
returns-in-Some g c =
    let tells = key_tells g.met.K.Eq.laws g.met.K.HashKey.equal_is_same in
    let found = rw c.in-Some.is at c.requires in
    let read = lookup_at g.K.PartialEq.eq tells c.args.entries.now c.args.key.now c.in-Some.i c.index-entries-i.result
    found.1 found.0 in
    cc (read, c.index-entries-i.is)

pub returns-in-None : goal.returns-in-None
returns-in-None g c =
    let tells = key_tells g.met.K.Eq.laws g.met.K.HashKey.equal_is_same in
    let found = rw c.in-None.is at c.requires in
    sym (lookup_absent g.K.PartialEq.eq tells c.args.entries.now c.args.key.now found)
