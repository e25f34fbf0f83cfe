use Rattle.bin_history.proofs.Keys.{key_tells}
use Rattle.std.proofs.Common.{arith}
use Rattle.bin_history.specs.Calls.{key_of}
use Rattle.bin_history.proofs.Changes.{entries_after-to, Fits-birth}
use Rattle.bin_history.proofs.fold.store_record.Goals as goal

pub returns-clause-items : goal.returns-clause-items
returns-clause-items g c =
    let tells = key_tells g.met.K.Eq.laws g.met.K.HashKey.equal_is_same in
    let of = c.into_call-call.ensures in
    let found = rw (c.deref.ensures.value, c.into_key-key.ensures, of.call) at c.find-found.ensures in
    rw (c.carry_out.ensures.items, c.to.ensures, c.into_key-key.ensures, of.call, of.after)
    (entries_after-to g.K.PartialEq.eq tells _ _ _ c.args.entry.after found)

pub carry_out-requires-clause-room : goal.carry_out-requires-clause-room
carry_out-requires-clause-room g c =
    let tells = key_tells g.met.K.Eq.laws g.met.K.HashKey.equal_is_same in
    let of = c.into_call-call.ensures in
    let found = rw (c.deref.ensures.value, c.into_key-key.ensures, of.call) at c.find-found.ensures in
    rw (c.to.ensures, c.into_key-key.ensures, of.call, of.after)
    (Fits-birth g.K.PartialEq.eq tells c.args.base.now.items (key_of c.args.entry.call) _ c.args.entry.after _ found
    (λ birth. let room = c.requires.room birth in omega arith))
