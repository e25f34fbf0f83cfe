use Rattle.std.proofs.Common.{sym, refl}
use Rattle.bin_history.specs.Ops.{key_in}
use Rattle.bin_entries.proofs.Entries.{store_same}
use Rattle.bin_history.proofs.lean_calls.carry_out.Goals as goal

pub returns-in-Keep-clause-entries : goal.returns-in-Keep-clause-entries
returns-in-Keep-clause-entries g c =
    rw c.in-Keep.is (sym (store_same g.K.PartialEq.eq c.args.entries.now.entries (key_in c.args.key) _ refl))
