use Rattle.std.proofs.Common.{sym}
use Rattle.bin_entries.proofs.Entries.{remove-absent}
use Rattle.bin_history.proofs.update.update_new.Goals as goal

pub returns-in-Some-clause-updated : goal.returns-in-Some-clause-updated
returns-in-Some-clause-updated g c = (
  c.see-left.result.0,
  rw c.requires.absent c.see-left.ensures,
  rw c.in-Some.is c.add.ensures.entries,
)

pub returns-in-None-clause-updated : goal.returns-in-None-clause-updated
returns-in-None-clause-updated g c = (
  c.see-left.result.0,
  rw c.requires.absent c.see-left.ensures,
  rw c.in-None.is (sym (remove-absent g.K.PartialEq.eq c.args.entries.now.entries c.args.key c.requires.absent)),
)
