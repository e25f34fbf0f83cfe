use Rattle.std.proofs.Common.{Some, ap, sym, ◌∙◌}
use Rattle.bin_history.proofs.Changes.{set-assign, value_in-at}
use Rattle.bin_history.proofs.change.Change.carry_out.Goals as goal

pub returns-in-Assign-clause-items : goal.returns-in-Assign-clause-items
returns-in-Assign-clause-items g c =
    let there = rw c.in-Assign.is at c.requires.index in
    rw (c.replace.ensures.after, c.in-Assign.is)
    (set-assign c.args.entries.now.items c.in-Assign.i c.in-Assign.value c.index_mut.result.now there
    c.index_mut.ensures.value)

pub returns-in-Assign-clause-taken : goal.returns-in-Assign-clause-taken
returns-in-Assign-clause-taken g c =
    let there = rw c.in-Assign.is at c.requires.index in
    rw c.in-Assign.is (ap Some c.replace.ensures.value
    ∙ sym (value_in-at c.args.entries.now.items c.in-Assign.i c.index_mut.result.now there c.index_mut.ensures.value))

pub returns-in-Take-clause-taken : goal.returns-in-Take-clause-taken
returns-in-Take-clause-taken g c =
    let there = rw c.in-Take.is at c.requires.index in
    rw c.in-Take.is
    (sym (value_in-at c.args.entries.now.items c.in-Take.i c.remove-key.result there c.remove-key.ensures.value))
