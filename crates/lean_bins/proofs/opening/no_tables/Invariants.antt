use Rattle.std.proofs.Common.{◌≡◌, ◌≤◌, vec_len, vec_capacity}
use Rattle.bin_history.specs.declared.form.Form.TheVariants.{Lean}
use Rattle.lean_bins.specs.Segments.{AreSlotsOfTables}
use Rattle.lean_bins.proofs.opening.no_tables.Given as goal

abbrev pub invariant-loop-exponent : goal.invariant-loop-exponent
invariant-loop-exponent g l = record {
  slots : AreSlotsOfTables (record { ledger = l.fn.ledger; form = Lean; salt = l.salt; n = l.n }) l.slots.items;
  len : vec_len l.slots ≡ l.exponent;
  room : 26 ≤ vec_capacity l.slots;
}
