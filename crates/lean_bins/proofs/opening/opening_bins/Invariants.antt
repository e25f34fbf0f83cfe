use Rattle.std.proofs.Common.{◌≡◌, ◌-◌, ◌≤◌, map, drop, vec_len, vec_capacity}
use Rattle.std.specs.List.{range_with_len}
use Rattle.std.specs.Vec.Iter.{into_iter_items, into_iter_len}
use Rattle.count_ledger.specs.Opening.{lists_of, new_role, new_roles}
use Rattle.count_ledger.specs.Views.{LedgerId}
use Rattle.bin_history.specs.Calls.{after}
use Rattle.bin_history.specs.declared.form.Form.TheVariants.{Lean}
use Rattle.lean_bins.specs.BinSlot.{AreOpening}
use Rattle.lean_bins.proofs.opening.opening_bins.Given as goal

abbrev pub invariant-loop-index : goal.invariant-loop-index
invariant-loop-index g l =
    record {
      roles : (ledger : LedgerId) → l.fn.roles.items ≡ new_roles ledger l.salt (lists_of l.fn.bases)
          → into_iter_items l.roles ≡ map (new_role ledger l.salt (lists_of l.fn.bases))
          (range_with_len l.index (l.n - l.index));
      roles_left : into_iter_len l.roles ≡ l.n - l.index;
      bases : into_iter_items l.bases ≡ drop l.index l.fn.bases.items;
      bases_left : into_iter_len l.bases ≡ l.n - l.index;
      places : (ledger : LedgerId) → l.fn.roles.items ≡ new_roles ledger l.salt (lists_of l.fn.bases)
          → AreOpening g.K.PartialEq.eq (after g.V.PartialEq.eq g.F.Remap.remapped g.F.Remap.merged)
          (record { ledger = ledger; form = Lean; salt = l.salt; n = l.n }) l.places.items;
      len : vec_len l.places ≡ l.index;
      room : l.n ≤ vec_capacity l.places;
    }
