use Rattle.std.proofs.Common.{◌≡◌, ℕ, ◌<◌, ◌≤◌, get_or, vec_len, vec_capacity}
use Rattle.boxcar.specs.Slot.{Named}
use Rattle.generations.specs.Generations.{IsSlotOf}
use Rattle.generations.proofs.tables.no_tables.Given as goal

abbrev pub invariant-loop-exponent : goal.invariant-loop-exponent
invariant-loop-exponent g l =
    record {
      slots : (e : ℕ) (d : Named) → e < l.exponent
          → IsSlotOf (record { ledger = l.fn.ledger; form = l.form; salt = l.salt; n = l.n }) e
          (get_or l.slots.items e d);
      len : vec_len l.slots ≡ l.exponent;
      room : 27 ≤ vec_capacity l.slots;
    }
