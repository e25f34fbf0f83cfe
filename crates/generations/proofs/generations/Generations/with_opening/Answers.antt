use Rattle.std.proofs.Common.{◌≡◌, ℕ, length, subst, arith}
use Rattle.bin_layout.proofs.Sizes.{size_few}
use Rattle.generations.specs.Generations.{AreSlots}
use Rattle.generations.proofs.generations.Generations.with_opening.Goals as goal

pub invariant_of-result : goal.invariant_of-result
invariant_of-result g c =
    let many : c.len.result ≡ length c.args.opening.items = omega (arith, c.len.ensures, c.args.opening.ok.0) in
    record {
      opening_is = c.requires.opening;
      slots_are =
          subst (λ (n : ℕ). AreSlots (record { ledger = c.args.ledger; form = c.args.form; salt = c.args.salt; n = n })
          c.in_ok-tables.tables.items)
          many c.in_ok-tables.ensures;
    }

pub overflow_cast-len : goal.overflow_cast-len
overflow_cast-len g c =
    omega (arith, size_few _ c.requires.opening.size, c.len.ensures)
