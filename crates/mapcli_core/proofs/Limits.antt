-- A client of a lean map may make as many calls as a block of a script has.
use Rattle.std.proofs.Common.{ℕ, ◌≤◌, arith}
use Rattle.std.proofs.Math.Nat.{le-div_iff_mul-le}
use Rattle.bin_history.specs.Limits.{most_calls, most_lean_calls, most_recorded_calls}
use Rattle.bin_history.specs.declared.form.Form.TheVariants.{Lean}

pub blocks-fit : (clients : ℕ) → 1 ≤ clients → clients ≤ 65536 → most_recorded_calls ≤ most_calls Lean clients
blocks-fit clients some few =
    (le-div_iff_mul-le {k = clients} {x = most_recorded_calls} {y = most_lean_calls} some).1 (omega (arith, few))
