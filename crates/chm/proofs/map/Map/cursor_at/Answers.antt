use Rattle.std.proofs.Common.{◌≡◌, ◌-◌, ◌/◌, ◌≤◌, ◌^◌, ℕ, inr, ◌∙◌, arith}
use Rattle.hashkeys.specs.Limits.{most_bins, most_exponent}
use Rattle.lean_bins.proofs.SlotRefs.{shifted}
use Rattle.chm.proofs.Stepping.{HasCome-on, exponent-at}
use Rattle.chm.proofs.map.Map.cursor_at.Goals as goal

pub at_hash-requires-2-clause-size : goal.at_hash-requires-2-clause-size
at_hash-requires-2-clause-size g c =
    let e = c.args.number / c.from-2.result - 1 in
    let few : e ≤ most_exponent = rw c.from-2.ensures (omega (arith, c.requires)) in
    (e, few, shifted e few)

pub returns-clause-table : goal.returns-clause-table
returns-clause-table g c =
    let e : ℕ = c.args.number / most_bins - 1 in
    let (few, table) = exponent-at c.args.number c.from-2.result c.from-2.ensures c.requires
    (omega (arith, c.if-table-eq0.false)) in
    (e, few, (rw c.from-2.ensures at c.at_hash-2.ensures.n) ∙ shifted e few, inr table)

pub returns-clause-come : goal.returns-clause-come
returns-clause-come g c shown come =
    let e : ℕ = c.args.number / most_bins - 1 in
    let (few, table) = exponent-at c.args.number c.from-2.result c.from-2.ensures c.requires
    (omega (arith, c.if-table-eq0.false)) in
    let n_is : c.at_hash-2.result.n ≡ 2 ^ e = (rw c.from-2.ensures at c.at_hash-2.ensures.n) ∙ shifted e few in
    HasCome-on c.at_hash-2.result.n c.args.number e shown c.at_hash-2.result.next c.requires table n_is
    (rw c.from.ensures at c.at_hash-2.ensures.next) come
