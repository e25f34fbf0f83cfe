use Rattle.std.proofs.Common.{length, ap, ◌∙◌, arith}
use Rattle.bin_history.specs.Lawful.{BinView}
use Rattle.bin_history.proofs.bin.Bin.pour.Goals as goal

-- the list has room for what the bin held
pub unreachable-requires : goal.unreachable-requires
unreachable-requires g c =
    let room = rw (← c.self.view_is, c.in-Recorded.is) at c.requires.room in
    let own = ap length (c.into_entries-own.ensures ∙ ap (λ (b : BinView _ _ _). b.entries) c.into_inner.ensures) in
    let held = rw c.in-Recorded.is at own in
    let len = c.into_entries-own.result.ok.0 in
    let full = c.in-Err.ensures.full in
    omega (arith, room, held, len, full)
