use Rattle.std.proofs.Common.{arith, ◌∙◌, ap, sym}
use Rattle.transfer.proofs.Moves.{holds-claims}
use Rattle.transfer.proofs.strides.Strides.claim.Goals as goal

pub fetch_add-found-requires : goal.fetch_add-found-requires
fetch_add-found-requires g c =
    let own = rw (← c.mover.view_is, ← c.self.view_is) at c.requires in
    let made = c.self.invariant.0 in
    let few = rw (← made.told) at made.few in (
      ap (λ v. v.identity) own,
      (let two = made.words in omega arith),
      holds-claims c.self.inside.table.shared.key few _ _ _ (sym c.mover.invariant.0 ∙ c.if-mover.false),
    )
