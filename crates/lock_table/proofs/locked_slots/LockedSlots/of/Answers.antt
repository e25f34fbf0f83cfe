use Rattle.std.proofs.Common.{rules, refl, subst, ◌≡◌, ◌+◌, ◌*◌, ℕ, List, replicate, length}
use Rattle.atomic_table.specs.Table.{opening}
use Rattle.lock_table.specs.Places.{AreHome}
use Rattle.lock_table.proofs.Steps.{opens}
use Rattle.lock_table.proofs.locked_slots.LockedSlots.of.Goals as goal

pub new-requires : goal.new-requires
new-requires g c = let n : ℕ = 8 + length c.args.values.items * c.args.terms.stride in
    let same : replicate n c.args.word ≡ c.deref.result.now = search rules in
    subst (λ (ws : List ℕ). AreHome g.X.Fits.fits c.args.terms (opening ws c.args.values.items c.args.terms)) same
    (opens g.X.Fits.fits c.args.terms c.args.word n c.args.values.items refl c.requires.fits)
