use Rattle.std.proofs.Common.{rules, subst, arith, ◌≡◌, ◌∙◌, sym}
use Rattle.lock_table.proofs.Steps.{gives_it, one_taken, some_taken}
use Rattle.lock_table.proofs.held.SlotGuard.release.Goals as goal

pub store-requires : goal.store-requires
store-requires g c = let t = one_taken _ _ c.args.self.holds in (
  search rules,
  search rules,
  gives_it g.X.Fits.fits _ _ _ _ c.args.self.at _ _ t.0 _ t.1 c.args.self.worded (search rules)
      (λ kind is. let same : c.args.kind ≡ kind = sym c.from.ensures ∙ omega (arith, is) in
      subst (λ k. g.X.Fits.fits c.args.self.rows.now.table.shared.key.tag c.args.self.at k t.0) same (some_taken _ _ _ t.0 t.1 c.requires)),
)
