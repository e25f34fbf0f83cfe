use Rattle.std.proofs.Common.{rules, arith, ◌∙◌, ◌∷◌, sym, ap}
use Rattle.atomic_table.specs.Table.{rest}
use Rattle.lock_table.proofs.Steps.{gives_it, one_taken}
use Rattle.lock_table.proofs.held.SlotGuard.take.Goals as goal

pub exchange-taken-requires : goal.exchange-taken-requires
exchange-taken-requires g c = let t = one_taken _ _ c.args.self.holds in (search rules, (t.0, t.1 ∙ ap (λ l. (c.args.self.at, t.0) ∷ rest l) (sym t.1)))

pub store-requires : goal.store-requires
store-requires g c = (
  search rules,
  search rules,
  gives_it g.X.Fits.fits _ _ _ _ c.args.self.at _ _ c.args.blank _ (ap (λ m. m.1) c.exchange-taken.ensures.3)
      c.args.self.worded (search rules) (λ kind is. absurd (omega (arith, is))),
)
