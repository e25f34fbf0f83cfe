use Rattle.std.proofs.Common.{IfOk, sym, subst}
use Rattle.std.proofs.lemmas.Result.{IfOk-weaker}
use Rattle.bin_history.specs.declared.form.Form.{Form}
use Rattle.bin_history.specs.Limits.{most_clients}
use Rattle.chm.specs.Opened.{IsLimited, IsNew}
use Rattle.chm.specs.Refusals.{IsCapacityOf}
use Rattle.test_maps.proofs.samples.open_salted.Goals as goal

pub returns-in-Recorded-clause-limits : goal.returns-in-Recorded-clause-limits
returns-in-Recorded-clause-limits g c =
    subst (λ (form : Form). IsLimited (IsCapacityOf form c.args.capacity) (most_clients form) c.args.clients c.with_salt.result)
    (sym c.in-Recorded.is) c.with_salt.ensures.limits

pub returns-in-Recorded-clause-own : goal.returns-in-Recorded-clause-own
returns-in-Recorded-clause-own g c = IfOk-weaker c.with_salt.result _ _ (λ r new. new.own) c.with_salt.ensures.new

pub returns-in-Lean-clause-new : goal.returns-in-Lean-clause-new
returns-in-Lean-clause-new g c =
    subst (λ (form : Form). IfOk c.lean.result (λ r. IsNew {K = g.row.K.Denot} {V = g.row.V.Denot}
    {F = g.row.F.Denot} form c.args.salt c.args.capacity c.args.clients r.0 r.1.items))
    (sym c.in-Lean.is) c.lean.ensures.new

pub returns-in-Lean-clause-limits : goal.returns-in-Lean-clause-limits
returns-in-Lean-clause-limits g c =
    subst (λ (form : Form). IsLimited (IsCapacityOf form c.args.capacity) (most_clients form) c.args.clients c.lean.result)
    (sym c.in-Lean.is) c.lean.ensures.limits

pub returns-in-Lean-clause-own : goal.returns-in-Lean-clause-own
returns-in-Lean-clause-own g c = IfOk-weaker c.lean.result _ _ (λ r new. new.own) c.lean.ensures.new
