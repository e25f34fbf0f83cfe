use Rattle.count_ledger.proofs.tokens.Pass.lawful.Goals as goal

pub returns : goal.returns
returns g c = rw (← c.self.view_is) c.self.invariant.own
