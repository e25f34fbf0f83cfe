use Rattle.bin_history.proofs.lean.LeanBin.lawful.Goals as goal

pub returns : goal.returns
returns g c = rw (← c.self.view_is) c.lawful_entries.ensures
