use Rattle.std.specs.Cmp.Lexicographic.{bytes_decides, nat_list_eq_equiv}
use Rattle.hashkeys.specs.Classes.{low_half, high_half}
use Rattle.hashkeys.specs.Text.{code_of}
use Rattle.bin_history.proofs.Keys.{key_tells}
use Rattle.count_ledger.proofs.Agreements.{BinAgrees-divided}
use Rattle.test_bins.proofs.held.Held.divide.Goals as goal

pub invariant_of-low : goal.invariant_of-low
invariant_of-low g c =
    BinAgrees-divided _ (key_tells nat_list_eq_equiv (λ x y e. (bytes_decides x y).0 e)) code_of _
    c.self.inside.bin c.in-Ok.low_bin c.self.inside.role c.divide-low_role.result.0 low_half c.self.invariant
    c.in-Ok.ensures.low_class c.in-Ok.ensures.low c.divide-low_role.ensures.low

pub invariant_of-high : goal.invariant_of-high
invariant_of-high g c =
    BinAgrees-divided _ (key_tells nat_list_eq_equiv (λ x y e. (bytes_decides x y).0 e)) code_of _
    c.self.inside.bin c.in-Ok.high_bin c.self.inside.role c.divide-low_role.result.1 high_half c.self.invariant
    c.in-Ok.ensures.high_class c.in-Ok.ensures.high c.divide-low_role.ensures.high
