use Rattle.std.proofs.Common.{◌∷◌, []}
use Rattle.std.specs.Cmp.Lexicographic.{bytes_decides, nat_list_eq_equiv}
use Rattle.hashkeys.specs.Text.{code_of}
use Rattle.bin_history.proofs.Keys.{key_tells}
use Rattle.count_ledger.proofs.Agreements.{BinAgrees-gone_on, IsLegalStep-made}
use Rattle.test_bins.proofs.held.Held.post.Goals as goal

-- the call found what the role's records left at its key
pub post_trace-requires-clause-legal : goal.post_trace-requires-clause-legal
post_trace-requires-clause-legal c =
    IsLegalStep-made _ (key_tells nat_list_eq_equiv (λ x y e. (bytes_decides x y).0 e)) code_of _ _ _
    c.self.inside.bin c.self.inside.role c.in_ok-reply.trace
    c.self.invariant c.lawful.ensures.lawful c.lawful.ensures.replayed c.in_ok-reply.ensures.made

-- bin and role go on by the call's record
pub invariant_of-self-2 : goal.invariant_of-self-2
invariant_of-self-2 c =
    BinAgrees-gone_on _ (key_tells nat_list_eq_equiv (λ x y e. (bytes_decides x y).0 e)) code_of _
    c.self.inside.bin c.make_on.new.self c.self.inside.role c.post_trace.new.role
    (c.in_ok-reply.trace ∷ []) c.self.invariant c.make_on.ensures.class c.make_on.ensures.salt
    c.in_ok-reply.ensures.made.history c.post_trace.ensures.role
