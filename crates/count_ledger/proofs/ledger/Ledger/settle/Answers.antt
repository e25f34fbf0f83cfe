use Rattle.std.proofs.Common.{◌≡◌, ◌++◌, ℕ, List, length, take, drop, ap, ◌∙◌, arith}
use Rattle.std.proofs.lemmas.List.{drop_all, take_all, append-nil}
use Rattle.count_ledger.proofs.Covering.{CoverAll-once}
use Rattle.count_ledger.specs.Books.{classes_of_roles}
use Rattle.count_ledger.proofs.ledger.Ledger.settle.Goals as goal

-- a vector after its slice was handed out and came back as it was
as_before : {X : Type 0} (xs ys : List X) (n : ℕ) → n ≡ length xs → ys ≡ xs → take n (ys ++ drop (length ys) xs) ≡ xs
as_before xs ys n len same =
    ap (λ zs. take n (zs ++ drop (length zs) xs)) same
    ∙ ap (λ zs. take n (xs ++ zs)) (drop_all (length xs) xs (omega arith))
    ∙ ap (take n) (append-nil xs)
    ∙ take_all n xs (omega arith)

pub gather_all-requires-clause-passes : goal.gather_all-requires-clause-passes
gather_all-requires-clause-passes g c =
    rw (as_before c.args.passes.items c.add_shares-total.new.passes c.args.passes.len c.args.passes.ok.0
    (c.add_shares-total.ensures.same ∙ c.as_mut_slice.ensures.value))
    (rw (← c.self.view_is) at c.requires.passes)

pub returns-clause-cover : goal.returns-clause-cover
returns-clause-cover g c = CoverAll-once (classes_of_roles c.args.roles.items) c.gather_all.ensures.each_hash

pub returns-then-not-has_all-clause-refused : goal.returns-then-not-has_all-clause-refused
returns-then-not-has_all-clause-refused g c =
    rw (c.as_slice.ensures.value, c.as_slice-2.ensures.value) at c.if-not-has_all.ensures
