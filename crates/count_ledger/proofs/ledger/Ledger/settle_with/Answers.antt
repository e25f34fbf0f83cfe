use Rattle.std.proofs.Common.{◌≡◌, ◌≤◌, ◌++◌, ℕ, List, length, take, drop, ap, sym, subst, ◌∙◌, arith}
use Rattle.std.proofs.lemmas.List.{drop_all, take_all, append-nil}
use Rattle.count_ledger.specs.Opening.{left_in}
use Rattle.count_ledger.specs.Views.{LedgerView}
use Rattle.count_ledger.proofs.Rosters.{enough_with}
use Rattle.count_ledger.proofs.ledger.Ledger.settle_with.Goals as goal

-- a vector after its slice was handed out and came back as it was
as_before : {X : Type 0} (xs ys : List X) (n : ℕ) → n ≡ length xs → ys ≡ xs → take n (ys ++ drop (length ys) xs) ≡ xs
as_before xs ys n len same =
    ap (λ zs. take n (zs ++ drop (length zs) xs)) same
    ∙ ap (λ zs. take n (xs ++ zs)) (drop_all (length xs) xs (omega arith))
    ∙ ap (take n) (append-nil xs)
    ∙ take_all n xs (omega arith)

pub gather_with-requires-clause-passes : goal.gather_with-requires-clause-passes
gather_with-requires-clause-passes g c =
    rw (as_before c.args.passes.items c.add_shares-total.new.passes c.args.passes.len c.args.passes.ok.0
    (c.add_shares-total.ensures.same ∙ c.as_mut_slice.ensures.value))
    (rw (← c.self.view_is) at c.requires.passes)

pub gather_with-requires-clause-enough : goal.gather_with-requires-clause-enough
gather_with-requires-clause-enough g c =
    let taken = (rw (c.as_slice.ensures.value, c.as_slice-2.ensures.value) at c.if-not-are_all.ensures).0 in
    let is = ap (λ (l : LedgerView _ _). l.clients) c.self.view_is ∙ sym c.requires.clients in
    rw (as_before c.args.passes.items c.add_shares-total.new.passes c.args.passes.len c.args.passes.ok.0
    (c.add_shares-total.ensures.same ∙ c.as_mut_slice.ensures.value))
    (subst (λ (n : ℕ). n ≤ length (c.args.passes.items ++ left_in c.args.roster)) (sym is)
    (enough_with c.args.passes.items c.args.roster taken))

pub returns-then-not-are_all-clause-refused : goal.returns-then-not-are_all-clause-refused
returns-then-not-are_all-clause-refused g c =
    rw (c.as_slice.ensures.value, c.as_slice-2.ensures.value) at c.if-not-are_all.ensures
