use Rattle.std.proofs.Common.{◌≡◌, ℕ, pos, ◌+ℤ◌, length, ap, ◌∙◌, arith}
use Rattle.std.specs.Int.{int_max}
use Rattle.std.proofs.lemmas.Int.{ints}
use Rattle.count_ledger.specs.Views.{LedgerView}
use Rattle.count_ledger.specs.Words.{total_made}
use Rattle.count_ledger.proofs.WordSums.{total_made_all}
use Rattle.chm.specs.Views.{MapView}
use Rattle.chm.proofs.Counting.{count_word}
use Rattle.chm.proofs.map.Map.mapping_count_all.Goals as goal

pub returns-clause-count : goal.returns-clause-count
returns-clause-count g c =
    let own : c.self.inside.ledger ≡ c.args.self.now.ledger = ap (λ (m : MapView _ _). m.ledger) c.self.view_is in
    let opened : c.self.inside.opened ≡ length c.args.self.now.ledger.opening = c.self.invariant.opened_is
    ∙ ap (λ (l : LedgerView _ _). length l.opening) own in
    let clients : c.self.inside.ledger.clients ≡ c.args.self.now.ledger.clients =
    ap (λ (l : LedgerView _ _). l.clients) own in
    let few = c.self.invariant.clients in
    let all = c.requires.all in
    let bounds = total_made_all c.self.inside.ledger c.args.passes.now c.sum_all.ensures.of_passes few
    (omega (arith, clients, all)) in
    let word = count_word c.self.inside.opened c.sum_all.result (total_made c.args.passes.now) c.self.invariant.few
    c.sum_all.ensures.sum
    bounds.0 bounds.1
    in
    c.count_of.ensures.value ∙ ap (int_max (pos 0))
    (word ∙ ap (λ (n : ℕ). pos n +ℤ total_made c.args.passes.now) opened)
