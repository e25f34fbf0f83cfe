use Rattle.count_ledger.specs.Tokens.{pass_book, role_book}
use Rattle.count_ledger.proofs.Gathering.{all_gathered}
use Rattle.count_ledger.proofs.Keeping.{Keeps-looked}
use Rattle.count_ledger.proofs.Settlement.{AreReconciled-settled}
use Rattle.count_ledger.proofs.settling.gather_all.Goals as goal

pub look-requires-clause-rule : goal.look-requires-clause-rule
look-requires-clause-rule g c = Keeps-looked g.K.HashKey.code g.K.PartialEq.eq _ c.args.shared.now.key _ _ _

pub returns : goal.returns
returns g c =
    let all =
    all_gathered pass_book role_book c.args.passes.items _ _ c.args.roles.items _ _ _ _ c.into_seat-seat.result.me.0
    c.in-Some.ensures.items
    c.into_seat.ensures.book c.into_badge-all.ensures.2 c.gather_passes.ensures.view c.gather_roles.ensures.view
    c.into_seat-seat.ensures.2 in
    let told = c.look.ensures.told.4 in
    AreReconciled-settled g.K.HashKey.code c.args.shared.now.table_id c.args.shared.now.key
    c.look.ensures.told.1 c.args.passes.items
    c.args.roles.items c.requires.enough c.requires.wide told.clients (rw all at told.sound)
