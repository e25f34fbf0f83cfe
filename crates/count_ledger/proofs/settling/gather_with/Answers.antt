use Rattle.std.proofs.Common.{◌++◌, map, subst}
use Rattle.count_ledger.specs.Opening.{left_in}
use Rattle.count_ledger.specs.Rule.{AreTogether, IsSound, ledger_of}
use Rattle.count_ledger.specs.Settled.{AreReconciled, HasOrderFrom, seen_at}
use Rattle.count_ledger.specs.Tokens.{moment_books, pass_book, role_book}
use Rattle.count_ledger.specs.Views.{RosterView}
use Rattle.count_ledger.proofs.Keeping.{Keeps-looked}
use Rattle.count_ledger.proofs.Rosters.{all_with}
use Rattle.count_ledger.proofs.Settlement.{AreReconciled-settled, IsOrder-settled, seen_first}
use Rattle.count_ledger.proofs.Together.{Among-right}
use Rattle.count_ledger.proofs.settling.gather_with.Goals as goal

pub look-requires-clause-rule : goal.look-requires-clause-rule
look-requires-clause-rule g c = Keeps-looked g.K.HashKey.code g.K.PartialEq.eq _ c.args.shared.now.key _ _ _

pub returns-clause-agree : goal.returns-clause-agree
returns-clause-agree g c =
    let roster : RosterView = record {
      ledger = c.roster.inside.all.table_id;
      next = c.roster.inside.next;
      clients = c.roster.inside.clients;
    } in
    let books =
    all_with c.args.passes.items roster c.args.roles.items c.args.known _ _ _ _ c.into_seat-seat.result.me.0
    c.roster.invariant.books c.gather_passes.ensures.view c.gather_roles.ensures.view c.gather_moment.ensures.view
    c.into_seat-seat.ensures.2 in
    let enough = rw (← c.roster.view_is) at c.requires.enough in
    let told = c.look.ensures.told.4 in
    let code = g.K.HashKey.code in
    let terms = c.args.shared.now.key in
    let calls = c.look.ensures.told.1 in
    let others = map role_book c.args.roles.items ++ map pass_book (c.args.passes.items ++ left_in roster) in
    subst
    (λ (r : RosterView). AreReconciled code (ledger_of c.args.shared.now.table_id terms)
    (c.args.passes.items ++ left_in r) c.args.roles.items) c.roster.view_is
    (AreReconciled-settled code c.args.shared.now.table_id terms calls
    (c.args.passes.items ++ left_in roster) c.args.roles.items enough c.requires.wide told.clients
    (Among-right (IsSound code terms calls) (AreTogether code) (moment_books c.args.known) others
    (rw books at told.sound)))

pub returns-clause-known : goal.returns-clause-known
returns-clause-known g c =
    let roster : RosterView = record {
      ledger = c.roster.inside.all.table_id;
      next = c.roster.inside.next;
      clients = c.roster.inside.clients;
    } in
    let books =
    all_with c.args.passes.items roster c.args.roles.items c.args.known _ _ _ _ c.into_seat-seat.result.me.0
    c.roster.invariant.books c.gather_passes.ensures.view c.gather_roles.ensures.view c.gather_moment.ensures.view
    c.into_seat-seat.ensures.2 in
    let told = c.look.ensures.told.4 in
    let code = g.K.HashKey.code in
    let terms = c.args.shared.now.key in
    let calls = c.look.ensures.told.1 in
    let others = map role_book c.args.roles.items ++ map pass_book (c.args.passes.items ++ left_in roster) in
    let sound = rw books at told.sound in
    subst
    (λ (r : RosterView). HasOrderFrom code (ledger_of c.args.shared.now.table_id terms) (seen_at c.args.known)
    (c.args.passes.items ++ left_in r) c.args.roles.items) c.roster.view_is (
      calls,
      IsOrder-settled code c.args.shared.now.table_id terms calls (c.args.passes.items ++ left_in roster)
          c.args.roles.items told.clients
          (Among-right (IsSound code terms calls) (AreTogether code) (moment_books c.args.known) others sound),
      seen_first code c.args.shared.now.table_id terms calls c.args.known others sound,
    )
