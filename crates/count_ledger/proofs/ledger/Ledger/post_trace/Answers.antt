use Rattle.std.proofs.Common.{◌≡◌, ◌<◌, ◌++◌, ◌∷◌, [], List, ap, ◌∙◌, arith}
use Rattle.atomic_table.specs.Table.{Me}
use Rattle.hashkeys.specs.Classes.{is_of}
use Rattle.bin_history.proofs.Keys.{key_tells}
use Rattle.count_ledger.specs.declared.books.Book.{Book}
use Rattle.count_ledger.specs.declared.books.Book.TheVariants.{Pass}
use Rattle.count_ledger.specs.Steps.{books_with_record, first_of}
use Rattle.count_ledger.specs.Tokens.{made_of_pass, salt_of_role, kept_of_role}
use Rattle.count_ledger.proofs.Keeping.{Keeps-posted, Keeps-posted_idle, both_books}
use Rattle.count_ledger.proofs.Ordering.{agree_by}
use Rattle.count_ledger.proofs.Posted.{IsPass-posted, most_calls_le}
use Rattle.count_ledger.proofs.Settlement.{IsPassOf-sound, IsRoleOf-sound}
use Rattle.count_ledger.proofs.ledger.Ledger.post_trace.Goals as goal

pub add_delta-delta-requires-clause-rule : goal.add_delta-delta-requires-clause-rule
add_delta-delta-requires-clause-rule g c =
    let client = rw (← c.pass.view_is) at c.requires.client in
    let ordinal = rw (← c.pass.view_is) at c.requires.ordinal in
    let room = rw (← c.pass.view_is, ← c.self.view_is) at c.requires.room in
    let class = rw (← c.role.view_is) at c.requires.class in
    let legal = rw (← c.role.view_is) at c.requires.legal in
    rw (
      c.word_at-word.ensures,
      both_books c.pass.inside.seat.me c.join.new.seat.me c.role.inside.badge.views _ _ c.pass.invariant.book
          c.role.invariant
          c.join.ensures.books,
    )
    (Keeps-posted g.K.HashKey.code g.K.PartialEq.eq _ c.self.inside.table.shared.key _
    (key_tells g.met.K.Eq.laws g.met.K.HashKey.equal_is_same) c.pass.inside.client
    _ _ _ _ _ _ c.args.entry.now client ordinal room class legal)

pub add_delta-delta-requires-clause-idle : goal.add_delta-delta-requires-clause-idle
add_delta-delta-requires-clause-idle g c = λ none.
    let client = rw (← c.pass.view_is) at c.requires.client in
    let ordinal = rw (← c.pass.view_is) at c.requires.ordinal in
    let room = rw (← c.pass.view_is, ← c.self.view_is) at c.requires.room in
    let class = rw (← c.role.view_is) at c.requires.class in
    let legal = rw (← c.role.view_is) at c.requires.legal in
    rw (both_books c.pass.inside.seat.me c.join.new.seat.me c.role.inside.badge.views _ _ c.pass.invariant.book
    c.role.invariant c.join.ensures.books)
    (Keeps-posted_idle g.K.HashKey.code g.K.PartialEq.eq _ c.self.inside.table.shared.key _
    (key_tells g.met.K.Eq.laws g.met.K.HashKey.equal_is_same) c.pass.inside.client
    _ _ _ _ _ _ c.args.entry.now client ordinal room class legal 0 none)

pub invariant_of-pass : goal.invariant_of-pass
invariant_of-pass g c =
    let me = c.pass.inside.seat.me in
    let r = c.args.entry.now in
    let front = c.add_delta-delta.ensures.told.1 in
    let both =
    both_books me c.join.new.seat.me c.role.inside.badge.views _ _ c.pass.invariant.book c.role.invariant
    c.join.ensures.books in
    let sound = rw both at c.add_delta-delta.ensures.told.3.sound in
    let none = ap (λ (m : Me (Unit {0}) (List (Book _ _ _))). m.1) c.join.ensures.books
    ∙ ap (λ (m : Me (Unit {0}) (List (Book _ _ _))). m.1) c.pass.invariant.book in
    let posted = c.part.ensures.books
    ∙ ap (λ (m : Me (Unit {0}) (List (Book _ _ _))). (first_of m.0, m.1)) c.add_delta-delta.ensures.told.2
    ∙ ap (λ (b : List (Book _ _ _)). (first_of (books_with_record r front b), c.join.new.seat.me.1)) both
    ∙ ap (λ (l : List _). (Pass c.pass.inside.client (made_of_pass me.0 ++ r ∷ []) (front ++ r ∷ []) ∷ [], l)) none in
    let client = rw (← c.pass.view_is) at c.requires.client in
    let room = rw (← c.pass.view_is, ← c.self.view_is) at c.requires.room in
    let counted = c.pass.invariant.counted in
    let least = most_calls_le c.self.inside.table.shared.key.form c.self.inside.table.shared.key.clients in
    IsPass-posted c.pass.inside.client c.pass.inside.made c.pass.inside.balance c.add_delta-delta.result me
    c.part.new.seat.me r front c.pass.invariant posted client sound.0.made_is (omega (arith, room, counted, least))
    c.add_delta-delta.ensures.delta

pub returns-clause-agree : goal.returns-clause-agree
returns-clause-agree g c =
    let books =
    rw (both_books c.pass.inside.seat.me c.join.new.seat.me c.role.inside.badge.views _ _ c.pass.invariant.book
    c.role.invariant
    c.join.ensures.books) at c.add_delta-delta.ensures.told.3.sound in
    rw (← c.pass.view_is, ← c.role.view_is)
    (agree_by (is_of g.K.HashKey.code (salt_of_role c.role.inside.badge.views) c.role.inside.class)
    c.pass.inside.client
    c.add_delta-delta.ensures.told.1 (made_of_pass c.pass.inside.seat.me.0) (kept_of_role c.role.inside.badge.views)
    books.0.made_is books.2.0.3)

pub returns-clause-of_pass : goal.returns-clause-of_pass
returns-clause-of_pass g c =
    let books =
    rw (both_books c.pass.inside.seat.me c.join.new.seat.me c.role.inside.badge.views _ _ c.pass.invariant.book
    c.role.invariant
    c.join.ensures.books) at c.add_delta-delta.ensures.told.3.sound in
    rw (← c.self.view_is, ← c.pass.view_is)
    (IsPassOf-sound g.K.HashKey.code c.self.inside.table.shared.table_id c.self.inside.table.shared.key
    c.add_delta-delta.ensures.told.1 _ books.0)

pub returns-clause-of_role : goal.returns-clause-of_role
returns-clause-of_role g c =
    let books =
    rw (both_books c.pass.inside.seat.me c.join.new.seat.me c.role.inside.badge.views _ _ c.pass.invariant.book
    c.role.invariant
    c.join.ensures.books) at c.add_delta-delta.ensures.told.3.sound in
    rw (← c.self.view_is, ← c.role.view_is)
    (IsRoleOf-sound g.K.HashKey.code c.self.inside.table.shared.table_id c.self.inside.table.shared.key
    c.add_delta-delta.ensures.told.1 _ books.2.0)
