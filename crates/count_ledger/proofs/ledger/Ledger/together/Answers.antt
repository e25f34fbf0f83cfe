use Rattle.std.proofs.Common.{◌≡◌, ◌∙◌, ◌∷◌, [], sym, ap, subst}
use Rattle.atomic_table.specs.Table.{Me}
use Rattle.count_ledger.specs.Tokens.{IsPass, made_of_pass, seen_of_pass}
use Rattle.count_ledger.specs.Views.{PassView}
use Rattle.count_ledger.proofs.Keeping.{Keeps-looked}
use Rattle.count_ledger.proofs.Beside.{both_beside, first_back, second_back}
use Rattle.count_ledger.proofs.Fronts.{IsFront-sound}
use Rattle.count_ledger.proofs.ledger.Ledger.together.Goals as goal

pub look-requires-clause-rule : goal.look-requires-clause-rule
look-requires-clause-rule g c = Keeps-looked g.K.HashKey.code g.K.PartialEq.eq _ c.self.inside.table.shared.key _ _ _

pub invariant_of-first : goal.invariant_of-first
invariant_of-first g c =
    let views = c.into_badge-badge.ensures.2 ∙ ap (λ (s : _). s.me.0 ∷ []) c.replace.ensures.value in
    let back = first_back _ _ c.first.inside.seat.me c.second.inside.seat.me c.part.new.seat.me c.join.new.seat.me
    c.look.new.seat.me _ c.first.invariant.book c.second.invariant.book c.part.ensures.books views c.join.ensures.books
    c.look.ensures.told.3 c.part-2.new.seat.me c.part-2.ensures.books in
    subst (IsPass c.first.inside.client c.first.inside.made c.first.inside.balance) (sym back) c.first.invariant

pub invariant_of-second : goal.invariant_of-second
invariant_of-second g c =
    let views = c.into_badge-badge.ensures.2 ∙ ap (λ (s : _). s.me.0 ∷ []) c.replace.ensures.value in
    let back = second_back _ _ c.first.inside.seat.me c.second.inside.seat.me c.part.new.seat.me c.join.new.seat.me
    c.look.new.seat.me _ c.first.invariant.book c.second.invariant.book c.part.ensures.books views c.join.ensures.books
    c.look.ensures.told.3 _ c.into_seat-2.result.me c.part-2.ensures.others c.into_seat-2.ensures.2
    c.into_seat-2.ensures.3 in
    subst (IsPass c.second.inside.client c.second.inside.made c.second.inside.balance) (sym back) c.second.invariant

pub returns-clause-one_order : goal.returns-clause-one_order
returns-clause-one_order g c =
    let views = c.into_badge-badge.ensures.2 ∙ ap (λ (s : _). s.me.0 ∷ []) c.replace.ensures.value in
    let both = both_beside _ _ c.first.inside.seat.me c.second.inside.seat.me c.part.new.seat.me c.join.new.seat.me
    c.look.new.seat.me _ c.first.invariant.book c.second.invariant.book c.part.ensures.books views c.join.ensures.books
    c.look.ensures.told.3 in
    let told = c.look.ensures.told.4 in
    let sound = rw both at told.sound in
    let calls = c.look.ensures.told.1 in
    let id = c.self.inside.table.shared.table_id in
    let t = c.self.inside.table.shared.key in
    let same = g.K.PartialEq.eq in
    rw (← c.self.view_is, ← c.first.view_is, ← c.second.view_is) (
      calls,
      IsFront-sound same _ id t calls _ sound.0 told.legal told.clients,
      IsFront-sound same _ id t calls _ sound.2.0 told.legal told.clients,
    )

pub returns-clause-two_clients : goal.returns-clause-two_clients
returns-clause-two_clients g c =
    let views = c.into_badge-badge.ensures.2 ∙ ap (λ (s : _). s.me.0 ∷ []) c.replace.ensures.value in
    let both = both_beside _ _ c.first.inside.seat.me c.second.inside.seat.me c.part.new.seat.me c.join.new.seat.me
    c.look.new.seat.me _ c.first.invariant.book c.second.invariant.book c.part.ensures.books views c.join.ensures.books
    c.look.ensures.told.3 in
    let sound = rw both at c.look.ensures.told.4.sound in
    rw (← c.first.view_is, ← c.second.view_is) sound.1.0

pub returns-clause-same_first : goal.returns-clause-same_first
returns-clause-same_first g c =
    let views = c.into_badge-badge.ensures.2 ∙ ap (λ (s : _). s.me.0 ∷ []) c.replace.ensures.value in
    let back = first_back _ _ c.first.inside.seat.me c.second.inside.seat.me c.part.new.seat.me c.join.new.seat.me
    c.look.new.seat.me _ c.first.invariant.book c.second.invariant.book c.part.ensures.books views c.join.ensures.books
    c.look.ensures.told.3 c.part-2.new.seat.me c.part-2.ensures.books in
    let id = c.part-2.ensures.seat ∙ c.look.ensures.seat ∙ c.join.ensures.seat in
    (λ i. record {
      ledger = id i;
      client = c.first.inside.client;
      made = made_of_pass (back i).0;
      seen = seen_of_pass (back i).0;
    }) ∙ c.first.view_is

pub returns-clause-same_second : goal.returns-clause-same_second
returns-clause-same_second g c =
    let views = c.into_badge-badge.ensures.2 ∙ ap (λ (s : _). s.me.0 ∷ []) c.replace.ensures.value in
    let back = second_back _ _ c.first.inside.seat.me c.second.inside.seat.me c.part.new.seat.me c.join.new.seat.me
    c.look.new.seat.me _ c.first.invariant.book c.second.invariant.book c.part.ensures.books views c.join.ensures.books
    c.look.ensures.told.3 _ c.into_seat-2.result.me c.part-2.ensures.others c.into_seat-2.ensures.2
    c.into_seat-2.ensures.3 in
    let id = c.into_seat-2.ensures.0 ∙ c.part-2.ensures.badge ∙ c.look.ensures.seat ∙ c.join.ensures.seat
    ∙ ap (λ (p : PassView _ _ _). p.ledger) c.first.view_is ∙ c.requires.first ∙ sym c.requires.second
    ∙ sym (ap (λ (p : PassView _ _ _). p.ledger) c.second.view_is) in
    (λ i. record {
      ledger = id i;
      client = c.second.inside.client;
      made = made_of_pass (back i).0;
      seen = seen_of_pass (back i).0;
    }) ∙ c.second.view_is
