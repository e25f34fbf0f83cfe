use Rattle.std.proofs.Common.{◌≡◌, List, All, IsSome, map, drop, length, sym, ap, subst, ◌∙◌}
use Rattle.count_ledger.specs.Views.{PassView}
use Rattle.chm.specs.Shares.{AreSameClients, HaveWorked}
use Rattle.part_walks.specs.declared.seats.Seat.{Seat}
use Rattle.chm.proofs.Seats.{own-before, own-after, all-answered, clients-after, have-worked, restored}
use Rattle.chm.proofs.map.Map.share.Goals as goal

pub work_all-requires-clause-own : goal.work_all-requires-clause-own
work_all-requires-clause-own g c κs within =
    own-before (g.W.Sharing.does c.args.work.now) c.args.self.now.ledger.id c.args.passes.now.items
    c.deref_mut.result.now (ap (map (λ s. s.pass)) c.deref_mut.ensures.value ∙ c.seat_all.ensures.seated)
    c.requires.own

pub unseat_all-requires-clause-ended : goal.unseat_all-requires-clause-ended
unseat_all-requires-clause-ended g c =
    let before : List (Seat g.row.K.Denot g.row.V.Denot g.row.F.Denot g.row.W-Out.Denot) = c.deref_mut.result.now in
    let after : List (Seat g.row.K.Denot g.row.V.Denot g.row.F.Denot g.row.W-Out.Denot) = c.work_all.new.seats in
    subst (λ (ss : List (Seat g.row.K.Denot g.row.V.Denot g.row.F.Denot g.row.W-Out.Denot)).
    All (λ s. IsSome s.part) ss)
    (sym (restored after _ _ (c.work_all.ensures.len ∙ c.deref_mut.ensures.len)))
    (all-answered (g.W.Sharing.does c.args.work.now) c.args.self.now.ledger.id c.args.passes.now.items
    before (ap (map (λ s. s.pass)) c.deref_mut.ensures.value ∙ c.seat_all.ensures.seated)
    after c.work_all.ensures.len c.work_all.ensures.ended)

pub returns-clause-own : goal.returns-clause-own
returns-clause-own g c =
    let before : List (Seat g.row.K.Denot g.row.V.Denot g.row.F.Denot g.row.W-Out.Denot) = c.deref_mut.result.now in
    let after : List (Seat g.row.K.Denot g.row.V.Denot g.row.F.Denot g.row.W-Out.Denot) = c.work_all.new.seats in
    let whole = restored after (drop (length after) c.seat_all.new.seats.items) c.seat_all.new.seats.len
    (c.work_all.ensures.len ∙ c.deref_mut.ensures.len) in
    subst (λ (ps : List (PassView g.row.K.Denot g.row.V.Denot g.row.F.Denot)).
    All (λ p. p.ledger ≡ c.args.self.now.ledger.id) ps)
    (sym (c.unseat_all.ensures.passes ∙ ap (map (λ s. s.pass)) whole))
    (own-after (g.W.Sharing.does c.args.work.now) c.args.self.now.ledger.id c.args.passes.now.items
    before (ap (map (λ s. s.pass)) c.deref_mut.ensures.value ∙ c.seat_all.ensures.seated)
    after c.work_all.ensures.len c.work_all.ensures.ended c.requires.own)

pub returns-clause-done : goal.returns-clause-done
returns-clause-done g c =
    let before : List (Seat g.row.K.Denot g.row.V.Denot g.row.F.Denot g.row.W-Out.Denot) = c.deref_mut.result.now in
    let after : List (Seat g.row.K.Denot g.row.V.Denot g.row.F.Denot g.row.W-Out.Denot) = c.work_all.new.seats in
    let whole = restored after (drop (length after) c.seat_all.new.seats.items) c.seat_all.new.seats.len
    (c.work_all.ensures.len ∙ c.deref_mut.ensures.len) in
    subst (λ (ps : List (PassView g.row.K.Denot g.row.V.Denot g.row.F.Denot)).
    HaveWorked (g.W.Sharing.does c.args.work.now) c.args.passes.now.items ps c.unseat_all.new.parts.items)
    (sym (c.unseat_all.ensures.passes ∙ ap (map (λ s. s.pass)) whole))
    (have-worked (g.W.Sharing.does c.args.work.now) c.args.self.now.ledger.id c.args.passes.now.items
    before (ap (map (λ s. s.pass)) c.deref_mut.ensures.value ∙ c.seat_all.ensures.seated)
    after c.work_all.ensures.len c.work_all.ensures.ended c.unseat_all.new.parts.items
    (c.unseat_all.ensures.parts ∙ ap (map (λ s. s.part)) whole))

pub returns-clause-clients : goal.returns-clause-clients
returns-clause-clients g c =
    let before : List (Seat g.row.K.Denot g.row.V.Denot g.row.F.Denot g.row.W-Out.Denot) = c.deref_mut.result.now in
    let after : List (Seat g.row.K.Denot g.row.V.Denot g.row.F.Denot g.row.W-Out.Denot) = c.work_all.new.seats in
    let whole = restored after (drop (length after) c.seat_all.new.seats.items) c.seat_all.new.seats.len
    (c.work_all.ensures.len ∙ c.deref_mut.ensures.len) in
    subst (λ (ps : List (PassView g.row.K.Denot g.row.V.Denot g.row.F.Denot)).
    AreSameClients c.args.passes.now.items ps)
    (sym (c.unseat_all.ensures.passes ∙ ap (map (λ s. s.pass)) whole))
    (clients-after (g.W.Sharing.does c.args.work.now) c.args.self.now.ledger.id c.args.passes.now.items
    before (ap (map (λ s. s.pass)) c.deref_mut.ensures.value ∙ c.seat_all.ensures.seated)
    after c.work_all.ensures.len c.work_all.ensures.ended)
