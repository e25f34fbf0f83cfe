use Rattle.std.proofs.Common.{◌≡◌, ℕ, ◌<◌, List, All, slice_index_or, IsSome, map, drop, length, sym, ap, subst, ◌∙◌}
use Rattle.bin_history.specs.Calls.{after}
use Rattle.count_ledger.specs.Views.{PassView}
use Rattle.part_walks.specs.declared.seats.Seat.{Seat}
use Rattle.chm.specs.Shares.{AreSameClients}
use Rattle.live_bulk.specs.Shared.{HasVisited}
use Rattle.live_bulk.proofs.SeatedClients.{own-before, own-later, all-collected, clients-later, restored}
use Rattle.live_bulk.proofs.working.collect_all.Goals as goal

pub work_all-requires-clause-own : goal.work_all-requires-clause-own
work_all-requires-clause-own g c κs within =
    own-before c.args.map.now.ledger.id c.args.passes.now.items c.deref_mut.result.now
    (ap (map (λ s. s.pass)) c.deref_mut.ensures.value ∙ c.seat_all.ensures.seated) c.requires.own

pub unseat_all-requires-clause-ended : goal.unseat_all-requires-clause-ended
unseat_all-requires-clause-ended g c =
    let before : List (Seat g.row.K.Denot g.row.V.Denot g.row.F.Denot g.row.S-Part.Denot) = c.deref_mut.result.now in
    let later : List (Seat g.row.K.Denot g.row.V.Denot g.row.F.Denot g.row.S-Part.Denot) = c.work_all.new.seats in
    let seated = ap (map (λ s. s.pass)) c.deref_mut.ensures.value ∙ c.seat_all.ensures.seated in
    let its_after = after g.V.PartialEq.eq g.F.Remap.remapped g.F.Remap.merged in
    let ledger = c.args.map.now.ledger in
    let stepper = c.args.stepper.now in
    let whole = restored later (drop (length later) c.seat_all.new.seats.items) c.seat_all.new.seats.len
    (c.work_all.ensures.len ∙ c.deref_mut.ensures.len) in
    subst (λ (ss : List (Seat g.row.K.Denot g.row.V.Denot g.row.F.Denot g.row.S-Part.Denot)). All (λ s. IsSome s.part) ss)
    (sym whole)
    (all-collected ledger.id c.args.passes.now.items before seated
    g.K.PartialEq.eq g.K.HashKey.code its_after (g.S.Taker.reached stepper) (g.S.Stepper.ends stepper) ledger
    c.table_size-n.result c.len-2.result later c.work_all.ensures.len c.work_all.ensures.visited)

pub returns-clause-own : goal.returns-clause-own
returns-clause-own g c =
    let before : List (Seat g.row.K.Denot g.row.V.Denot g.row.F.Denot g.row.S-Part.Denot) = c.deref_mut.result.now in
    let later : List (Seat g.row.K.Denot g.row.V.Denot g.row.F.Denot g.row.S-Part.Denot) = c.work_all.new.seats in
    let seated = ap (map (λ s. s.pass)) c.deref_mut.ensures.value ∙ c.seat_all.ensures.seated in
    let its_after = after g.V.PartialEq.eq g.F.Remap.remapped g.F.Remap.merged in
    let ledger = c.args.map.now.ledger in
    let stepper = c.args.stepper.now in
    let whole = restored later (drop (length later) c.seat_all.new.seats.items) c.seat_all.new.seats.len
    (c.work_all.ensures.len ∙ c.deref_mut.ensures.len) in
    subst (λ (ps : List (PassView g.row.K.Denot g.row.V.Denot g.row.F.Denot)). All (λ p. p.ledger ≡ ledger.id) ps)
    (sym (c.unseat_all.ensures.passes ∙ ap (map (λ s. s.pass)) whole))
    (own-later ledger.id c.args.passes.now.items before seated
    g.K.PartialEq.eq g.K.HashKey.code its_after (g.S.Taker.reached stepper) (g.S.Stepper.ends stepper) ledger
    c.table_size-n.result c.len-2.result later c.work_all.ensures.len c.work_all.ensures.visited c.requires.own)

pub returns-clause-clients : goal.returns-clause-clients
returns-clause-clients g c =
    let before : List (Seat g.row.K.Denot g.row.V.Denot g.row.F.Denot g.row.S-Part.Denot) = c.deref_mut.result.now in
    let later : List (Seat g.row.K.Denot g.row.V.Denot g.row.F.Denot g.row.S-Part.Denot) = c.work_all.new.seats in
    let seated = ap (map (λ s. s.pass)) c.deref_mut.ensures.value ∙ c.seat_all.ensures.seated in
    let its_after = after g.V.PartialEq.eq g.F.Remap.remapped g.F.Remap.merged in
    let ledger = c.args.map.now.ledger in
    let stepper = c.args.stepper.now in
    let whole = restored later (drop (length later) c.seat_all.new.seats.items) c.seat_all.new.seats.len
    (c.work_all.ensures.len ∙ c.deref_mut.ensures.len) in
    subst (λ (ps : List (PassView g.row.K.Denot g.row.V.Denot g.row.F.Denot)). AreSameClients c.args.passes.now.items ps)
    (sym (c.unseat_all.ensures.passes ∙ ap (map (λ s. s.pass)) whole))
    (clients-later ledger.id c.args.passes.now.items before seated
    g.K.PartialEq.eq g.K.HashKey.code its_after (g.S.Taker.reached stepper) (g.S.Stepper.ends stepper) ledger
    c.table_size-n.result c.len-2.result later c.work_all.ensures.len c.work_all.ensures.visited)

pub returns-clause-shared : goal.returns-clause-shared
returns-clause-shared g c =
    let before : List (Seat g.row.K.Denot g.row.V.Denot g.row.F.Denot g.row.S-Part.Denot) = c.deref_mut.result.now in
    let later : List (Seat g.row.K.Denot g.row.V.Denot g.row.F.Denot g.row.S-Part.Denot) = c.work_all.new.seats in
    let seated = ap (map (λ s. s.pass)) c.deref_mut.ensures.value ∙ c.seat_all.ensures.seated in
    let its_after = after g.V.PartialEq.eq g.F.Remap.remapped g.F.Remap.merged in
    let ledger = c.args.map.now.ledger in
    let stepper = c.args.stepper.now in
    let whole = restored later (drop (length later) c.seat_all.new.seats.items) c.seat_all.new.seats.len
    (c.work_all.ensures.len ∙ c.deref_mut.ensures.len) in
    let Visited : ℕ → Type 0 = λ shares. (i : ℕ) (d : Seat g.row.K.Denot g.row.V.Denot g.row.F.Denot g.row.S-Part.Denot) →
    i < length before → HasVisited g.K.PartialEq.eq g.K.HashKey.code its_after (g.S.Taker.reached stepper)
    (g.S.Stepper.ends stepper) ledger c.table_size-n.result shares i (slice_index_or before i d) (slice_index_or later i d) in (
      c.table_size-n.result,
      c.table_size-n.ensures,
      record {
        before = before;
        later = later;
        seated = seated;
        left = sym (c.unseat_all.ensures.passes ∙ ap (map (λ s. s.pass)) whole);
        told = c.unseat_all.ensures.parts ∙ ap (map (λ s. s.part)) whole;
        as_many = c.work_all.ensures.len;
        each = subst Visited (c.len-2.ensures ∙ sym c.deref_mut.ensures.len) c.work_all.ensures.visited;
      },
    )
