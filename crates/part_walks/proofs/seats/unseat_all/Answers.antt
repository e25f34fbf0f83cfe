use Rattle.std.proofs.Common.{◌≡◌, ◌++◌, [], ◌∷◌, List, Some, IsSome, map, reverse, refl, sym, ap, ◌∙◌, arith}
use Rattle.std.proofs.lemmas.List.{map-append}
use Rattle.part_walks.specs.declared.seats.Seat.{Seat}
use Rattle.part_walks.proofs.FromBehind.{all-front, all-last, map-reverse, never-none, none-left, popped}
use Rattle.part_walks.proofs.seats.unseat_all.Goals as goal

pub loop-pass-preserved : goal.loop-pass-preserved
loop-pass-preserved g c =
    let (passes, parts, ended, room, space) = c.loop-pass.invariant in
    let seats = c.loop-pass.seats.items in
    let left = c.pop.new.self.items in
    let seat : Seat _ _ _ _ = c.in-Some.field-0 in
    let split = c.in-Some.ensures.items in
    let got = c.loop-pass.parts.items in
    let own = c.in-Some-part.part in (
      popped (λ (s : Seat _ _ _ _). s.pass) seats left seat _ _ _ _ split c.push_reserved.ensures.items refl passes,
      popped (λ (s : Seat _ _ _ _). s.part) seats left seat (map Some got) _ _ (Some own) split
          (ap (map Some) c.push_reserved-in-Some-part.ensures.items ∙ map-append Some got (own ∷ []))
          (sym c.in-Some-part.is) parts,
      all-front (λ (s : Seat _ _ _ _). IsSome s.part) seats left seat split ended,
      omega (arith, c.in-Some.ensures.cases, c.push_reserved.ensures.len, c.push_reserved.ensures.capacity),
      omega (
        arith,
        c.in-Some.ensures.cases,
        c.push_reserved-in-Some-part.ensures.len,
        c.push_reserved-in-Some-part.ensures.capacity,
      ),
    )

pub unreachable-requires : goal.unreachable-requires
unreachable-requires g c =
    let (passes, parts, ended, room, space) = c.loop-pass.invariant in
    never-none c.in-Some.field-0.part
    (all-last (λ (s : Seat _ _ _ _). IsSome s.part) c.loop-pass.seats.items c.pop.new.self.items c.in-Some.field-0
    c.in-Some.ensures.items ended) c.in-None.is

pub returns-clause-parts : goal.returns-clause-parts
returns-clause-parts g c =
    let (passes, parts, ended, room, space) = c.loop-pass.invariant in
    let got = c.loop-pass.parts.items in
    let none : c.loop-pass.seats.items ≡ [] = none-left c.loop-pass.seats.items (omega (arith, c.in_default.ensures.cases.0)) in
    ap (map Some) c.reverse-2.ensures.items
    ∙ map-reverse Some got
    ∙ ap (λ (ss : List (Seat _ _ _ _)). map (λ (s : Seat _ _ _ _). s.part) ss ++ reverse (map Some got)) (sym none)
    ∙ parts
