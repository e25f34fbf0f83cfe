use Rattle.std.proofs.Common.{◌<◌, List, refl, sym, subst, ◌∙◌, length, map, vec_len, arith}
use Rattle.std.proofs.lemmas.Nat.{pow_pos}
use Rattle.bin_history.specs.Calls.{after}
use Rattle.count_ledger.specs.Views.{PassView}
use Rattle.live_bulk.specs.Shared.{HaveGathered}
use Rattle.live_bulk.proofs.Gathered.{gathered, zipped}
use Rattle.live_bulk.proofs.SeatedClients.{as_many, not-empty}
use Rattle.live_bulk.proofs.Seen.{seen-as-before}
use Rattle.live_bulk.proofs.gather.gather.Goals as goal

pub join_all-requires : goal.join_all-requires
join_all-requires g c =
    let (n, size, shared) = c.in_ok-parts.ensures.shared in
    let stepper = c.args.stepper.now in
    record {
      reached = zipped g.K.PartialEq.eq g.K.HashKey.code (after g.V.PartialEq.eq g.F.Remap.remapped g.F.Remap.merged)
          (g.S.Taker.reached stepper) (g.S.Stepper.ends stepper) c.args.map.now.ledger n (length shared.before)
          shared.before shared.later c.in_ok-parts.parts.items shared.as_many shared.each shared.told;
    }

pub returns-clause-gathered : goal.returns-clause-gathered
returns-clause-gathered g c =
    let (n, size, shared) = c.in_ok-parts.ensures.shared in
    let (exponent, _, power) = size in
    let some : 0 < n = let p = pow_pos exponent in omega arith in
    let stepper = c.args.stepper.now in
    let its_after = after g.V.PartialEq.eq g.F.Remap.remapped g.F.Remap.merged in
    let many = as_many c.args.map.now.ledger.id c.args.passes.now.items shared.before shared.seated in
    let filled = not-empty (vec_len c.args.passes.now) (sym c.is_empty.ensures ∙ c.if-is_empty.false) in
    let few : 0 < length shared.before = omega (arith, c.args.passes.now.ok.0) in
    let Gathered : List (PassView g.row.K.Denot g.row.V.Denot g.row.F.Denot) →
    List (PassView g.row.K.Denot g.row.V.Denot g.row.F.Denot) → Type 0 = λ olds news.
    HaveGathered g.K.PartialEq.eq g.K.HashKey.code its_after (g.S.Taker.reached stepper) (g.S.Stepper.ends stepper)
    c.args.map.now.ledger olds news c.join_all.result in
    let all = gathered g.K.PartialEq.eq g.K.HashKey.code its_after (g.S.Taker.reached stepper) (g.S.Stepper.ends stepper)
    c.args.map.now.ledger n (length shared.before) shared.before shared.later c.in_ok-parts.parts.items c.join_all.result
    some few refl shared.as_many shared.each shared.told c.join_all.ensures.reached
    c.join_all.ensures.ends in
    let left : List (PassView g.row.K.Denot g.row.V.Denot g.row.F.Denot) = map (λ s. s.pass) shared.later in
    subst (λ (news : List (PassView g.row.K.Denot g.row.V.Denot g.row.F.Denot)). Gathered c.args.passes.now.items news)
    shared.left
    (subst (λ (olds : List (PassView g.row.K.Denot g.row.V.Denot g.row.F.Denot)). Gathered olds left) shared.seated all)

pub returns-clause-seen : goal.returns-clause-seen
returns-clause-seen g c = let all = returns-clause-gathered g c in all.seen

pub returns-in_err-threads-clause-seen : goal.returns-in_err-threads-clause-seen
returns-in_err-threads-clause-seen g c = seen-as-before c.args.passes.now.items c.args.passes.now.items refl

pub returns-then-is_empty-clause-seen : goal.returns-then-is_empty-clause-seen
returns-then-is_empty-clause-seen g c = seen-as-before c.args.passes.now.items c.args.passes.now.items refl

pub returns-in_err-parts-clause-seen : goal.returns-in_err-parts-clause-seen
returns-in_err-parts-clause-seen g c =
    seen-as-before c.args.passes.now.items c.collect_all.new.passes.items c.in_err-parts.ensures.refused
