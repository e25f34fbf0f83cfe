use Rattle.std.proofs.Common.{◌≤◌, arith, List, length, flat_map, ap, sym, subst, ◌∙◌}
use Rattle.hashkeys.specs.Classes.{IsTableSize}
use Rattle.chm.specs.Sizes.{IsSizeFor}
use Rattle.chm.specs.Refusals.{most_capacity}
use Rattle.chm.proofs.Sizes.{size_for-wide}
use Rattle.chm.proofs.Empty.{flat_map-empty, length-empty, distinct-empty}
use Rattle.count_ledger.specs.Opening.{left_in}
use Rattle.chm.proofs.Passes.{new_passes-ledger, new_roster}
use Rattle.chm.proofs.map.Map.with_form.Goals as goal

pub open-requires-clause-size : goal.open-requires-clause-size
open-requires-clause-size g c =
    subst IsTableSize (sym (length-empty c.in_ok-bases.bases.items c.size_for.result c.in_ok-bases.ensures))
    c.size_for.ensures.size

pub open-requires-clause-wide : goal.open-requires-clause-wide
open-requires-clause-wide g c =
    let len = length-empty c.in_ok-bases.bases.items c.size_for.result c.in_ok-bases.ensures in
    let capacity : c.args.capacity ≤ most_capacity c.args.form =
    (let many = c.if-capacity-most_capacity.false in let most = c.most_capacity.ensures.value in omega arith) in
    let wide = size_for-wide c.args.form c.args.capacity c.size_for.result capacity c.size_for.ensures in
    omega (arith, len, wide)

pub open-requires-clause-distinct : goal.open-requires-clause-distinct
open-requires-clause-distinct g c =
    distinct-empty g.K.PartialEq.eq c.in_ok-bases.bases.items c.size_for.result c.in_ok-bases.ensures

pub open-requires-clause-opened : goal.open-requires-clause-opened
open-requires-clause-opened g c = sym
    (ap (λ (l : List (List _)). length (flat_map (λ b. b) l)) c.in_ok-bases.ensures ∙ ap (λ (l : List _). length l)
    (flat_map-empty c.size_for.result))

pub returns-clause-new : goal.returns-clause-new
returns-clause-new g c =
    let passes = ap left_in c.in_ok-open.ensures.roster ∙ new_roster c.in_ok-open.field-0.0.ledger.id c.args.clients in
    record {
      form = c.in_ok-open.ensures.form;
      salt = c.in_ok-open.ensures.salt;
      clients = c.in_ok-open.ensures.clients;
      opening = c.in_ok-open.ensures.opening ∙ ap (λ (l : List (List _)). flat_map (λ b. b) l) c.in_ok-bases.ensures
          ∙ flat_map-empty c.size_for.result;
      size = subst (IsSizeFor c.args.capacity)
          (sym (c.in_ok-open.ensures.n ∙ length-empty c.in_ok-bases.bases.items c.size_for.result
          c.in_ok-bases.ensures)) c.size_for.ensures;
      passes = passes;
      own = new_passes-ledger _ _ _ passes;
    }
