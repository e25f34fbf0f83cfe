use Rattle.std.proofs.Common.{◌≡◌, Bool, true, false, ◌||◌, List, ◌∷◌, ◌++◌, [], rules, refl, sym, ap, ◌∙◌}
use Rattle.std.specs.List.{list_any}
use Rattle.std.proofs.lemmas.List.Folds.{list_any-append}
use Rattle.bin_history.specs.Calls.{after}
use Rattle.bin_history.proofs.Keys.{key_tells}
use Rattle.chm.specs.Visits.{VisitView, shown_by}
use Rattle.clients.proofs.Turns.{shown_by-push}
use Rattle.clients.proofs.Walked.{HasShown-first, HasShown-more, HasShown-seen, HasShown-some, HasShown-whole}
use Rattle.clients.proofs.finding.find_value.Goals as goal

-- what none of the buckets before had, all have if the last one has it
any-push : {K V : Type 0} (test : K × V → Bool) (visits : List (VisitView K V)) (v : VisitView K V) (has : Bool)
    → list_any test (shown_by visits) ≡ false → has ≡ list_any test v.entries
    → list_any test (shown_by (visits ++ v ∷ [])) ≡ has
any-push test visits v has none is =
    ap (λ (es : List _). list_any test es) (shown_by-push visits v) ∙ list_any-append test (shown_by visits) v.entries
    ∙ ap (λ (b : Bool). b || list_any test v.entries) none ∙ sym is

pub loop-init : goal.loop-init
loop-init g c = (
  [],
  HasShown-first g.K.PartialEq.eq (after g.V.PartialEq.eq g.F.Remap.remapped g.F.Remap.merged)
      (key_tells g.met.K.Eq.laws g.met.K.HashKey.equal_is_same) g.K.HashKey.code c.args.map.now c.args.pass.now
      c.new-walk.result c.table_size-n.result _ c.new-walk.ensures.walk c.table_size-n.ensures c.new-walk.ensures.begun
      c.requires.pass,
  refl,
)

pub show_part-requires-clause-pass : goal.show_part-requires-clause-pass
show_part-requires-clause-pass g c = (let (visits, shown, none) = c.loop.invariant in shown.own)

pub show_part-requires-clause-more : goal.show_part-requires-clause-more
show_part-requires-clause-more g c = sym c.is_at_end.ensures.value ∙ c.if-is_at_end.false

pub show_part-requires-clause-part : goal.show_part-requires-clause-part
show_part-requires-clause-part g c = ([], refl)

pub loop-preserved : goal.loop-preserved
loop-preserved g c =
    let (visits, shown, none) = c.loop.invariant in
    let no : c.show_part.result ≡ false = search rules in
    let (v, seen, visit, takes, goes) = c.show_part.ensures.shown in (
      visits ++ v ∷ [],
      HasShown-more g.K.PartialEq.eq (after g.V.PartialEq.eq g.F.Remap.remapped g.F.Remap.merged)
          (key_tells g.met.K.Eq.laws g.met.K.HashKey.equal_is_same) g.K.HashKey.code c.args.map.now c.args.pass.now
          c.loop.pass c.show_part.new.pass c.loop.walk c.show_part.new.walk visits v shown seen visit goes
          c.show_part.ensures.n c.show_part.ensures.lo c.show_part.ensures.hi,
      any-push _ visits v _ none (takes [] refl) ∙ no,
    )

pub returns-then-show_part-clause-found : goal.returns-then-show_part-clause-found
returns-then-show_part-clause-found g c = λ _.
    let (visits, shown, none) = c.loop.invariant in
    let yes : c.show_part.result ≡ true = search rules in
    let (v, seen, visit, takes, goes) = c.show_part.ensures.shown in
    let its_after = after g.V.PartialEq.eq g.F.Remap.remapped g.F.Remap.merged in (
      visits ++ v ∷ [],
      HasShown-some g.K.PartialEq.eq its_after (key_tells g.met.K.Eq.laws g.met.K.HashKey.equal_is_same)
          g.K.HashKey.code c.args.map.now c.args.pass.now c.show_part.new.pass c.show_part.new.walk (visits ++ v ∷ [])
          (HasShown-more g.K.PartialEq.eq its_after (key_tells g.met.K.Eq.laws g.met.K.HashKey.equal_is_same)
          g.K.HashKey.code c.args.map.now c.args.pass.now c.loop.pass c.show_part.new.pass c.loop.walk
          c.show_part.new.walk visits v shown seen visit goes c.show_part.ensures.n c.show_part.ensures.lo
          c.show_part.ensures.hi),
      any-push _ visits v _ none (takes [] refl) ∙ yes,
    )

pub returns-then-show_part-clause-seen : goal.returns-then-show_part-clause-seen
returns-then-show_part-clause-seen g c =
    let (visits, shown, none) = c.loop.invariant in
    let (v, seen, visit, takes, goes) = c.show_part.ensures.shown in
    let its_after = after g.V.PartialEq.eq g.F.Remap.remapped g.F.Remap.merged in
    HasShown-seen g.K.PartialEq.eq its_after (key_tells g.met.K.Eq.laws g.met.K.HashKey.equal_is_same)
    g.K.HashKey.code c.args.map.now c.args.pass.now c.show_part.new.pass c.show_part.new.walk (visits ++ v ∷ [])
    (HasShown-more g.K.PartialEq.eq its_after (key_tells g.met.K.Eq.laws g.met.K.HashKey.equal_is_same)
    g.K.HashKey.code c.args.map.now c.args.pass.now c.loop.pass c.show_part.new.pass c.loop.walk
    c.show_part.new.walk visits v shown seen visit goes c.show_part.ensures.n c.show_part.ensures.lo
    c.show_part.ensures.hi)

pub returns-then-is_at_end-clause-none : goal.returns-then-is_at_end-clause-none
returns-then-is_at_end-clause-none g c = λ _.
    let (visits, shown, none) = c.loop.invariant in (
      visits,
      HasShown-whole g.K.PartialEq.eq (after g.V.PartialEq.eq g.F.Remap.remapped g.F.Remap.merged)
          (key_tells g.met.K.Eq.laws g.met.K.HashKey.equal_is_same) g.K.HashKey.code c.args.map.now c.args.pass.now
          c.loop.pass c.loop.walk visits shown (c.is_at_end.ensures.end c.if-is_at_end.true),
      none,
    )

pub returns-then-is_at_end-clause-seen : goal.returns-then-is_at_end-clause-seen
returns-then-is_at_end-clause-seen g c =
    let (visits, shown, none) = c.loop.invariant in
    HasShown-seen g.K.PartialEq.eq (after g.V.PartialEq.eq g.F.Remap.remapped g.F.Remap.merged)
    (key_tells g.met.K.Eq.laws g.met.K.HashKey.equal_is_same) g.K.HashKey.code c.args.map.now c.args.pass.now
    c.loop.pass c.loop.walk visits shown
