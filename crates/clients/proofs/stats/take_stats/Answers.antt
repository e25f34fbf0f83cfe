use Rattle.std.proofs.Common.{◌≡◌, ℕ, List, ◌∷◌, ◌++◌, [], refl, sym, ◌∙◌, subst}
use Rattle.bin_history.specs.Calls.{after}
use Rattle.bin_history.proofs.Keys.{key_tells}
use Rattle.clients.specs.Stats.{IsStats}
use Rattle.clients.proofs.Lengths.{lengths_of-push}
use Rattle.clients.proofs.Walked.{HasShown-first, HasShown-more, HasShown-seen, HasShown-whole}
use Rattle.clients.proofs.stats.take_stats.Goals as goal

pub loop-init : goal.loop-init
loop-init g c = (
  [],
  HasShown-first g.K.PartialEq.eq (after g.V.PartialEq.eq g.F.Remap.remapped g.F.Remap.merged)
      (key_tells g.met.K.Eq.laws g.met.K.HashKey.equal_is_same) g.K.HashKey.code c.args.map.now c.args.pass.now
      c.new-walk.result c.table_size-n.result _ c.new-walk.ensures.walk c.table_size-n.ensures c.new-walk.ensures.begun
      c.requires.pass,
  c.of_no_bucket-stats.ensures,
)

pub show_part-len-requires-clause-pass : goal.show_part-len-requires-clause-pass
show_part-len-requires-clause-pass g c = (let (visits, shown, stats) = c.loop.invariant in shown.own)

pub show_part-len-requires-clause-more : goal.show_part-len-requires-clause-more
show_part-len-requires-clause-more g c = sym c.is_at_end.ensures.value ∙ c.if-is_at_end.false

pub show_part-len-requires-clause-part : goal.show_part-len-requires-clause-part
show_part-len-requires-clause-part g c = ([], refl)

pub loop-preserved : goal.loop-preserved
loop-preserved g c =
    let (visits, shown, stats) = c.loop.invariant in
    let (v, seen, visit, takes, goes) = c.show_part-len.ensures.shown in (
      visits ++ v ∷ [],
      HasShown-more g.K.PartialEq.eq (after g.V.PartialEq.eq g.F.Remap.remapped g.F.Remap.merged)
          (key_tells g.met.K.Eq.laws g.met.K.HashKey.equal_is_same) g.K.HashKey.code c.args.map.now c.args.pass.now
          c.loop.pass c.show_part-len.new.pass c.loop.walk c.show_part-len.new.walk visits v shown seen visit goes
          c.show_part-len.ensures.n c.show_part-len.ensures.lo c.show_part-len.ensures.hi,
      subst (λ (ls : List ℕ). IsStats ls c.with_bucket-stats.result) (sym (lengths_of-push visits v))
          (c.with_bucket-stats.ensures _ _ stats (takes [] refl)),
    )

pub returns-then-is_at_end-clause-stats : goal.returns-then-is_at_end-clause-stats
returns-then-is_at_end-clause-stats g c =
    let (visits, shown, stats) = c.loop.invariant in (
      visits,
      HasShown-whole g.K.PartialEq.eq (after g.V.PartialEq.eq g.F.Remap.remapped g.F.Remap.merged)
          (key_tells g.met.K.Eq.laws g.met.K.HashKey.equal_is_same) g.K.HashKey.code c.args.map.now c.args.pass.now
          c.loop.pass c.loop.walk visits shown (c.is_at_end.ensures.end c.if-is_at_end.true),
      stats,
    )

pub returns-then-is_at_end-clause-seen : goal.returns-then-is_at_end-clause-seen
returns-then-is_at_end-clause-seen g c =
    let (visits, shown, stats) = c.loop.invariant in
    HasShown-seen g.K.PartialEq.eq (after g.V.PartialEq.eq g.F.Remap.remapped g.F.Remap.merged)
    (key_tells g.met.K.Eq.laws g.met.K.HashKey.equal_is_same) g.K.HashKey.code c.args.map.now c.args.pass.now
    c.loop.pass c.loop.walk visits shown
