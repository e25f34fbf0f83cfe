use Rattle.std.proofs.Common.{◌≡◌, ◌∷◌, ◌++◌, List, [], length, refl, sym, ap, ◌∙◌, append_assoc, arith}
use Rattle.facing_maps.proofs.Walking.{length_snoc}
use Rattle.facing_maps.specs.Pairs.{bytes_of}
use Rattle.facing_maps.proofs.pairs.total.Goals as goal

pub loop-pair-preserved : goal.loop-pair-preserved
loop-pair-preserved g c =
    let laid = g.L.Laying.laid c.args.laying.now in
    let (done, all, total) = c.loop-pair.invariant in
    let e = c.in-Some.pair.now in (
      done ++ e ∷ [],
      append_assoc done (e ∷ []) c.in-Some.tail.now ∙ ap (λ (l : List _). done ++ l) (sym c.in-Some.ensures.cases.0) ∙ all,
      omega (
        arith,
        total,
        c.saturating_add.ensures,
        c.saturating_add-total.ensures,
        length_snoc laid done e c.bytes.result.now c.laid.result.now (length (bytes_of laid done))
            c.bytes.ensures c.laid.ensures refl,
      ),
    )
