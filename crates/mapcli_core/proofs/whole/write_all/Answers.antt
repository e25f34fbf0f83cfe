use Rattle.std.proofs.Common.{◌∙◌, arith}
use Rattle.std.proofs.KnownBytes.{Appends-trans}
use Rattle.std.proofs.Math.Seq.{take-add}
use Rattle.std.proofs.lemmas.List.{take_rest}
use Rattle.mapcli_core.proofs.whole.write_all.Goals as goal

pub loop-written-preserved : goal.loop-written-preserved
loop-written-preserved g c =
    let more = rw take_rest at c.in_ok-written.ensures.bytes in (
      omega (arith, c.in_ok-written.ensures.bound),
      rw (take-add c.loop-written.written c.in_ok-written.field-0 c.args.bytes.now)
          (Appends-trans _ _ _ _ _ c.loop-written.invariant.1 more),
      c.in_ok-written.ensures.failures ∙ c.loop-written.invariant.2,
    )
