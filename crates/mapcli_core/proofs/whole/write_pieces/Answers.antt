use Rattle.std.proofs.Common.{ℕ, List, [], take, drop, suc, get_or, Result, Ok, Err, OnErr, sym, subst, Bor}
use Rattle.std.specs.List.{flat_map}
use Rattle.mapcli_core.specs.Devices.{AppendsFront}
use Rattle.mapcli_core.proofs.Written.{AppendsFront-within, flat_map-at}
use Rattle.mapcli_core.proofs.whole.write_pieces.Goals as goal

on_err : {T E : Type 0} (P : Type 0) (r : Result T E) → P → OnErr r P
on_err P (Ok x) p = tt
on_err P (Err e) p = p

pub returns-in_err-write_all-clause-err : goal.returns-in_err-write_all-clause-err
returns-in_err-write_all-clause-err g c =
    let before = g.O.Output.contents c.args.output.now in
    let mid = g.O.Output.contents c.loop-piece.output in
    let after = g.O.Output.contents c.write_all.new.output in
    let pieces = c.args.pieces.now in
    let i = c.loop-piece.piece-index in
    let none : Bor (List ℕ) = record { ref_ptr = (0, 0); now = [] } in
    let bytes : Bor (List ℕ) → List ℕ = λ p. p.now in
    let front = subst (AppendsFront mid after) c.as_bytes.ensures.value c.in_err-write_all.ensures.err in
    let within = AppendsFront-within before mid after (flat_map bytes (take i pieces)) (get_or pieces i none).now
    (flat_map bytes (drop (suc i) pieces)) c.loop-piece.invariant.0 front in
    on_err _ c.from_residual.result
    (subst (AppendsFront before after) (sym (flat_map-at bytes pieces i none c.loop-piece-test.true)) within)
