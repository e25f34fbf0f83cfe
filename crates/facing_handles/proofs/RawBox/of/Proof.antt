-- `of` hands its box on to `into_raw_with_allocator`, and puts the pointer and the allocator that come back into the parts.
use Rattle.std.proofs.Common.{◌≡◌, List, [], ◌∷◌, ◌++◌, refl, sym}
use seplogic.Ra.Ura.{Ura}
use mir.Syntax.{Fn, Args, Dict, a_type, dcons, dnil}
use mir.MapTy.{inst_fn}
use mir.Val.{Val}
use base.Logic.{ent, id⊢}
use base.Fml.{ftrue, fsep, flft}
use prog.Model.{Model}
use prog.Wp.{WpFn}
use types.Logic.{Logic}
use contract.BorrowLft.{◌⊑◌}
use contract.Monad.{fact}
use contract.Running.{Running, MachineTables, tables}
use types.Kit.{Item, ‵, raw, prop, ◌⊛◌, some, later, ◌$◌, ◌∵◌, !, qed, move}
use types.Kit.{drop, use1, join, split, split3, pick, rewrite, fsplit, fjoin, regoal, suffices, await, done}
use types.Part.{whole, sub, agg}
use types.Run.{stop, fld, no_more, and_then, of_opd, returns, enter}
use types.ByLocal.{alloc_all, pass_all, free_all, look_at, get, get_in, sets, lands_as}
use denote.Exit.{no}
use denote.Param.{bounded}
use denote.RawPtr.{Ptr}
use denote.Signature.{plain}
use denote.Steps.{heard, nothing}
use denote.Triple.Call.{calls_at}
use denote.Triple.Clauses.{Ended, Clauses}
use denote.Triple.Spec.{triple_of}
use denote.Triple.Statement.{Triple, Contract}
use denote.Triple.Table.{framed}
use denote.Triple.Walked.{says, Stays, stay_dropped, walk_of, ends_at}
use Rattle.std.proofs.alloc.Calls.{token, Goes-blank}
use Rattle.std.proofs.raw_atomic.Walks.{proved_at}
use Rattle.std.proofs.BoxSteps.Form.{Bx, D, B, R, word, box_typed}
use Rattle.std.proofs.BoxSteps.Steps.{box_in, box_out}
use Rattle.std.specs.Box.Ownership.{box_owns}
use Rattle.std.specs.contracts.boxed.Box.into_raw_with_allocator as opener
use Rattle.std.proofs.boxed.Box.into_raw_with_allocator.Symbol as opener_key
use Rattle.std.proofs.boxed.Box.into_raw_with_allocator.Met as opener_thm
use Rattle.facing_handles.proofs.Apart.{Pair, pair_opens, parts_at, parts_close}
use Rattle.facing_handles.specs.contracts.RawBox.of as own
use Rattle.facing_handles.specs.contracts.RawBox.of.Key.{name as #self}
use Rattle.facing_handles.proofs.RawBox.of.Statement.{statement}
use Rattle.facing_handles.proofs.RawBox.of.Code as code

module _ (E : Bx) (dx : Dict) where
  abbrev params : Args
  params = bounded (a_type ∷ a_type ∷ []) (E.row, (E.al.row, tt)) (dcons E.al.d (dcons E.al.drops (dcons dx dnil)))

  abbrev body : Fn
  body = inst_fn params code.function

  abbrev ended : Ended
  ended = own.ended E.row E.al.row E.al.g E.al.d E.al.drops dx

  abbrev spent : Stays ended.signature.params ended.kept
  spent = (stay_dropped (plain (λ _. B E)) no, tt)

  module _ {M : Type 1} {𝓤 : Ura M} (𝓛 : Logic 𝓤) (𝓜 : Model 𝓤 𝓛.H) (𝓡 : Running 𝓤 𝓛.H 𝓜) where
    abbrev 𝓣 : MachineTables 𝓤 𝓛.H 𝓜
    𝓣 = tables 𝓤 𝓛.H 𝓜 𝓡 𝓡.env

    abbrev clauses : Clauses 𝓤 ended
    clauses = own.clauses E.row E.al.row E.al.g E.al.d E.al.drops dx 𝓛 𝓜.mem 𝓡.returns

    abbrev W : Contract 𝓤
    W = walk_of 𝓛 ended spent clauses

    abbrev Opens : Contract 𝓤
    Opens = triple_of 𝓛 (opener.signature E.row E.al.row E.al.g E.al.d E.al.drops dx)
        (opener.spec E.row E.al.row E.al.g E.al.d E.al.drops dx 𝓛 𝓜.mem 𝓡.returns)

    walk : Triple 𝓤 (𝓣.C (opener_key.name params)) Opens → (z : W.Ghost)
        → ent 𝓤 (W.pre z) (WpFn 𝓤 𝓛.H 𝓣.C 𝓣.Λ body (W.args z) (W.post z))
    walk opens z =
        let v : D E = z.0.3.0 in
        let alive : Item 𝓤 = ‵ (flft z.0.0.0 z.0.1.0) ⊛ ‵ (flft z.0.0.1.0 z.0.1.1.0) ⊛ ‵ ftrue in
        let bounds : Item 𝓤 = raw (fact 𝓤 (z.0.0.0 ⊑ E.row.lives)) ⊛ raw (fact 𝓤 (z.0.0.1.0 ⊑ E.al.row.lives)) ⊛ ‵ ftrue in
        qed 𝓛 ((alive ⊛ ‵ (fsep ((B E).own_val v z.0.4.0) ftrue)) ∷ bounds ∷ []) ∵ split ! $ move ! (1 ∷ []) $ fsplit ! $
        -- [the box; true; the tokens; the bounds]
        box_out E ! v z.0.4.0 (λ b o h at is fits.
        let w = word E h b o in let good = box_typed E h b o fits in
        regoal ! (λ (vs : List Val). prop (WpFn 𝓤 𝓛.H 𝓣.C 𝓣.Λ body (vs ++ []) (W.post z))) is refl $
        box_in E ! v b o v.value at refl $ fjoin ! $ move ! (1 ∷ 0 ∷ 2 ∷ []) $ join ! $ join ! $
        use1 𝓛 (raw (Opens.pre ((z.0.0, z.0.1, tt, (v, tt), (w ∷ [], tt)), tt))) (id⊢ 𝓤 _) $
        enter ! 𝓣.C 𝓣.Λ body (w ∷ []) (W.post z) $ alloc_all ! (λ places. pass_all ! refl (good, tt) $ sets ! (of_opd ! (get ! refl)) refl good $
        calls_at ! (framed 𝓤 𝓛.H 𝓜 𝓣) Opens opens ((z.0.0, z.0.1, tt, (v, tt), (w ∷ [], tt)), tt) (and_then ! (get ! refl) (no_more !)) (λ u.
        use1 𝓛 (later (some (λ (pair : Ptr × E.al.row.Denot). (alive ⊛ ‵ ((Pair E).own_val pair (u ∷ [])))
        ⊛ some (λ (_ : (Unit {0} × (Unit {0} × Unit {0})) × Unit {0}). ‵ (fsep (fsep ftrue (fsep ftrue ftrue)) ftrue)
        ⊛ (raw (fact 𝓤 (pair.1 ≡ v.alloc)) ⊛ ‵ (box_owns (token E.al v.alloc) (R E) pair.0 v.value)))))) (id⊢ 𝓤 _) $
        await ! tt $ pick ! (λ pair. split ! $ move ! (1 ∷ []) $ pick ! (λ _. split3 ! $ drop ! $ heard ! (pair.1 ≡ v.alloc) (λ same.
        rewrite ! 0 (λ (a : E.al.row.Denot). ‵ (box_owns (token E.al a) (R E) pair.0 v.value)) (sym same) refl $
        move ! (1 ∷ []) $ split ! $ move ! (2 ∷ 1 ∷ []) $
        pair_opens E ! pair u v.value (λ b' o' h' is' fits'.
        -- [what the box owned; the allocator; the tokens; the locals]
        let good' = box_typed E h' b' o' fits' in
        lands_as ! is' refl good' $
        sets ! (of_opd ! (get_in ! (fld ! refl (stop !)) (sub ! 0 refl (whole !)))) refl (tt, tt) $
        sets ! (of_opd ! (get_in ! (fld ! refl (stop !)) (sub ! 1 refl (whole !)))) refl fits' $
        sets ! (of_opd ! (get ! refl)) refl fits' $
        sets ! (agg ! (and_then ! (get ! refl) (and_then ! (get ! refl) (no_more !)))) refl good' $
        returns ! (look_at ! 0 refl) $ free_all ! refl $ parts_close E ! b' o' h' pair.1 v.value $
        suffices ! _ (ends_at 𝓛 ended spent clauses z (word E h' b' o') (parts_at E b' o' pair.1 v.value) ((tt, (tt, tt)), tt) (tt, tt)) $ says ! refl $
        nothing ! $ nothing ! $ fjoin ! $ join ! $ move ! (1 ∷ 0 ∷ []) $ join ! $ done !)))))))

pub of_spec : {M : Type 1} → statement M
of_spec 𝓤 𝓛 𝓜 𝓡 wired X Z LX LZ g d dd dx allocator dropped drops =
    let E : Bx = record { row = X; laws = LX; al = record { row = Z; laws = LZ; g = g; d = d; drops = dd } } in
    let opens = opener_thm.met 𝓤 𝓛 𝓜 𝓡 (code.calls-std_alloc::boxed::Box::into_raw_with_allocator 𝓡.env wired)
    X Z LX LZ g d dd dx allocator dropped drops in
    proved_at 𝓛 (ended E dx) (spent E dx) (clauses E dx 𝓛 𝓜 𝓡) 𝓜 𝓡 (Goes-blank 𝓛 2 (plain (λ _. B E)) no (λ κs x f. tt), tt)
    (#self (params E dx)) (body E dx) (code.unfolded 𝓤 𝓛.H 𝓜 𝓡 wired (X, (Z, tt)) d dd dx) (λ z are. walk E dx 𝓛 𝓜 𝓡 opens z)
