-- `into_raw_box` takes a handle that is not null apart: what it owned the parts own. Behind a null one there is nothing.
use Rattle.std.proofs.Common.{List, [], ◌∷◌, ◌++◌, refl, sym, subst, lit<}
use mir.Val.{Val, vcons, vnil}
use base.Logic.{emp}
use base.Fml.{ftrue, fsep}
use prog.Wp.{WpFn}
use contract.Running.{tables}
use types.Kit.{‵, raw, prop, at_ret, ◌⊛◌, ◌$◌, ◌∵◌, !, qed, move, drop, use0, use1, join, split, fsplit, fjoin, regoal, suffices, done}
use types.Match.{live}
use types.Part.{whole, sub, agg}
use types.Run.{stop, fld, lit, bin, no_more, and_then, of_opd, returns, returns_within, enter, first, branches, skips, exec}
use types.ByLocal.{alloc_all, pass_all, free_all, look_at, get, get_in, sets, env}
use denote.Exit.{yes}
use denote.RawPtr.{block_ptr, tests_null}
use denote.Signature.{type_at}
use denote.Steps.{nothing}
use denote.Triple.Walked.{says, Stays, stay_dropped, walk_of, ends_at, Goes-dropped}
use Rattle.core.proofs.option.Made.{Some-of, none_of}
use Rattle.std.specs.declared.option.Option.TheVariants.{None, Some}
use Rattle.std.proofs.raw_atomic.Walks.{proved_at}
use Rattle.std.proofs.BoxSteps.Form.{word, box_typed}
use Rattle.facing_handles.proofs.Apart.{parts_at, parts_close}
use Rattle.facing.specs.Handles.{IsFilled}
use Rattle.facing.specs.contracts.handle.FacingHandle as Handle
use Rattle.facing.proofs.Heap.{boxed, Parts_row, of_handle}
use Rattle.facing.proofs.Handles.{handle_opens, null_word, null_good, some_good}
use Rattle.facing.specs.contracts.handle.FacingHandle.into_raw_box as own
use Rattle.facing.specs.contracts.handle.FacingHandle.into_raw_box.Key.{name as #self}
use Rattle.facing.proofs.handle.FacingHandle.into_raw_box.Statement.{statement}
use Rattle.facing.proofs.handle.FacingHandle.into_raw_box.Code as code

abbrev spent : Stays (own.ended).signature.params (own.ended).kept
spent = (stay_dropped of_handle yes, tt)

pub into_raw_box_spec : {M : Type 1} → statement M
into_raw_box_spec 𝓤 𝓛 𝓜 𝓡 wired =
    let c = own.clauses 𝓛 𝓜.mem 𝓡.returns in let 𝓣 = tables 𝓤 𝓛.H 𝓜 𝓡 𝓡.env in let W = walk_of 𝓛 own.ended spent c in
    let Out = type_at (own.signature).result tt in
    proved_at 𝓛 own.ended spent c 𝓜 𝓡 (Goes-dropped 𝓛 0 of_handle yes (λ κs x f. refl), tt)
    #self code.function (code.unfolded 𝓤 𝓛.H 𝓜 𝓡 wired) (λ z are.
    let h = z.0.3.0 in
    qed 𝓛 ((‵ ftrue ⊛ ‵ (fsep ((Handle.the_row).own_val h z.0.4.0) ftrue)) ∷ raw (emp 𝓤) ∷ []) ∵ split ! $ drop ! $ fsplit ! $
    handle_opens ! h z.0.4.0
    (λ a at is fits. let w = null_word a in let none = live 0 vnil in
    regoal ! (λ (vs : List Val). prop (WpFn 𝓤 𝓛.H 𝓣.C 𝓣.Λ code.function (vs ++ []) (W.post z))) is refl $
    drop ! $ drop ! $ drop ! $
    enter ! 𝓣.C 𝓣.Λ code.function (w ∷ []) (W.post z) $ alloc_all ! (λ places. pass_all ! refl (null_good a fits, tt) $
    sets ! (of_opd ! (get_in ! (fld ! refl (stop !)) (sub ! 0 refl (whole !)))) refl (tt, record { fits = lit< tt }) $
    sets ! (of_opd ! (get_in ! (fld ! refl (stop !)) (sub ! 1 refl (whole !)))) refl fits $
    sets ! (bin ! (get ! refl) (lit ! tt) tt) refl (tt, tt) $
    first ! $ branches ! (get ! refl)
    (λ _. sets ! (agg ! (and_then ! (lit ! tt) (no_more !))) refl (tt, (record { fits = lit< tt }, tt)) $
    returns_within ! (W.post z) refl (look_at ! 0 refl) $ free_all ! refl $
    suffices ! _ (ends_at 𝓛 own.ended spent c z none None (tt, tt) (tt, tt)) $ says ! (λ filled. subst IsFilled at filled) $
    use0 𝓛 (‵ (Out.own_val None (none ∷ []))) (none_of 𝓛 Parts_row) $
    nothing ! $ nothing ! $ fjoin ! $ join ! $ nothing ! $ join ! $ done !)
    (λ wrong. absurd wrong)))
    (λ b o a at can is fits. let w = word boxed a b o in let good = box_typed boxed a b o fits in let some = live 1 (vcons w vnil) in
    let parts = parts_at boxed b o h.alloc h.target in
    regoal ! (λ (vs : List Val). prop (WpFn 𝓤 𝓛.H 𝓣.C 𝓣.Λ code.function (vs ++ []) (W.post z))) is refl $
    move ! (2 ∷ 3 ∷ []) $ drop ! $ drop ! $
    enter ! 𝓣.C 𝓣.Λ code.function (w ∷ []) (W.post z) $ alloc_all ! (λ places. pass_all ! refl (good, tt) $
    sets ! (of_opd ! (get_in ! (fld ! refl (stop !)) (sub ! 0 refl (whole !)))) refl (tt, tt) $
    sets ! (of_opd ! (get_in ! (fld ! refl (stop !)) (sub ! 1 refl (whole !)))) refl fits $
    sets ! (bin ! (get ! refl) (lit ! tt) (tests_null (block_ptr b o) can)) refl (tt, tt) $
    first ! $ branches ! (get ! refl) (λ wrong. absurd wrong)
    (λ _. skips ! $ exec ! 𝓣.C 𝓣.Λ (env code.Mir.locals places) code.Mir.t-5 (at_ret _ (W.post z)) $
    sets ! (of_opd ! (get ! refl)) refl (tt, tt) $
    sets ! (agg ! (and_then ! (get ! refl) (and_then ! (get ! refl) (no_more !)))) refl good $
    sets ! (agg ! (and_then ! (lit ! tt) (and_then ! (get ! refl) (no_more !)))) refl (some_good a b o fits) $
    returns ! (look_at ! 0 refl) $ free_all ! refl $ parts_close boxed ! b o a h.alloc h.target $
    use1 𝓛 (‵ (Out.own_val (Some parts) (some ∷ []))) (Some-of 𝓛 Parts_row parts w) $
    suffices ! _ (ends_at 𝓛 own.ended spent c z some (Some parts) (tt, tt) (tt, tt)) $ says ! (subst IsFilled (sym at) tt, refl) $
    nothing ! $ nothing ! $ fjoin ! $ join ! $ nothing ! $ join ! $ done !))))
