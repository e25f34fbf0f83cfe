-- `of_raw_box` puts the pointer and the allocator into the handle, which owns what the parts owned, and is not null.
use Rattle.std.proofs.Common.{List, [], ◌∷◌, ◌++◌, refl}
use mir.Val.{Val}
use base.Logic.{emp, id⊢}
use base.Fml.{ftrue, fsep}
use prog.Wp.{WpFn}
use contract.Running.{tables}
use types.Kit.{‵, raw, prop, ◌⊛◌, ◌$◌, ◌∵◌, !, qed, move, drop, use1, join, split, fsplit, fjoin, regoal, suffices, done}
use types.Part.{whole, sub, agg}
use types.Run.{stop, fld, no_more, and_then, of_opd, returns, enter}
use types.ByLocal.{alloc_all, pass_all, free_all, look_at, get, get_in, sets}
use denote.Exit.{yes}
use denote.RawPtr.{block_ptr}
use denote.Signature.{type_at}
use denote.Steps.{nothing}
use denote.Triple.Walked.{says, Stays, stay_dropped, walk_of, ends_at, Goes-dropped}
use Rattle.std.proofs.raw_atomic.Walks.{proved_at}
use Rattle.std.proofs.BoxSteps.Form.{word, box_typed}
use Rattle.facing_handles.proofs.Apart.{Parts, parts_open, parts_close}
use Rattle.facing.proofs.Heap.{boxed, of_parts}
use Rattle.facing.specs.contracts.handle.FacingOut.of_raw_box as own
use Rattle.facing.specs.contracts.handle.FacingOut.of_raw_box.Key.{name as #self}
use Rattle.facing.proofs.handle.FacingOut.of_raw_box.Statement.{statement}
use Rattle.facing.proofs.handle.FacingOut.of_raw_box.Code as code

abbrev spent : Stays (own.ended).signature.params (own.ended).kept
spent = (stay_dropped of_parts yes, tt)

pub of_raw_box_spec : {M : Type 1} → statement M
of_raw_box_spec 𝓤 𝓛 𝓜 𝓡 wired =
    let c = own.clauses 𝓛 𝓜.mem 𝓡.returns in let 𝓣 = tables 𝓤 𝓛.H 𝓜 𝓡 𝓡.env in let W = walk_of 𝓛 own.ended spent c in
    let Out = type_at (own.signature).result tt in
    proved_at 𝓛 own.ended spent c 𝓜 𝓡 (Goes-dropped 𝓛 0 of_parts yes (λ κs x f. refl), tt)
    #self code.function (code.unfolded 𝓤 𝓛.H 𝓜 𝓡 wired) (λ z are.
    let parts : (Parts boxed).Denot = z.0.3.0 in
    qed 𝓛 ((‵ ftrue ⊛ ‵ (fsep ((Parts boxed).own_val parts z.0.4.0) ftrue)) ∷ raw (emp 𝓤) ∷ []) ∵ split ! $ drop ! $ fsplit ! $
    parts_open boxed ! parts z.0.4.0 (λ b o h at is fits.
    -- [what the box owned; the allocator; true; what is required]
    let w = word boxed h b o in let good = box_typed boxed h b o fits in
    let made : Out.Denot = record { ptr = block_ptr b o; alloc = parts.alloc; target = parts.value } in
    regoal ! (λ (vs : List Val). prop (WpFn 𝓤 𝓛.H 𝓣.C 𝓣.Λ code.function (vs ++ []) (W.post z))) is refl $
    move ! (2 ∷ 3 ∷ []) $ drop ! $ drop ! $
    enter ! 𝓣.C 𝓣.Λ code.function (w ∷ []) (W.post z) $ alloc_all ! (λ places. pass_all ! refl (good, tt) $
    sets ! (of_opd ! (get_in ! (fld ! refl (stop !)) (sub ! 0 refl (whole !)))) refl (tt, tt) $
    sets ! (of_opd ! (get_in ! (fld ! refl (stop !)) (sub ! 1 refl (whole !)))) refl fits $
    sets ! (of_opd ! (get ! refl)) refl (tt, tt) $
    sets ! (agg ! (and_then ! (get ! refl) (and_then ! (get ! refl) (no_more !)))) refl good $
    returns ! (look_at ! 0 refl) $ free_all ! refl $
    parts_close boxed ! b o h parts.alloc parts.value $ use1 𝓛 (‵ (Out.own_val made (w ∷ []))) (id⊢ 𝓤 _) $
    suffices ! _ (ends_at 𝓛 own.ended spent c z w made (tt, tt) (tt, tt)) $ says ! (refl, tt) $
    nothing ! $ nothing ! $ fjoin ! $ join ! $ nothing ! $ join ! $ done !)))
