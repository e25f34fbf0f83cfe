-- `into_box` hands the pointer and the allocator to `from_raw`, with what they own, and gives on the box that it makes.
use Rattle.std.proofs.Common.{◌≡◌, List, [], ◌∷◌, ◌++◌, refl, sym, ap, subst}
use lib.Dec.{T}
use seplogic.Ra.Ura.{Ura}
use mir.Syntax.{Fn, Body, place, copy, assign, rv_opd, seq, return}
use mir.MapTy.{inst_fn}
use mir.Val.{Val, vptr, has_ty, WT}
use base.Logic.{ent, id⊢}
use base.Fml.{ftrue, fsep, flft}
use prog.Model.{Model}
use prog.Wp.{WpFn}
use types.Logic.{Logic}
use contract.BorrowLft.{◌⊑◌}
use contract.Monad.{fact}
use contract.Running.{Running, MachineTables, tables}
use types.Kit.{Item, at_ret, ‵, raw, prop, ◌⊛◌, some, later, ◌$◌, ◌∵◌, !, qed, move}
use types.Kit.{drop, use1, join, split, split3, pick, rewrite, fsplit, fjoin, feq_i, regoal, suffices, await, done}
use types.Part.{whole, sub}
use types.Run.{stop, fld, no_more, and_then, of_opd, returns, enter, first, blocks, exec}
use types.ByLocal.{alloc_all, pass_all, free_all, look_at, get, get_in, sets, lands_last, env}
use denote.Exit.{no}
use denote.RawPtr.{block_ptr}
use denote.Signature.{plain}
use denote.Steps.{heard, nothing, only}
use denote.Triple.Call.{calls_at_last}
use denote.Triple.Clauses.{Ended, Clauses}
use denote.Triple.Spec.{triple_of}
use denote.Triple.Statement.{Triple, Contract}
use denote.Triple.Table.{framed}
use denote.Triple.Walked.{says, Stays, stay_dropped, walk_of, ends_at}
use Rattle.std.proofs.alloc.Calls.{Goes-blank}
use Rattle.std.proofs.raw_atomic.Walks.{proved_at}
use Rattle.std.proofs.BoxSteps.Form.{Bx, D, B, args, box_ty, word, box_typed}
use Rattle.std.proofs.BoxSteps.Steps.{box_in, box_out}
use Rattle.std.specs.contracts.boxed.Box.from_raw as maker
use Rattle.std.proofs.boxed.Box.from_raw.Symbol as maker_key
use Rattle.std.proofs.boxed.Box.from_raw.Met as maker_thm
use Rattle.facing_handles.proofs.Apart.{Parts, parts_open}
use Rattle.facing_handles.specs.contracts.RawBox.into_box as own
use Rattle.facing_handles.specs.contracts.RawBox.into_box.Key.{name as #self}
use Rattle.facing_handles.proofs.RawBox.into_box.Statement.{statement}
use Rattle.facing_handles.proofs.RawBox.into_box.Code as code

-- what is left once the box is made
abbrev last : Body
last = seq (assign (place 0 []) (rv_opd (copy (place 4 [])))) return

module _ (E : Bx) where
  abbrev body : Fn
  body = inst_fn (args E) code.function

  abbrev ended : Ended
  ended = own.ended E.row E.al.row E.al.g E.al.d E.al.drops

  abbrev spent : Stays ended.signature.params ended.kept
  spent = (stay_dropped (plain (λ _. Parts E)) no, tt)

  module _ {M : Type 1} {𝓤 : Ura M} (𝓛 : Logic 𝓤) (𝓜 : Model 𝓤 𝓛.H) (𝓡 : Running 𝓤 𝓛.H 𝓜) where
    abbrev 𝓣 : MachineTables 𝓤 𝓛.H 𝓜
    𝓣 = tables 𝓤 𝓛.H 𝓜 𝓡 𝓡.env

    abbrev clauses : Clauses 𝓤 ended
    clauses = own.clauses E.row E.al.row E.al.g E.al.d E.al.drops 𝓛 𝓜.mem 𝓡.returns

    abbrev W : Contract 𝓤
    W = walk_of 𝓛 ended spent clauses

    abbrev Makes : Contract 𝓤
    Makes = triple_of 𝓛 (maker.signature E.row E.al.row E.al.g E.al.d E.al.drops)
        (maker.spec E.row E.al.row E.al.g E.al.d E.al.drops 𝓛 𝓜.mem 𝓡.returns)

    walk : Triple 𝓤 (𝓣.C (maker_key.name (args E))) Makes → (z : W.Ghost)
        → ent 𝓤 (W.pre z) (WpFn 𝓤 𝓛.H 𝓣.C 𝓣.Λ body (W.args z) (W.post z))
    walk makes z =
        let v : (Parts E).Denot = z.0.3.0 in
        let alive : Item 𝓤 = ‵ (flft z.0.0.0 z.0.1.0) ⊛ ‵ (flft z.0.0.1.0 z.0.1.1.0) ⊛ ‵ ftrue in
        let value_bound : Item 𝓤 = raw (fact 𝓤 (z.0.0.0 ⊑ E.row.lives)) in
        let alloc_bound : Item 𝓤 = raw (fact 𝓤 (z.0.0.1.0 ⊑ E.al.row.lives)) in
        qed 𝓛 ((alive ⊛ ‵ (fsep ((Parts E).own_val v z.0.4.0) ftrue)) ∷ (value_bound ⊛ alloc_bound ⊛ ‵ ftrue) ∷ []) ∵
        split ! $ move ! (1 ∷ []) $ fsplit ! $
        parts_open E ! v z.0.4.0 (λ b o h at is fits.
        -- [what the box owned; the allocator; true; the tokens; the bounds]
        let w = word E h b o in
        let y : Makes.Ghost = ((z.0.0, z.0.1, tt, (v.alloc, (block_ptr b o, tt)), (h ∷ [], (vptr b o ∷ [], tt))), v.value) in
        regoal ! (λ (vs : List Val). prop (WpFn 𝓤 𝓛.H 𝓣.C 𝓣.Λ body (vs ++ []) (W.post z))) is refl $
        move ! (4 ∷ []) $ split3 ! $ move ! (1 ∷ 3 ∷ []) $ join ! $ move ! (1 ∷ 0 ∷ []) $ join ! $
        -- [what `from_raw` requires; true; the allocator; true; the tokens]
        move ! (1 ∷ []) $ drop ! $ move ! (2 ∷ []) $ feq_i ! (List Val) (vptr b o ∷ []) (vptr b o ∷ []) refl $ fjoin ! $
        move ! (2 ∷ 0 ∷ []) $ fjoin ! $ move ! (2 ∷ 0 ∷ 1 ∷ []) $ join ! $ join ! $ use1 𝓛 (raw (Makes.pre y)) (id⊢ 𝓤 _) $
        enter ! 𝓣.C 𝓣.Λ body (w ∷ []) (W.post z) $ alloc_all ! (λ places. pass_all ! refl (box_typed E h b o fits, tt) $
        sets ! (of_opd ! (get_in ! (fld ! refl (stop !)) (sub ! 0 refl (whole !)))) refl (tt, tt) $
        sets ! (of_opd ! (get_in ! (fld ! refl (stop !)) (sub ! 1 refl (whole !)))) refl fits $
        first ! $ blocks ! $ sets ! (of_opd ! (get ! refl)) refl fits $
        calls_at_last ! (framed 𝓤 𝓛.H 𝓜 𝓣) Makes makes y (and_then ! (get ! refl) (and_then ! (get ! refl) (no_more !))) (λ u.
        use1 𝓛 (later (some (λ (made : D E). (alive ⊛ ‵ ((B E).own_val made (u ∷ [])))
        ⊛ some (λ (_ : Unit {0} × (Unit {0} × Unit {0})). ‵ (fsep ftrue (fsep ftrue ftrue))
        ⊛ (raw (fact 𝓤 (made.value ≡ v.value)) ⊛ raw (fact 𝓤 (made.alloc ≡ v.alloc))))))) (id⊢ 𝓤 _) $
        await ! tt $ pick ! (λ made. split ! $ move ! (1 ∷ []) $ pick ! (λ _. split3 ! $ drop ! $ heard ! (made.value ≡ v.value) (λ same.
        drop ! $ split ! $ move ! (1 ∷ []) $
        box_out E ! made (u ∷ []) (λ b' o' h' at' is' fits'.
        let typed : T (has_ty (box_ty E) u) × WT u = subst (λ (s : Val). T (has_ty (box_ty E) s) × WT s) (sym (ap only is')) (box_typed E h' b' o' fits') in
        box_in E ! made b' o' made.value at' refl $ rewrite ! 0 (λ (vs : List Val). ‵ ((B E).own_val made vs)) (sym is') refl $
        -- [the box; the tokens; the locals]
        lands_last ! refl typed $ exec ! 𝓣.C 𝓣.Λ (env body.locals places) last (at_ret (env body.locals places) (W.post z)) $
        sets ! (of_opd ! (get ! refl)) refl typed $ returns ! (look_at ! 0 refl) $ free_all ! refl $
        suffices ! _ (ends_at 𝓛 ended spent clauses z u made ((tt, (tt, tt)), tt) (tt, tt)) $ says ! same $
        nothing ! $ nothing ! $ fjoin ! $ join ! $ move ! (1 ∷ 0 ∷ []) $ join ! $ done !)))))))

pub into_box_spec : {M : Type 1} → statement M
into_box_spec 𝓤 𝓛 𝓜 𝓡 wired X Z LX LZ g d dd allocator dropped =
    let E : Bx = record { row = X; laws = LX; al = record { row = Z; laws = LZ; g = g; d = d; drops = dd } } in
    let makes = maker_thm.met 𝓤 𝓛 𝓜 𝓡 (code.calls-std_alloc::boxed::Box::from_raw 𝓡.env wired) X Z LX LZ g d dd allocator dropped in
    proved_at 𝓛 (ended E) (spent E) (clauses E 𝓛 𝓜 𝓡) 𝓜 𝓡 (Goes-blank 𝓛 2 (plain (λ _. Parts E)) no (λ κs x f. tt), tt)
    (#self (args E)) (body E) (code.unfolded 𝓤 𝓛.H 𝓜 𝓡 wired (X, (Z, tt)) d dd) (λ z are. walk E 𝓛 𝓜 𝓡 makes z)
