use Rattle.std.proofs.Common.{◌++◌, ◌∷◌, [], List, subst, sym, ap, ◌∙◌, append_assoc}
use Rattle.std.proofs.lemmas.List.{append-nil}
use Rattle.part_walks.proofs.taker.add_all.Goals as goal

pub loop-key-init : goal.loop-key-init
loop-key-init g c = (
  tt,
  tt,
  (
    [],
    c.into_iter-key-iterator.ensures.into_iter_gives,
    λ es h. subst (λ (l : List (g.row.K.Denot × g.row.V.Denot)). g.T.Taker.reached c.args.taker.now l c.args.part)
        (sym (append-nil es)) h,
  ),
)

pub loop-key-preserved : goal.loop-key-preserved
loop-key-preserved g c =
    let (can, finite, kept) = c.loop-key.invariant in
    let (done, cut, reached) = kept in
    let e = c.in-Some.field-0.now in (
      tt,
      tt,
      (
        done ++ e ∷ [],
        append_assoc done (e ∷ []) c.next.new.self ∙ ap (λ (l : List _). done ++ l) (sym c.in-Some.ensures.steps) ∙ cut,
        λ es h. subst (λ (l : List (g.row.K.Denot × g.row.V.Denot)).
            g.T.Taker.reached c.args.taker.now l c.add-part.result) (append_assoc es done (e ∷ []))
            (c.add-part.ensures (es ++ done) (reached es h)),
      ),
    )
