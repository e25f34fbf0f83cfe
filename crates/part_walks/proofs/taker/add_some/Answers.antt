use Rattle.std.proofs.Common.{◌≡◌, ◌++◌, ◌∷◌, [], Bool, true, false, List, subst, sym, ap, ◌∙◌, append_assoc}
use Rattle.std.proofs.lemmas.List.{append-nil}
use Rattle.hashkeys.specs.Classes.{covers, is_of}
use Rattle.bin_history.specs.Part.{part_of_entries}
use Rattle.part_walks.proofs.Taking.{filter-kept, filter-left}
use Rattle.part_walks.proofs.taker.add_some.Goals as goal

pub loop-key-init : goal.loop-key-init
loop-key-init g c = (
  tt,
  tt,
  (
    [],
    c.into_iter-key-iterator.ensures.into_iter_gives,
    λ es h. subst (λ (l : List (g.row.K.Denot × g.row.V.Denot)). g.T.Taker.reached c.args.taker.now l c.args.part)
        (sym (append-nil es)) h,
  ),
)

pub loop-key-preserved-then-covers : goal.loop-key-preserved-then-covers
loop-key-preserved-then-covers g c =
    let class = c.args.class in
    let code = g.K.HashKey.code in
    let (can, finite, kept) = c.loop-key.invariant in
    let (done, cut, reached) = kept in
    let e = c.in-Some.field-0.now in
    let test : g.row.K.Denot × g.row.V.Denot → Bool = λ x. is_of code c.args.salt class x.0 in
    let passes : test e ≡ true = ap (covers class) (sym c.hash_of.ensures.hash) ∙ sym c.covers.ensures ∙ c.if-covers.true in
    let front = part_of_entries (is_of code c.args.salt class) done in (
      tt,
      tt,
      (
        done ++ e ∷ [],
        append_assoc done (e ∷ []) c.next.new.self ∙ ap (λ (l : List _). done ++ l) (sym c.in-Some.ensures.steps) ∙ cut,
        λ es h. subst (λ (l : List (g.row.K.Denot × g.row.V.Denot)).
            g.T.Taker.reached c.args.taker.now l c.add-part.result)
            (append_assoc es front (e ∷ [])
            ∙ ap (λ (l : List (g.row.K.Denot × g.row.V.Denot)). es ++ l) (sym (filter-kept test done e passes)))
            (c.add-part.ensures (es ++ front) (reached es h)),
      ),
    )

pub loop-key-preserved : goal.loop-key-preserved
loop-key-preserved g c =
    let class = c.args.class in
    let code = g.K.HashKey.code in
    let (can, finite, kept) = c.loop-key.invariant in
    let (done, cut, reached) = kept in
    let e = c.in-Some.field-0.now in
    let test : g.row.K.Denot × g.row.V.Denot → Bool = λ x. is_of code c.args.salt class x.0 in
    let fails : test e ≡ false = ap (covers class) (sym c.hash_of.ensures.hash) ∙ sym c.covers.ensures ∙ c.if-covers.false in (
      tt,
      tt,
      (
        done ++ e ∷ [],
        append_assoc done (e ∷ []) c.next.new.self ∙ ap (λ (l : List _). done ++ l) (sym c.in-Some.ensures.steps) ∙ cut,
        λ es h. subst (λ (l : List (g.row.K.Denot × g.row.V.Denot)).
            g.T.Taker.reached c.args.taker.now (es ++ l) c.loop-key.part) (sym (filter-left test done e fails))
            (reached es h),
      ),
    )
