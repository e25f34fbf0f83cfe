use Rattle.std.proofs.Common.{◌≡◌, ◌++◌, ◌∷◌, [], Bool, true, false, List, subst, sym, ap, ◌∙◌, append_assoc}
use Rattle.std.proofs.lemmas.List.{append-nil}
use Rattle.hashkeys.specs.Classes.{covers, is_of}
use Rattle.bin_history.specs.Part.{part_of_entries}
use Rattle.part_walks.proofs.Taking.{filter-kept, filter-left}
use Rattle.chm.proofs.walks.of_class.copies_of_some.Goals as goal

pub loop-key-init : goal.loop-key-init
loop-key-init g c = (
  tt,
  tt,
  (
    [],
    c.into_iter-key-iterator.ensures.into_iter_gives,
    c.new-copies.ensures.items,
  ),
)

pub loop-key-preserved-in_ok-push : goal.loop-key-preserved-in_ok-push
loop-key-preserved-in_ok-push g c =
    let class = c.args.class in
    let code = g.K.HashKey.code in
    let (can, finite, kept) = c.loop-key.invariant in
    let (done, cut, copied) = kept in
    let e = c.in-Some.field-0.now in
    let test : g.row.K.Denot × g.row.V.Denot → Bool = λ x. is_of code c.args.salt class x.0 in
    let passes : test e ≡ true = ap (covers class) (sym c.hash_of.ensures.hash) ∙ sym c.covers.ensures ∙ c.if-covers.true in
    let key = g.met.K.Exact.copies_exactly e.0 c.in_ok-copied_key.copied_key c.in_ok-copied_key.ensures.cases in
    let value = g.met.V.Exact.copies_exactly e.1 c.in_ok-copied_value.copied_value c.in_ok-copied_value.ensures.cases in (
      tt,
      tt,
      (
        done ++ e ∷ [],
        append_assoc done (e ∷ []) c.next.new.self ∙ ap (λ (l : List _). done ++ l) (sym c.in-Some.ensures.steps) ∙ cut,
        c.in_ok-push.ensures.items
            ∙ ap (λ (l : List (g.row.K.Denot × g.row.V.Denot)). l
            ++ (c.in_ok-copied_key.copied_key, c.in_ok-copied_value.copied_value) ∷ []) copied
            ∙ ap (λ (k : g.row.K.Denot). part_of_entries (is_of code c.args.salt class) done
            ++ (k, c.in_ok-copied_value.copied_value) ∷ []) key
            ∙ ap (λ (v : g.row.V.Denot). part_of_entries (is_of code c.args.salt class) done
            ++ (e.0, v) ∷ []) value
            ∙ sym (filter-kept test done e passes),
      ),
    )

pub loop-key-preserved : goal.loop-key-preserved
loop-key-preserved g c =
    let class = c.args.class in
    let code = g.K.HashKey.code in
    let (can, finite, kept) = c.loop-key.invariant in
    let (done, cut, copied) = kept in
    let e = c.in-Some.field-0.now in
    let test : g.row.K.Denot × g.row.V.Denot → Bool = λ x. is_of code c.args.salt class x.0 in
    let fails : test e ≡ false = ap (covers class) (sym c.hash_of.ensures.hash) ∙ sym c.covers.ensures ∙ c.if-covers.false in (
      tt,
      tt,
      (
        done ++ e ∷ [],
        append_assoc done (e ∷ []) c.next.new.self ∙ ap (λ (l : List _). done ++ l) (sym c.in-Some.ensures.steps) ∙ cut,
        copied ∙ sym (filter-left test done e fails),
      ),
    )

pub returns : goal.returns
returns g c =
    let (can, finite, kept) = c.loop-key.invariant in
    let (done, cut, copied) = kept in
    copied ∙ ap (part_of_entries (is_of g.K.HashKey.code c.args.salt c.args.class))
    (sym (append-nil done) ∙ ap (λ (l : List _). done ++ l) (sym c.in-None.ensures.steps.0) ∙ cut)
