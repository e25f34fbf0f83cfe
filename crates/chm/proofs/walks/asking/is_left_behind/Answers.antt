use Rattle.std.proofs.Common.{◌≡◌, ◌++◌, ◌∷◌, [], Bool, true, false, cond, List, All, drop, filter, refl, sym, ap, subst, ◌∙◌}
use Rattle.std.proofs.Common.{append_assoc}
use Rattle.std.proofs.lemmas.List.{append-nil}
use Rattle.std.proofs.lemmas.List.Elements.{All-drop, filter-append}
use Rattle.hashkeys.specs.Classes.{is_of}
use Rattle.chm.specs.Retained.{HasEntry}
use Rattle.chm.proofs.Removing.{entry_of}
use Rattle.chm.proofs.walks.asking.is_left_behind.Goals as goal

pub loop-entry-init : goal.loop-entry-init
loop-entry-init g c = ([], sym c.left_behind-left.ensures, refl)

pub is_of_class-requires : goal.is_of_class-requires
is_of_class-requires g c =
    let (done, is, none) = c.loop-entry.invariant in
    let P : g.row.K.Denot × g.row.V.Denot → Type 0 = λ e. is_of g.K.HashKey.code c.args.salt c.args.own e.0 ≡ true in
    entry_of P (drop c.args.past c.args.walk) c.in-Some.entry.now
    (done, c.next.new.self, is ∙ ap (λ (l : List _). done ++ l) c.in-Some.ensures.steps)
    (All-drop P c.args.past c.args.walk c.requires.own)

pub returns-then-is_of_class-clause-some : goal.returns-then-is_of_class-clause-some
returns-then-is_of_class-clause-some g c = λ _.
    let (done, is, none) = c.loop-entry.invariant in
    let p : g.row.K.Denot × g.row.V.Denot → Bool = λ e. is_of g.K.HashKey.code c.args.salt c.args.class e.0 in
    let e = c.in-Some.entry.now in
    let rest = c.next.new.self in (
      e,
      filter p rest,
      ap (λ (l : List _). filter p l) (is ∙ ap (λ (l : List _). done ++ l) c.in-Some.ensures.steps)
          ∙ filter-append p done (e ∷ rest) ∙ ap (λ (l : List _). l ++ filter p (e ∷ rest)) none
          ∙ ap (λ (b : Bool). cond b (e ∷ filter p rest) (filter p rest))
          (sym c.is_of_class.ensures ∙ c.if-is_of_class.true),
    )

pub loop-entry-preserved : goal.loop-entry-preserved
loop-entry-preserved g c =
    let (done, is, none) = c.loop-entry.invariant in
    let p : g.row.K.Denot × g.row.V.Denot → Bool = λ e. is_of g.K.HashKey.code c.args.salt c.args.class e.0 in
    let e = c.in-Some.entry.now in (
      done ++ e ∷ [],
      is ∙ ap (λ (l : List _). done ++ l) c.in-Some.ensures.steps ∙ sym (append_assoc done (e ∷ []) c.next.new.self),
      filter-append p done (e ∷ []) ∙ ap (λ (l : List _). l ++ filter p (e ∷ [])) none
          ∙ ap (λ (b : Bool). cond b (e ∷ []) []) (sym c.is_of_class.ensures ∙ c.if-is_of_class.false),
    )

pub returns-clause-none : goal.returns-clause-none
returns-clause-none g c = λ _.
    let (done, is, none) = c.loop-entry.invariant in
    let p : g.row.K.Denot × g.row.V.Denot → Bool = λ e. is_of g.K.HashKey.code c.args.salt c.args.class e.0 in
    ap (λ (l : List _). filter p l) (is ∙ ap (λ (l : List _). done ++ l) c.in_default.ensures.steps.0 ∙ append-nil done)
    ∙ none
