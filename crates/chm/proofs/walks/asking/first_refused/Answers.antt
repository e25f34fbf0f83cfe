use Rattle.std.proofs.Common.{◌≡◌, ◌+◌, ◌++◌, ◌∷◌, [], Bool, true, List, All, drop, length, refl, sym, ap, subst, ◌∙◌}
use Rattle.std.proofs.Common.{append_assoc, arith, length-append, of_calls}
use Rattle.std.proofs.lemmas.List.{append-nil}
use Rattle.std.proofs.lemmas.List.Elements.{All-drop, filter-append}
use Rattle.hashkeys.specs.Classes.{is_of}
use Rattle.bin_history.specs.Part.{part_of_entries}
use Rattle.chm.specs.Retained.{HasKeptAll, SaysAt}
use Rattle.chm.proofs.Asking.{FoldsTo-append}
use Rattle.chm.proofs.Removing.{entry_of}
use Rattle.chm.proofs.walks.asking.first_refused.Goals as goal

pub loop-entry-init : goal.loop-entry-init
loop-entry-init g c = (c.requires.callable, ([], sym c.left_behind-left.ensures, omega arith, refl))

pub is_refused-requires-clause-own : goal.is_refused-requires-clause-own
is_refused-requires-clause-own g c =
    let (can, (done, is, place, kept)) = c.loop-entry.invariant in
    let P : g.row.K.Denot × g.row.V.Denot → Type 0 = λ e. is_of g.K.HashKey.code c.args.salt c.args.own e.0 ≡ true in
    entry_of P (drop c.args.past c.args.walk) c.in-Some.entry.now
    (done, c.next.new.self, is ∙ ap (λ (l : List _). done ++ l) c.in-Some.ensures.steps)
    (All-drop P c.args.past c.args.walk c.requires.own)

pub returns-then-is_refused-clause-found : goal.returns-then-is_refused-clause-found
returns-then-is_refused-clause-found g c =
    let (can, (done, is, place, kept)) = c.loop-entry.invariant in
    record {
      mid = done;
      rest = c.next.new.self;
      parts = is ∙ ap (λ (l : List _). done ++ l) c.in-Some.ensures.steps;
      place_is = place;
      asked_at = c.loop-entry.keeps;
      kept = kept;
      said = c.is_refused.ensures.said c.if-is_refused.true;
      of = c.is_refused.ensures.of c.if-is_refused.true;
    }

pub loop-entry-preserved : goal.loop-entry-preserved
loop-entry-preserved g c =
    let (can, (done, is, place, kept)) = c.loop-entry.invariant in
    let e = c.in-Some.entry.now in
    let test = is_of g.K.HashKey.code c.args.salt c.args.class in
    let says : _ → g.row.K.Denot × g.row.V.Denot → _ → Type 0 = λ i x j. SaysAt (goal.G-step g) i x true j in
    let sum = length-append done (e ∷ []) in
    let next = c.place_behind-place.ensures in (
      c.is_refused.ensures.callable,
      (
        done ++ e ∷ [],
        is ∙ ap (λ (l : List _). done ++ l) c.in-Some.ensures.steps ∙ sym (append_assoc done (e ∷ []) c.next.new.self),
        omega (arith, sum, next, place),
        subst (λ (l : List _). HasKeptAll (goal.G-step g) c.args.keeps.now l c.is_refused.new.keeps)
            (sym (filter-append (λ (x : g.row.K.Denot × g.row.V.Denot). test x.0) done (e ∷ [])))
            (FoldsTo-append says c.args.keeps.now (part_of_entries test done) c.loop-entry.keeps
            (part_of_entries test (e ∷ [])) c.is_refused.new.keeps kept
            (c.is_refused.ensures.kept c.if-is_refused.false)),
      ),
    )

pub returns-clause-none : goal.returns-clause-none
returns-clause-none g c =
    let (can, (done, is, place, kept)) = c.loop-entry.invariant in
    subst (λ (l : List _). HasKeptAll (goal.G-step g) c.args.keeps.now
    (part_of_entries (is_of g.K.HashKey.code c.args.salt c.args.class) l) c.loop-entry.keeps)
    (sym (is ∙ ap (λ (l : List _). done ++ l) c.in_default.ensures.steps.0 ∙ append-nil done)) kept
