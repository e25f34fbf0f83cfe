use Rattle.std.proofs.Common.{◌≡◌, Bool, true, false, cond, List, ◌∷◌, refl, sym, ap, subst, ◌∙◌, of_calls}
use Rattle.std.specs.List.{FoldsTo}
use Rattle.hashkeys.specs.Classes.{covers, is_of}
use Rattle.bin_history.specs.Part.{part_of_entries}
use Rattle.chm.specs.Cursors.{IsUsedAt}
use Rattle.chm.proofs.walks.of_class.use_at_some.Goals as goal

pub loop-entry-preserved-then-covers : goal.loop-entry-preserved-then-covers
loop-entry-preserved-then-covers g c =
    let (can, fold) = c.loop-entry.invariant in
    let class = c.args.class in
    let code = g.K.HashKey.code in
    let e = c.in-Some.entry.now in
    let rest = part_of_entries (is_of code c.args.salt class) c.next.new.self in
    let passes : is_of code c.args.salt class e.0 ≡ true =
    ap (covers class) (sym c.hash_of.ensures.hash) ∙ sym c.covers.ensures ∙ c.if-covers.true in
    let parts = ap (part_of_entries (is_of code c.args.salt class)) c.in-Some.ensures.steps
    ∙ ap (λ (b : Bool). cond b (e ∷ rest) rest) passes in (
      search of_calls,
      λ last folds. fold last
          (subst (λ (es : List _). FoldsTo (IsUsedAt (goal.G-step g)) c.loop-entry.f es last) (sym parts)
          (c.f.new.self, (_, _, refl, refl, c.f.ensures), folds)),
    )

pub loop-entry-preserved : goal.loop-entry-preserved
loop-entry-preserved g c =
    let (can, fold) = c.loop-entry.invariant in
    let class = c.args.class in
    let code = g.K.HashKey.code in
    let e = c.in-Some.entry.now in
    let rest = part_of_entries (is_of code c.args.salt class) c.next.new.self in
    let fails : is_of code c.args.salt class e.0 ≡ false =
    ap (covers class) (sym c.hash_of.ensures.hash) ∙ sym c.covers.ensures ∙ c.if-covers.false in
    let parts = ap (part_of_entries (is_of code c.args.salt class)) c.in-Some.ensures.steps
    ∙ ap (λ (b : Bool). cond b (e ∷ rest) rest) fails in (
      can,
      λ last folds. fold last
          (subst (λ (es : List _). FoldsTo (IsUsedAt (goal.G-step g)) c.loop-entry.f es last) (sym parts) folds),
    )
