-- All books of a list of tokens come into one seat, the last token's first.
use Rattle.std.proofs.Common.{◌≡◌, List, [], ◌∷◌, ◌++◌, map, sym, ap, ◌∙◌, append_assoc}
use Rattle.std.proofs.lemmas.List.{map_push}
use Rattle.atomic_table.specs.Table.{Me}
use Rattle.count_ledger.specs.Steps.{only_view}

module _ {X B : Type 0} (book : X → B) (all : List X) (start : List B) where
  -- some tokens are left, and the books of the others stand in a badge, before those that it had
  abbrev pub AreGathered : List X → List (List B) → Type 0
  AreGathered left views = (out : List X) × (all ≡ left ++ out) × (views ≡ (map book out ++ start) ∷ [])

  pub AreGathered-more : (left rest : List X) (x : X) (me : Me (Unit {0}) (List B)) (views next : List (List B)) →
      AreGathered left views
      → left ≡ rest ++ x ∷ [] → me ≡ (book x ∷ [], []) → next ≡ (me.0 ++ only_view views) ∷ [] → AreGathered rest next
  AreGathered-more left rest x me views next (out, whole, is) items at view = (
    x ∷ out,
    whole ∙ ap (λ l. l ++ out) items ∙ append_assoc rest (x ∷ []) out,
    view ∙ ap (λ (m : Me (Unit {0}) (List B)). (m.0 ++ only_view views) ∷ []) at
        ∙ ap (λ (vs : List (List B)). (book x ∷ only_view vs) ∷ []) is,
  )

-- the books of one list of tokens before those of another, whose last token was the first to come
pub all_gathered : {X Y B : Type 0} (f : X → B) (g : Y → B) (xs rest : List X) (last : X) (ys : List Y)
    (me : Me (Unit {0}) (List B)) (v1 v2 v3 : List (List B))
    (books : List B)
    → xs ≡ rest ++ last ∷ [] → me ≡ (f last ∷ [], []) → v1 ≡ me.0 ∷ [] → v2 ≡ (map f rest ++ only_view v1) ∷ [] →
    v3 ≡ (map g ys ++ only_view v2) ∷ []
    → v3 ≡ books ∷ [] → books ≡ map g ys ++ map f xs
all_gathered {X} {Y} {B} f g xs rest last ys me v1 v2 v3 books items at e1 e2 e3 e4 =
    let first : only_view v1 ≡ f last ∷ [] = ap only_view e1 ∙ ap (λ (m : Me (Unit {0}) (List B)). m.0) at in
    let second : only_view v2 ≡ map f xs = ap only_view e2 ∙ ap (λ (b : List B). map f rest ++ b) first
    ∙ sym (map_push f rest last) ∙ ap (map f) (sym items) in
    sym (ap only_view e4) ∙ ap only_view e3 ∙ ap (λ (b : List B). map g ys ++ b) second
