-- Two passes in one seat, and each in its own again.
use Rattle.std.proofs.Common.{◌≡◌, ℕ, List, [], ◌∷◌, ◌++◌, sym, ap, ◌∙◌}
use Rattle.atomic_table.specs.Table.{Me}
use Rattle.count_ledger.specs.Steps.{first_of, rest_of, only_view}
use Rattle.count_ledger.proofs.Keeping.{both_books}

module _ {B : Type 0} (x y : B) (m n alone joined looked : Me (Unit {0}) (List B)) (views : List (List B))
    (is_m : m ≡ (x ∷ [], [])) (is_n : n ≡ (y ∷ [], [])) (is_alone : alone ≡ (first_of n.0, n.1))
    (is_views : views ≡ alone.0 ∷ []) (is_joined : joined ≡ (m.0 ++ only_view views, m.1))
    (is_looked : looked ≡ (joined.0, joined.1)) where
  -- the first book and the second
  pub both_beside : joined.0 ≡ x ∷ y ∷ []
  both_beside =
      let one : alone.0 ≡ y ∷ [] =
      ap (λ (s : Me (Unit {0}) (List B)). s.0) (is_alone ∙ ap (λ (s : Me (Unit {0}) (List B)). (first_of s.0, s.1)) is_n) in
      both_books m joined views x y is_m (is_views ∙ ap (λ (b : List B). b ∷ []) one) is_joined

  none_beside : joined.1 ≡ []
  none_beside = ap (λ (s : Me (Unit {0}) (List B)). s.1) is_joined ∙ ap (λ (s : Me (Unit {0}) (List B)). s.1) is_m

  looked_at : looked ≡ (x ∷ y ∷ [], [])
  looked_at = is_looked ∙ (λ i. (both_beside i, none_beside i))

  pub first_back : (back : Me (Unit {0}) (List B)) → back ≡ (first_of looked.0, looked.1) → back ≡ m
  first_back back is = is ∙ ap (λ (s : Me (Unit {0}) (List B)). (first_of s.0, s.1)) looked_at ∙ sym is_m

  pub second_back : (others : List (List B)) (back : Me (Unit {0}) (List B)) → others ≡ rest_of looked.0 ∷ []
      → others ≡ back.0 ∷ [] → back.1 ≡ [] → back ≡ n
  second_back others back rest own none =
      let first : back.0 ≡ y ∷ [] = sym (ap only_view own) ∙ ap only_view rest
      ∙ ap (λ (s : Me (Unit {0}) (List B)). rest_of s.0) looked_at in
      (λ i. (first i, none i)) ∙ sym is_n
