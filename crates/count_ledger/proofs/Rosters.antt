-- The passes that nobody took, beside the others.
use Rattle.std.proofs.Common.{◌≡◌, ℕ, zero, suc, ◌+◌, ◌-◌, ◌≤◌, List, [], ◌∷◌, ◌++◌, map, length, refl, sym, ap, ◌∙◌}
use Rattle.std.proofs.Common.{Option, arith}
use Rattle.std.specs.List.{range_with_len}
use Rattle.std.proofs.lemmas.List.{map-append, length-append}
use Rattle.count_ledger.specs.declared.books.Book.{Book}
use Rattle.count_ledger.specs.Opening.{left_in, new_pass}
use Rattle.count_ledger.specs.Rule.{new_pass_book}
use Rattle.count_ledger.specs.Steps.{only_view}
use Rattle.count_ledger.specs.Tokens.{moment_books, pass_book, role_book}
use Rattle.count_ledger.specs.Views.{LedgerId, MomentView, PassView, RoleView, RosterView}

range_length : {X : Type 0} (f : ℕ → X) (a n : ℕ) → length (map f (range_with_len a n)) ≡ n
range_length f a zero = refl
range_length f a (suc n) = ap suc (range_length f (a + 1) n)

module _ {K V F : Type 0} where
  pass_books : (id : LedgerId) (cs : List ℕ) →
      map (pass_book {K = K} {V = V} {F = F}) (map (new_pass id) cs) ≡ map new_pass_book cs
  pass_books id [] = refl
  pass_books id (c ∷ cs) = ap (λ (l : List (Book K V F)). new_pass_book c ∷ l) (pass_books id cs)

  -- with the passes that nobody took there are as many as clients
  pub enough_with : (ps : List (PassView K V F)) (roster : RosterView) → roster.next ≤ length ps →
      roster.clients ≤ length (ps ++ left_in roster)
  enough_with ps roster taken =
      let both = length-append ps (left_in roster) in
      let left = range_length (new_pass {K = K} {V = V} {F = F} roster.ledger) roster.next
      (roster.clients - roster.next) in
      omega arith

  -- the books of the roster, of passes, of roles and of a moment, as they came together
  pub all_with : (ps : List (PassView K V F)) (roster : RosterView) (rs : List (RoleView K V F))
      (known : Option (MomentView K V F)) (v1 v2 v3 v4 : List (List (Book K V F))) (books : List (Book K V F))
      → v1 ≡ map new_pass_book (range_with_len roster.next (roster.clients - roster.next)) ∷ []
      → v2 ≡ (map pass_book ps ++ only_view v1) ∷ [] → v3 ≡ (map role_book rs ++ only_view v2) ∷ []
      → v4 ≡ (moment_books known ++ only_view v3) ∷ [] → v4 ≡ books ∷ []
      → books ≡ moment_books known ++ (map role_book rs ++ map pass_book (ps ++ left_in roster))
  all_with ps roster rs known v1 v2 v3 v4 books e1 e2 e3 e4 e5 =
      let cs = range_with_len roster.next (roster.clients - roster.next) in
      let passes : only_view v2 ≡ map pass_book (ps ++ left_in roster) =
      ap only_view e2
      ∙ ap (λ (b : List (Book K V F)). map pass_book ps ++ b) (ap only_view e1 ∙ sym (pass_books roster.ledger cs))
      ∙ sym (map-append pass_book ps (left_in roster)) in
      let roles : only_view v3 ≡ map role_book rs ++ map pass_book (ps ++ left_in roster) =
      ap only_view e3 ∙ ap (λ (b : List (Book K V F)). map role_book rs ++ b) passes in
      sym (ap only_view e5) ∙ ap only_view e4 ∙ ap (λ (b : List (Book K V F)). moment_books known ++ b) roles
