-- Bins and roles that are taken out, one by one.
use Rattle.std.proofs.Common.{◌≡◌, ℕ, ◌≤◌, Bool, true, Option, List, [], ◌∷◌, ◌++◌, refl, sym, ap, subst, ◌∙◌}
use Rattle.std.proofs.lemmas.List.{map-append}
use Rattle.hashkeys.specs.Classes.{ClassView, IsClass, IsTableSize, covers}
use Rattle.bin_history.specs.Lawful.{BinView}
use Rattle.bin_history.specs.declared.call.Call.{Call}
use Rattle.count_ledger.specs.Books.{classes_of_roles}
use Rattle.count_ledger.specs.Views.{RoleView}
use Rattle.bin_layout.specs.BinsWithRoles.{IsBinWithRole, AreBinsWithRoles, classes_of_bins}
use Rattle.bin_layout.specs.Views.{HomeView}
use Rattle.bin_layout.specs.Walks.{IsFirstAfter, IsLastInWalk, IsWalk, IsWalkTo}
use Rattle.bin_layout.proofs.Cursor.{IsWalkTo-first, IsWalkTo-next, IsWalk-last}

module _ {K V F : Type 0} (same : K → K → Bool) (code : K → ℕ) (after : Call K V F → Option V → Option V)
    (g : HomeView) where
  AreBinsWithRoles-push : (bs : List (BinView K V F)) (rs : List (RoleView K V F)) (b : BinView K V F)
      (r : RoleView K V F)
      → AreBinsWithRoles same code after g bs rs → IsBinWithRole same code after g b r →
      AreBinsWithRoles same code after g (bs ++ b ∷ []) (rs ++ r ∷ [])
  AreBinsWithRoles-push [] [] b r a l = (l, tt)
  AreBinsWithRoles-push (x ∷ xs) (y ∷ ys) b r a l = (a.0, AreBinsWithRoles-push xs ys b r a.1 l)
  AreBinsWithRoles-push [] (y ∷ ys) b r a l = absurd a
  AreBinsWithRoles-push (x ∷ xs) [] b r a l = absurd a

  pub classes_of_bins_and_roles : (bs : List (BinView K V F)) (rs : List (RoleView K V F)) →
      AreBinsWithRoles same code after g bs rs
      → classes_of_roles rs ≡ classes_of_bins bs
  classes_of_bins_and_roles [] [] a = refl
  classes_of_bins_and_roles (b ∷ bs) (r ∷ rs) a = ap (λ (c : ClassView). c ∷ classes_of_roles rs) (sym a.0.agree.class)
      ∙ ap (λ (cs : List ClassView). b.class ∷ cs) (classes_of_bins_and_roles bs rs a.1)
  classes_of_bins_and_roles [] (r ∷ rs) a = absurd a
  classes_of_bins_and_roles (b ∷ bs) [] a = absurd a

  pub AreBinsWithRoles-more : (bs bs' : List (BinView K V F)) (rs rs' : List (RoleView K V F)) (b : BinView K V F)
      (r : RoleView K V F) → AreBinsWithRoles same
      code after g bs rs → IsBinWithRole same code after g b r → bs' ≡ bs ++ b ∷ [] → rs' ≡ rs ++ r ∷ [] →
      AreBinsWithRoles same code after g bs' rs'
  AreBinsWithRoles-more bs bs' rs rs' b r a l eb er = rw (eb, er) (AreBinsWithRoles-push bs rs b r a l)

  pub AreBinsWithRoles-none : (bs : List (BinView K V F)) (rs : List (RoleView K V F)) → bs ≡ [] → rs ≡ [] →
      AreBinsWithRoles same code after g bs rs
  AreBinsWithRoles-none bs rs eb er = rw (eb, er) tt

module _ {K V F : Type 0} (n : ℕ) where
  pub IsWalkTo-none : (bs : List (BinView K V F)) (next : ClassView) → bs ≡ [] → next.index ≡ 0 →
      IsWalkTo n (classes_of_bins bs) next
  IsWalkTo-none bs next eb zero = rw eb (IsWalkTo-first n next zero)

  classes_more : (bs bs' : List (BinView K V F)) (b : BinView K V F) (class : ClassView) → b.class ≡ class →
      bs' ≡ bs ++ b ∷ []
      → classes_of_bins bs' ≡ classes_of_bins bs ++ class ∷ []
  classes_more bs bs' b class is eb = ap classes_of_bins eb ∙ map-append (λ (x : BinView K V F). x.class) bs (b ∷ [])
      ∙ ap (λ (c : ClassView). classes_of_bins bs ++ c ∷ []) is

  module _ (bs bs' : List (BinView K V F)) (b : BinView K V F) (next class : ClassView) (size : IsTableSize n)
      (next_class : IsClass next)
      (own_class : IsClass class) (least : n ≤ class.n) (walk : IsWalkTo n (classes_of_bins bs) next)
      (of : covers class next.index ≡ true)
      (wide : next.n ≤ class.n) (is : b.class ≡ class) (eb : bs' ≡ bs ++ b ∷ []) where
    pub IsWalkTo-more : (then : ClassView) → IsFirstAfter n class then → IsWalkTo n (classes_of_bins bs') then
    IsWalkTo-more then first = subst (λ (cs : List ClassView). IsWalkTo n cs then)
        (sym (classes_more bs bs' b class is eb))
        (IsWalkTo-next n (classes_of_bins bs) next class size next_class own_class least walk of wide then first)

    pub IsWalk-all : IsLastInWalk n class → IsWalk n (classes_of_bins bs')
    IsWalk-all last = subst (IsWalk n) (sym (classes_more bs bs' b class is eb))
        (IsWalk-last n (classes_of_bins bs) next class size next_class own_class least walk of wide last)
