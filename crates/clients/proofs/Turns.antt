-- A fold over two lists, one after the other, over the entries of bins, and by another function's steps.
use Rattle.std.proofs.Common.{◌≡◌, List, [], ◌∷◌, ◌++◌, subst, sym, ap, ◌∙◌, append_assoc}
use Rattle.std.proofs.lemmas.List.{append-nil}
use Rattle.std.specs.List.{FoldsTo}
use Rattle.chm.specs.Visits.{VisitView, shown_by}

module _ {P A : Type 0} (R : P → A → P → Type 0) where
  pub FoldsTo-append : (xs ys : List A) (p q end : P) → FoldsTo R p xs q → FoldsTo R q ys end → FoldsTo R p (xs ++ ys) end
  FoldsTo-append [] ys p q end is rest = subst (λ (o : P). FoldsTo R o ys end) (sym is) rest
  FoldsTo-append (x ∷ xs) ys p q end (mid, first, others) rest = (mid, first, FoldsTo-append xs ys mid q end others rest)

module _ {P Q A : Type 0} (R : P → A → P → Type 0) (S : Q → A → Q → Type 0) (part : P → Q)
    (each : (p : P) (x : A) (q : P) → R p x q → S (part p) x (part q)) where
  pub FoldsTo-part : (xs : List A) (p q : P) → FoldsTo R p xs q → FoldsTo S (part p) xs (part q)
  FoldsTo-part [] p q is = ap part is
  FoldsTo-part (x ∷ xs) p q (mid, first, others) = (part mid, each p x mid first, FoldsTo-part xs mid q others)

module _ {K V : Type 0} where
  pub shown_by-push : (visits : List (VisitView K V)) (v : VisitView K V)
      → shown_by (visits ++ v ∷ []) ≡ shown_by visits ++ v.entries
  shown_by-push [] v = append-nil v.entries
  shown_by-push (w ∷ visits) v = ap (λ (es : List (K × V)). w.entries ++ es) (shown_by-push visits v)
      ∙ sym (append_assoc w.entries (shown_by visits) v.entries)
