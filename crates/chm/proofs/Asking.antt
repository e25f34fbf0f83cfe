-- What a function returned for entries, one after the other.
use Rattle.std.proofs.Common.{◌≡◌, ℕ, ◌+◌, Bool, true, false, cond, filter, List, []}
use Rattle.std.proofs.Common.{◌∷◌, ◌++◌, length, drop, All, refl, sym, ap, subst, ◌∙◌}
use Rattle.std.specs.List.{AllZip, FoldsTo}
use Rattle.std.proofs.lemmas.List.{drop_at}
use Rattle.std.proofs.lemmas.List.Elements.{All-nil, All-cons, filter-append}
use Rattle.hashkeys.specs.Classes.{ClassView, is_of}
use Rattle.bin_history.specs.Part.{part_of_entries}
use Rattle.count_ledger.specs.Views.{LedgerView}
use Rattle.chm.specs.Retained.{kept_of, removed_of}

pub FoldsTo-append : {P A : Type 0} (R : P → A → P → Type 0) (p : P) (xs : List A) (q : P) (ys : List A) (s : P) →
    FoldsTo R p xs q → FoldsTo R q ys s → FoldsTo R p (xs ++ ys) s
FoldsTo-append R p [] q ys s a b = subst (λ x. FoldsTo R x ys s) (sym a) b
FoldsTo-append R p (x ∷ xs) q ys s (j, r, rest) b = (j, r, FoldsTo-append R j xs q ys s rest b)

pub AllZip-append : {A B : Type 0} (R : A → B → Type 0) (xs : List A) (ys : List B) (x : A) (y : B) → AllZip R xs ys →
    R x y → AllZip R (xs ++ x ∷ []) (ys ++ y ∷ [])
AllZip-append R [] [] x y a b = (b, tt)
AllZip-append R [] (z ∷ ys) x y a b = absurd a
AllZip-append R (z ∷ xs) [] x y a b = absurd a
AllZip-append R (z ∷ xs) (w ∷ ys) x y a b = (a.0, AllZip-append R xs ys x y a.1 b)

pub AllZip-each : {A B : Type 0} (R : A → B → Type 0) (Q : B → Type 0) (each : (x : A) (y : B) → R x y → Q y) (xs : List A)
    (ys : List B) → AllZip R xs ys → All Q ys
AllZip-each R Q each [] [] a = All-nil Q
AllZip-each R Q each [] (y ∷ ys) a = absurd a
AllZip-each R Q each (x ∷ xs) [] a = absurd a
AllZip-each R Q each (x ∷ xs) (y ∷ ys) a = All-cons Q y ys (each x y a.0) (AllZip-each R Q each xs ys a.1)

with_one : {X : Type 0} (b : Bool) (x : X) (xs ys zs : List X) → zs ≡ xs ++ ys →
    cond b (x ∷ zs) zs ≡ cond b (x ∷ xs) xs ++ ys
with_one true x xs ys zs is = ap (λ (l : List _). x ∷ l) is
with_one false x xs ys zs is = is

without_one : {X : Type 0} (b : Bool) (x : X) (xs ys zs : List X) → zs ≡ xs ++ ys →
    cond b zs (x ∷ zs) ≡ cond b xs (x ∷ xs) ++ ys
without_one true x xs ys zs is = is
without_one false x xs ys zs is = ap (λ (l : List _). x ∷ l) is

module _ {K V : Type 0} where
  pub kept-append : (ts us : List ((K × V) × Bool)) → kept_of (ts ++ us) ≡ kept_of ts ++ kept_of us
  kept-append [] us = refl
  kept-append (t ∷ ts) us = with_one t.1 t.0 (kept_of ts) (kept_of us) (kept_of (ts ++ us)) (kept-append ts us)

  pub removed-append : (ts us : List ((K × V) × Bool)) → removed_of (ts ++ us) ≡ removed_of ts ++ removed_of us
  removed-append [] us = refl
  removed-append (t ∷ ts) us =
      without_one t.1 t.0 (removed_of ts) (removed_of us) (removed_of (ts ++ us)) (removed-append ts us)

  -- the function returned true for each of these
  abbrev pub stays : List (K × V) → List ((K × V) × Bool)
  stays [] = []
  stays (e ∷ es) = (e, true) ∷ stays es

  pub kept-stays : (es : List (K × V)) → kept_of (stays es) ≡ es
  kept-stays [] = refl
  kept-stays (e ∷ es) = ap (λ (l : List (K × V)). e ∷ l) (kept-stays es)

  pub removed-stays : (es : List (K × V)) → removed_of (stays es) ≡ []
  removed-stays [] = refl
  removed-stays (e ∷ es) = removed-stays es

module _ {K V : Type 0} (code : K → ℕ) (ledger : LedgerView K V) (class : ClassView) where
  -- what is behind the place of settled entries
  pub behind : (past : ℕ) (entries front rest : List (K × V)) → entries ≡ front ++ rest → length front ≡ past →
      drop past entries ≡ rest
  behind past entries front rest parts place =
      ap (drop past) parts ∙ drop_at front rest past place

  pub parted : (turns : List ((K × V) × Bool)) (past : ℕ) (entries front rest : List (K × V)) → entries ≡ front ++ rest →
      length front ≡ past → part_of_entries (is_of code ledger.salt class) front ≡ kept_of turns →
      part_of_entries (is_of code ledger.salt class) entries
      ≡ kept_of turns ++ part_of_entries (is_of code ledger.salt class) (drop past entries)
  parted turns past entries front rest parts place kept =
      let p : K × V → Bool = λ e. is_of code ledger.salt class e.0 in
      ap (λ (es : List (K × V)). filter p es) parts ∙ filter-append p front rest
      ∙ ap (λ (es : List (K × V)). es ++ filter p rest) kept
      ∙ ap (λ (es : List (K × V)). kept_of turns ++ filter p es) (sym (behind past entries front rest parts place))
