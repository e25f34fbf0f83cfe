-- A walk that goes on by one class.
use Rattle.std.proofs.Common.{◌≡◌, ℕ, ◌+◌, ◌*◌, ◌%◌, ◌^◌, ◌≤◌, ◌⊎◌, inl, inr, Bool, true, false, cond, List, [], ◌∷◌}
use Rattle.std.proofs.Common.{◌++◌, All, sum_by, sym, ap, subst, refl}
use Rattle.std.proofs.Common.{◌∙◌, arith}
use Rattle.std.proofs.Math.Nat.{mod-eq_of_lt, mod-le}
use Rattle.std.proofs.lemmas.Bool.{eqb-true, eq-eqb, false≢true}
use Rattle.std.proofs.lemmas.List.Elements.{All-nil, All-head, All-tail, All-push, All-weaker}
use Rattle.std.proofs.lemmas.List.Sums.{sum_by-append, sum_by-cons}
use Rattle.hashkeys.specs.Classes.{ClassView, IsClass, IsTableSize, covers, covering}
use Rattle.bin_layout.specs.Walks.{Precedes, Before, AreInOrder, HasPassed, IsFirstAfter, IsLastInWalk, IsWalk}
use Rattle.bin_layout.specs.Walks.{IsWalkTo}
use Rattle.bin_layout.proofs.Walks.{doubled, not_before}

AreInOrder-push : (n : ℕ) (cs : List ClassView) (c : ClassView) → AreInOrder n cs → All (λ x. Before n x c) cs →
    AreInOrder n (cs ++ c ∷ [])
AreInOrder-push n [] c o b = (All-nil (Before n c), tt)
AreInOrder-push n (x ∷ xs) c (a, o) b = (
  All-push (Before n x) xs c a (All-head (λ y. Before n y c) x xs b),
  AreInOrder-push n xs c o (All-tail (λ y. Before n y c) x xs b),
)

module _ (n : ℕ) (classes : List ClassView) (next class : ClassView) (size : IsTableSize n) (next_class : IsClass next)
    (own_class : IsClass class)
    (least : n ≤ class.n) (walk : IsWalkTo n classes next) (of : covers class next.index ≡ true)
    (wide : next.n ≤ class.n) where
  same_index : class.index ≡ next.index
  same_index = let lt = next_class.1 in
      sym (eqb-true (next.index % class.n) class.index of) ∙ mod-eq_of_lt (omega arith)

  more : (h : ℕ) (b : Bool) → covers class h ≡ b → covering (classes ++ class ∷ []) h ≡ covering classes h + cond b 1 0
  more h b e =
      let f : ClassView → ℕ = λ c. cond (covers c h) 1 0 in
      let one : sum_by f (class ∷ []) ≡ cond b 1 0 + 0 = sum_by-cons f class [] ∙ ap (λ (x : Bool). cond x 1 0 + 0) e in
      sum_by-append f classes (class ∷ []) ∙ ap (λ (x : ℕ). sum_by f classes + x) (let z : cond b 1 0 + 0 ≡ cond b 1 0 =
      omega arith in one ∙ z)

  each_of : (h : ℕ) (b : Bool) → covers class h ≡ b
      → (Precedes n h next.index × (covering classes h ≡ 1))
      ⊎ ((Precedes n h next.index → ⊥) × (covering classes h ≡ 0))
      → (HasPassed n class h × (covering (classes ++ class ∷ []) h ≡ 1))
      ⊎ ((HasPassed n class h → ⊥) × (covering (classes ++ class ∷ []) h ≡ 0))
  each_of h true e (inl (before, one)) = let (k, is) = doubled n class.n size own_class.0 least in
      absurd (not_before n k class is h e (subst (Precedes n h) (sym same_index) before))
  each_of h false e (inl (before, one)) =
      inl (inl (subst (Precedes n h) (sym same_index) before), more h false e ∙ ap (λ (x : ℕ). x + 0) one)
  each_of h true e (inr (not, none)) = inl (inr e, more h true e ∙ ap (λ (x : ℕ). x + 1) none)
  each_of h false e (inr (not, none)) =
      inr (
        (λ s. elim s [ inl p ↦ not (subst (Precedes n h) same_index p) | inr o ↦ absurd (false≢true (sym e ∙ o)) ]),
        more h false e
            ∙ ap (λ (x : ℕ). x + 0) none,
      )

  each : (h : ℕ) → (HasPassed n class h × (covering (classes ++ class ∷ []) h ≡ 1))
      ⊎ ((HasPassed n class h → ⊥) × (covering (classes ++ class ∷ []) h ≡ 0))
  each h = each_of h (covers class h) refl (walk.each_hash h)

  order : AreInOrder n (classes ++ class ∷ [])
  order = AreInOrder-push n classes class walk.in_order
      (All-weaker (λ c. Before n c next) (λ c. Before n c class) (λ c b. subst (Precedes n c.index) (sym same_index) b)
      classes walk.before)

  pub IsWalkTo-next : (then : ClassView) → IsFirstAfter n class then → IsWalkTo n (classes ++ class ∷ []) then
  IsWalkTo-next then first =
      let own : covers class class.index ≡ true = eq-eqb _ _ (mod-eq_of_lt own_class.1) in
      record {
        each_class = All-push IsClass classes class walk.each_class own_class;
        each_hash =
            λ h. elim (each h) [ inl p ↦ inl ((first h).0 p.0, p.1) | inr q ↦ inr ((λ b. q.0 ((first h).1 b)), q.1) ];
        in_order = order;
        before = All-push (λ c. Before n c then) classes class
            (All-weaker (λ c. Before n c next) (λ c. Before n c then)
            (λ c b. (first c.index).0 (inl (subst (Precedes n c.index) (sym same_index) b))) classes walk.before)
            ((first class.index).0 (inr own));
        least = All-push (λ c. n ≤ c.n) classes class walk.least least;
      }

  pub IsWalk-last : IsLastInWalk n class → IsWalk n (classes ++ class ∷ [])
  IsWalk-last last = record {
    each_class = All-push IsClass classes class walk.each_class own_class;
    each_hash = λ h. elim (each h) [ inl p ↦ p.1 | inr q ↦ absurd (q.0 (last h)) ];
    in_order = order;
    least = All-push (λ c. n ≤ c.n) classes class walk.least least;
  }

-- nothing stands before the hash 0
pub IsWalkTo-first : (n : ℕ) (next : ClassView) → next.index ≡ 0 → IsWalkTo n [] next
IsWalkTo-first n next zero = record {
  each_class = All-nil IsClass;
  each_hash = λ h. inr ((λ p. let (e, same, lt) = p in let le = mod-le next.index (n * 2 ^ e) in omega arith), refl);
  in_order = tt;
  before = All-nil (λ c. Before n c next);
  least = All-nil (λ c. n ≤ c.n);
}
