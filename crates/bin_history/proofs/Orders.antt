-- The replay of records has its keys in the order of their births.
use Rattle.std.proofs.Common.{◌≡◌, ℕ, zero, suc, ◌+◌, ◌<◌, ◌≤◌, ◌&&◌, Bool, true, false, cond, Option, Some, None}
use Rattle.std.proofs.Common.{Decides, List, [], ◌∷◌, length, refl, sym}
use Rattle.std.proofs.Common.{◌∙◌, subst, add-one, arith, All, get_or}
use Rattle.std.proofs.lemmas.Grind.{common_steps}
use Rattle.std.proofs.lemmas.List.Elements.{All-cons, All-head, All-tail, All-nil}
use Rattle.bin_history.specs.Entries.{lookup, HasDistinctKeys, put, remove, store, replay}
use Rattle.bin_history.specs.Calls.{key_of}
use Rattle.bin_history.specs.Plain.{IsLegal}
use Rattle.bin_history.specs.Births.{is_birth, index_of, births_after, births_from, birth, IsInOrder}
use Rattle.bin_history.specs.declared.call.Call.{Call}
use Rattle.bin_history.specs.Records.{RecordView}
use Rattle.bin_entries.proofs.Entries.{lookup-store, HasDistinctKeys-store, All-store, All-cond}

module _ {K V : Type 0} (same : K → K → Bool) (tells : (x y : K) → Decides (same x y) (x ≡ y)) where
  All-remove : (P : K → Type 0) (es : List (K × V)) (k : K) → All (λ e. P e.0) es → All (λ e. P e.0) (remove same es k)
  All-remove P [] k h = h
  All-remove P (e ∷ es) k h =
      let Q : K × V → Type 0 = λ x. P x.0 in
      let rest = All-tail Q e es h in
      All-cond Q (same e.0 k) es (e ∷ remove same es k) rest
      (All-cons Q e _ (All-head Q e es h) (All-remove P es k rest))

  -- what holds of each key holds of one that is there
  All-lookup : (P : K → Type 0) (es : List (K × V)) (k : K) (v : V) → All (λ e. P e.0) es →
      lookup same es k ≡ Some v → P k
  All-lookup P [] k v h l = absurd cc
  All-lookup P (e ∷ es) k v h l = go (All-lookup P es k v (All-tail Q e es h)) (same e.0 k) refl where
    Q : K × V → Type 0
    Q x = P x.0

    go : (lookup same es k ≡ Some v → P k) → (b : Bool) → same e.0 k ≡ b → P k
    go rest true s = subst P ((tells e.0 k).0 s) (All-head Q e es h)
    go rest false s = rest (rw s at l)

  IsInOrder-cond : (f : K → ℕ) (b : Bool) (xs ys : List (K × V)) → IsInOrder f xs → IsInOrder f ys →
      IsInOrder f (cond b xs ys)
  IsInOrder-cond f true xs ys p q = p
  IsInOrder-cond f false xs ys p q = q

  IsInOrder-remove : (f : K → ℕ) (es : List (K × V)) (k : K) → IsInOrder f es → IsInOrder f (remove same es k)
  IsInOrder-remove f [] k o = tt
  IsInOrder-remove f (e ∷ es) k o = IsInOrder-cond f (same e.0 k) es (e ∷ remove same es k) o.1
      (All-remove (λ x. f e.0 < f x) es k o.0, IsInOrder-remove f es k o.1)

  -- a key that is there keeps its place
  IsInOrder-put : (f : K → ℕ) (es : List (K × V)) (k : K) (v w : V) → IsInOrder f es → lookup same es k ≡ Some w →
      IsInOrder f (put same es k v)
  IsInOrder-put f [] k v w o l = absurd cc
  IsInOrder-put f (e ∷ es) k v w o l = go (IsInOrder-put f es k v w o.1) (same e.0 k) refl where
    go : (lookup same es k ≡ Some w → IsInOrder f (put same es k v)) → (b : Bool) → same e.0 k ≡ b →
        IsInOrder f (cond b ((e.0, v) ∷ es) (e ∷ put same es k v))
    go rest true s = o
    go rest false s =
        let here : lookup same es k ≡ Some w = rw s at l in (
          All-store same tells (λ x. f e.0 < f x) es k (Some v) o.0 (All-lookup (λ x. f e.0 < f x) es k w o.0 here),
          rest here,
        )

  -- a new key goes last
  IsInOrder-add : (f : K → ℕ) (n : ℕ) (es : List (K × V)) (k : K) (v : V) → IsInOrder f es → All (λ e. f e.0 < n) es →
      lookup same es k ≡ None
      → IsInOrder (λ q. cond (same k q) n (f q)) (put same es k v)
  IsInOrder-add f n [] k v o b l = (All-nil (λ (x : K × V). cond (same k k) n (f k) < cond (same k x.0) n (f x.0)), tt)
  IsInOrder-add f n (e ∷ es) k v o b l = go (IsInOrder-add f n es k v o.1 (All-tail B e es b)) (same e.0 k) refl where
    B : K × V → Type 0
    B x = f x.0 < n

    g : K → ℕ
    g q = cond (same k q) n (f q)

    go : (lookup same es k ≡ None → IsInOrder g (put same es k v)) → (c : Bool) → same e.0 k ≡ c →
        IsInOrder g (cond c ((e.0, v) ∷ es) (e ∷ put same es k v))
    go rest true s = let here = rw s at l in absurd cc
    go rest false s =
        let absent : lookup same es k ≡ None = rw s at l in
        let t = tells e.0 k in
        let u = tells k e.0 in
        let low : f e.0 < n = All-head B e es b in
        let mine : g e.0 ≡ f e.0 = grind (arith, common_steps) in
        let at_k : g e.0 < g k = let w = tells k k in grind (arith, common_steps) in
        let each : All (λ x. g e.0 < g x.0) es = λ i d m. let a : f e.0 < f (get_or es i d).0 = o.0 i d m in
        grind (arith, common_steps) in
        (All-store same tells (λ x. g e.0 < g x) es k (Some v) each at_k, rest absent)

no_birth : (x : Bool) (n m : ℕ) → cond (x && false) n m ≡ m
no_birth true n m = refl
no_birth false n m = refl

one_birth : (x : Bool) (n m : ℕ) → cond (x && true) n m ≡ cond x n m
one_birth true n m = refl
one_birth false n m = refl

cond-lt : (b : Bool) (n m : ℕ) → m < n → cond b n m < n + 1
cond-lt true n m l = omega arith
cond-lt false n m l = omega arith

module _ {K V : Type 0} (same : K → K → Bool) (tells : (x y : K) → Decides (same x y) (x ≡ y)) where
  -- the keys stand in the order of births after a value is stored
  in_order_stored : (n : ℕ) (f : K → ℕ) (es : List (K × V)) (k : K) → IsInOrder f es → All (λ e. f e.0 < n) es →
      (b a : Option V) → b ≡ lookup same es k
      → IsInOrder (λ q. cond (same k q && is_birth b a) n (f q)) (store same es k a)
  in_order_stored n f es k o l None None is = let P : (K → ℕ) → Type 0 = λ g. IsInOrder g (remove same es k) in
      subst P (λ i q. sym (no_birth (same k q) n (f q)) i) (IsInOrder-remove same tells f es k o)
  in_order_stored n f es k o l (Some x) None is = let P : (K → ℕ) → Type 0 = λ g. IsInOrder g (remove same es k) in
      subst P (λ i q. sym (no_birth (same k q) n (f q)) i) (IsInOrder-remove same tells f es k o)
  in_order_stored n f es k o l (Some x) (Some v) is = let P : (K → ℕ) → Type 0 = λ g. IsInOrder g (put same es k v) in
      subst P (λ i q. sym (no_birth (same k q) n (f q)) i) (IsInOrder-put same tells f es k v x o (sym is))
  in_order_stored n f es k o l None (Some v) is = let P : (K → ℕ) → Type 0 = λ g. IsInOrder g (put same es k v) in
      subst P (λ i q. sym (one_birth (same k q) n (f q)) i) (IsInOrder-add same tells f n es k v o l (sym is))

  -- the new births are below n + 1
  below_stored : (n : ℕ) (f : K → ℕ) (es : List (K × V)) (k : K) → All (λ e. f e.0 < n) es → (b a : Option V) →
      b ≡ lookup same es k
      → All (λ e. cond (same k e.0 && is_birth b a) n (f e.0) < n + 1) (store same es k a)
  below_stored n f es k l b a is =
      let g : K → ℕ = λ q. cond (same k q && is_birth b a) n (f q) in
      let old : All (λ e. g e.0 < n + 1) es = λ i d m. cond-lt (same k (get_or es i d).0 && is_birth b a) n
      (f (get_or es i d).0) (l i d m) in
      at_store a refl old where
        at_store : (c : Option V) → a ≡ c → All (λ e. cond (same k e.0 && is_birth b a) n (f e.0) < n + 1) es
            → All (λ e. cond (same k e.0 && is_birth b a) n (f e.0) < n + 1) (store same es k c)
        at_store None e h = All-remove same tells (λ q. cond (same k q && is_birth b a) n (f q) < n + 1) es k h
        at_store (Some v) e h = All-store same tells (λ q. cond (same k q && is_birth b a) n (f q) < n + 1) es k
            (Some v) h (at_key b refl) where
              at_key : (o : Option V) → b ≡ o → cond (same k k && is_birth b a) n (f k) < n + 1
              at_key None e' = let t = tells k k in grind (arith, common_steps)
              at_key (Some x) e' = let m = All-lookup same tells (λ q. f q < n) es k x l (sym is ∙ e') in
                  cond-lt (same k k && is_birth b a) n (f k) m

module _ {K V F : Type 0} (same : K → K → Bool) (tells : (x y : K) → Decides (same x y) (x ≡ y)) (after : Call K V F →
    Option V → Option V) where
  in_order_from : (n : ℕ) (f : K → ℕ) (es : List (K × V)) (rs : List (RecordView K V F)) → HasDistinctKeys same es →
      IsLegal same after (lookup same es) rs
      → IsInOrder f es → All (λ e. f e.0 < n) es → IsInOrder (births_from same n f rs) (replay same es rs)
  in_order_from n f es [] d l o b = o
  in_order_from n f es (r ∷ rs) d l o b =
      let k = key_of r.call in
      let P : (K → Option V) → Type 0 = λ m. IsLegal same after m rs in
      let below : All (λ e. births_after same n f r e.0 < suc n) (store same es k r.after) =
      rw (← add-one) (below_stored same tells n f es k b r.before r.after l.0.0) in
      in_order_from (suc n) (births_after same n f r) (store same es k r.after) rs
      (HasDistinctKeys-store same tells es k r.after d)
      (subst P (λ i q. sym (lookup-store same tells es k r.after d q) i) l.1)
      (in_order_stored same tells n f es k o b r.before r.after l.0.0)
      below

module _ {K V : Type 0} (same : K → K → Bool) (tells : (x y : K) → Decides (same x y) (x ≡ y)) where
  index_of-le : (es : List (K × V)) (i : ℕ) (d : K × V) → i < length es → index_of same es (get_or es i d).0 ≤ i
  index_of-le [] i d l = absurd (omega arith)
  index_of-le (e ∷ es) zero d l = let t = tells e.0 e.0 in grind (arith, common_steps)
  index_of-le (e ∷ es) (suc i) d l = let ih = index_of-le es i d in grind (arith, common_steps)

  All-apart : (es : List (K × V)) (k : K) → lookup same es k ≡ None → All (λ x. same k x.0 ≡ false) es
  All-apart [] k l = All-nil (λ (x : K × V). same k x.0 ≡ false)
  All-apart (e ∷ es) k l = go (All-apart es k) (same e.0 k) refl where
    go : (lookup same es k ≡ None → All (λ x. same k x.0 ≡ false) es) → (b : Bool) → same e.0 k ≡ b →
        All (λ x. same k x.0 ≡ false) (e ∷ es)
    go rest true s = let here = rw s at l in absurd cc
    go rest false s =
        let t = tells e.0 k in
        let u = tells k e.0 in
        All-cons (λ (x : K × V). same k x.0 ≡ false) e es (grind (arith, common_steps)) (rest (rw s at l))

  IsInOrder-suc : (f g : K → ℕ) (es : List (K × V)) → All (λ x. g x.0 ≡ suc (f x.0)) es →
      IsInOrder f es → IsInOrder g es
  IsInOrder-suc f g [] h o = tt
  IsInOrder-suc f g (e ∷ es) h o =
      let Q : K × V → Type 0 = λ x. g x.0 ≡ suc (f x.0) in
      let here : g e.0 ≡ suc (f e.0) = All-head Q e es h in
      let rest = All-tail Q e es h in (
        (λ i d m. let a : f e.0 < f (get_or es i d).0 = o.0 i d m in
            let b : g (get_or es i d).0 ≡ suc (f (get_or es i d).0) = rest i d m in omega arith),
        IsInOrder-suc f g es rest o.1,
      )

  pub IsInOrder-index_of : (es : List (K × V)) → HasDistinctKeys same es → IsInOrder (index_of same es) es
  IsInOrder-index_of [] d = tt
  IsInOrder-index_of (e ∷ es) d =
      let t = tells e.0 e.0 in
      let apart = All-apart es e.0 d.0 in
      let next : All (λ x. index_of same (e ∷ es) x.0 ≡ suc (index_of same es x.0)) es =
      λ i c m. let a : same e.0 (get_or es i c).0 ≡ false = apart i c m in
      grind (arith, common_steps) in (
        (λ i c m. let a : same e.0 (get_or es i c).0 ≡ false = apart i c m in grind (arith, common_steps)),
        IsInOrder-suc (index_of same es) (index_of same (e ∷ es)) es next (IsInOrder-index_of es d.1),
      )

  pub All-index_of : (es : List (K × V)) → All (λ e. index_of same es e.0 < length es) es
  All-index_of es = λ i d m. let l = index_of-le es i d m in omega arith

module _ {K V F : Type 0} (same : K → K → Bool) (tells : (x y : K) → Decides (same x y) (x ≡ y)) (after : Call K V F →
    Option V → Option V) where
  -- the entries of a replay stand in the order of their births
  pub in_order_replay : (base : List (K × V)) (rs : List (RecordView K V F)) → HasDistinctKeys same base →
      IsLegal same after (lookup same base) rs
      → IsInOrder (birth same base rs) (replay same base rs)
  in_order_replay base rs d l = in_order_from same tells after (length base) (index_of same base) base rs d l
      (IsInOrder-index_of same tells base d)
      (All-index_of same tells base)
