-- What all clients made and what all roles keep have one sum of deltas.
use Rattle.std.proofs.Common.{◌≡◌, ℕ, ◌+◌, ◌<◌, ◌==◌, Bool, true, false, cond, ℤ, pos, ◌+ℤ◌, List, [], ◌∷◌, length}
use Rattle.std.proofs.Common.{filter, count_by, refl, sym, ap, ◌∙◌, arith}
use Rattle.std.proofs.Common.{All}
use Rattle.std.proofs.lemmas.Int.{ints}
use Rattle.std.proofs.lemmas.List.Elements.{All-head, All-tail, All-weaker}
use Rattle.hashkeys.specs.Classes.{covers, covering, is_of}
use Rattle.hashkeys.specs.Hashing.{hash_of}
use Rattle.bin_history.specs.Calls.{key_of}
use Rattle.bin_history.specs.Deltas.{delta, sum_of_deltas}
use Rattle.bin_history.specs.Part.{part_of_entries, part_of_records}
use Rattle.bin_history.specs.Records.{RecordView}
use Rattle.count_ledger.specs.Views.{LedgerView, PassView, RoleView}
use Rattle.bin_history.specs.Clients.{by_client}
use Rattle.count_ledger.specs.Books.{BooksAgree, IsRoleOf, classes_of_roles}
use Rattle.count_ledger.specs.Settled.{AreReconciled}
use Rattle.count_ledger.specs.Words.{total_of, total_made, total_kept}
use Rattle.count_ledger.proofs.Filters.{count_by-cons, eqb_turn}

module _ {X : Type 0} where
  total_of-same : (f g : X → ℤ) (xs : List X) → All (λ x. f x ≡ g x) xs → total_of f xs ≡ total_of g xs
  total_of-same f g [] a = refl
  total_of-same f g (x ∷ xs) a = let E : X → Type 0 = λ y. f y ≡ g y in let h = All-head E x xs a in
      let ih = total_of-same f g xs (All-tail E x xs a) in
      omega (arith, ints)

  total_of-add : (f g : X → ℤ) (xs : List X) → total_of (λ x. f x +ℤ g x) xs ≡ total_of f xs +ℤ total_of g xs
  total_of-add f g [] = refl
  total_of-add f g (x ∷ xs) = let ih = total_of-add f g xs in omega (arith, ints)

  total_of-zero : (xs : List X) → total_of (λ _. pos 0) xs ≡ pos 0
  total_of-zero [] = refl
  total_of-zero (x ∷ xs) = let ih = total_of-zero xs in omega (arith, ints)

  total_of-one : (xs : List X) → total_of (λ _. pos 1) xs ≡ pos (length xs)
  total_of-one [] = refl
  total_of-one (x ∷ xs) = let ih = total_of-one xs in omega (arith, ints)

  total_of-none : (p : X → Bool) (z : ℤ) (xs : List X) → count_by p xs ≡ 0 →
      total_of (λ x. cond (p x) z (pos 0)) xs ≡ pos 0
  total_of-none p z [] e = refl
  total_of-none p z (x ∷ xs) e = go (p x) (total_of-none p z xs) (sym (count_by-cons p x xs) ∙ e) where
    go : (b : Bool) → (count_by p xs ≡ 0 → total_of (λ x. cond (p x) z (pos 0)) xs ≡ pos 0) →
        cond b 1 0 + count_by p xs ≡ 0
        → cond b z (pos 0) +ℤ total_of (λ x. cond (p x) z (pos 0)) xs ≡ pos 0
    go true ih c = absurd (omega arith)
    go false ih c = let r = ih (omega arith) in omega (arith, ints)

  -- a number that is added where a test passes, which it does once
  total_of-once : (p : X → Bool) (z : ℤ) (xs : List X) → count_by p xs ≡ 1 → total_of (λ x. cond (p x) z (pos 0)) xs ≡ z
  total_of-once p z [] e = absurd (omega (arith, e))
  total_of-once p z (x ∷ xs) e = go (p x) (total_of-once p z xs) (sym (count_by-cons p x xs) ∙ e) where
    go : (b : Bool) → (count_by p xs ≡ 1 → total_of (λ x. cond (p x) z (pos 0)) xs ≡ z) → cond b 1 0 + count_by p xs ≡ 1
        → cond b z (pos 0) +ℤ total_of (λ x. cond (p x) z (pos 0)) xs ≡ z
    go true ih c = let r = total_of-none p z xs (omega arith) in omega (arith, ints)
    go false ih c = let r = ih (omega arith) in omega (arith, ints)

total_of-swap : {X Y : Type 0} (f : X → Y → ℤ) (xs : List X) (ys : List Y) → total_of (λ x. total_of (f x) ys) xs
    ≡ total_of (λ y. total_of (λ x. f x y) xs) ys
total_of-swap {X} {Y} f [] ys = sym (total_of-zero ys)
total_of-swap f (x ∷ xs) ys = ap (λ z. total_of (f x) ys +ℤ z) (total_of-swap f xs ys)
    ∙ sym (total_of-add (f x) (λ y. total_of (λ x. f x y) xs) ys)

-- a list is cut by tests of which each member passes one
total_of-cut : {X T : Type 0} (passes : T → X → Bool) (f : X → ℤ) (ts : List T) (xs : List X) →
    All (λ x. count_by (λ t. passes t x) ts ≡ 1) xs
    → total_of (λ t. total_of f (filter (passes t) xs)) ts ≡ total_of f xs
total_of-cut passes f ts [] a = total_of-zero ts
total_of-cut {X} {T} passes f ts (x ∷ xs) a =
    let C : X → Type 0 = λ y. count_by (λ t. passes t y) ts ≡ 1 in
    ap (λ (g : T → ℤ). total_of g ts) (λ i t. first (passes t x) (filter (passes t) xs) i)
    ∙ total_of-add (λ t. cond (passes t x) (f x) (pos 0)) (λ t. total_of f (filter (passes t) xs)) ts
    ∙ ap (λ z. z +ℤ total_of (λ t. total_of f (filter (passes t) xs)) ts)
    (total_of-once (λ t. passes t x) (f x) ts (All-head C x xs a))
    ∙ ap (λ z. f x +ℤ z) (total_of-cut passes f ts xs (All-tail C x xs a)) where
      first : (b : Bool) (rest : List X) → total_of f (cond b (x ∷ rest) rest) ≡ cond b (f x) (pos 0) +ℤ total_of f rest
      first true rest = refl
      first false rest = omega (arith, ints)

sum_of_deltas_is : {K V F : Type 0} (rs : List (RecordView K V F)) → sum_of_deltas rs ≡ total_of delta rs
sum_of_deltas_is [] = refl
sum_of_deltas_is (r ∷ rs) = ap (λ z. delta r +ℤ z) (sum_of_deltas_is rs)

module _ {K V F : Type 0} (code : K → ℕ) (ledger : LedgerView K V) where
  -- each key is of one role's class
  one_role : (roles : List (RoleView K V F)) (k : K) → All (IsRoleOf code ledger) roles
      → count_by (λ r. is_of code r.salt r.class k) roles ≡ covering (classes_of_roles roles)
      (hash_of ledger.salt (code k))
  one_role [] k a = refl
  one_role (r ∷ rs) k a =
      count_by-cons (λ s. is_of code s.salt s.class k) r rs
      ∙ ap (λ s. cond (covers r.class (hash_of s (code k))) 1 0 + count_by (λ s. is_of code s.salt s.class k) rs)
      (All-head (IsRoleOf code ledger) r rs a).salt
      ∙ ap (λ n. cond (covers r.class (hash_of ledger.salt (code k))) 1 0 + n)
      (one_role rs k (All-tail (IsRoleOf code ledger) r rs a))
      ∙ sym (count_by-cons (λ c. covers c (hash_of ledger.salt (code k))) r.class (classes_of_roles rs))

  module _ (passes : List (PassView K V F)) (roles : List (RoleView K V F))
      (all : AreReconciled code ledger passes roles) where
    key_once : (k : K) → count_by (λ r. is_of code r.salt r.class k) roles ≡ 1
    key_once k = one_role roles k all.each_role ∙ all.each_hash (hash_of ledger.salt (code k))

    everywhere : {X : Type 0} (P : X → Type 0) (xs : List X) → ((x : X) → P x) → All P xs
    everywhere P xs p i d lt = p _

    made_cut : (made : List (RecordView K V F)) →
        total_of (λ r. sum_of_deltas (part_of_records (is_of code r.salt r.class) made)) roles ≡ sum_of_deltas made
    made_cut made =
        ap (λ (g : RoleView K V F → ℤ). total_of g roles)
        (λ i r. sum_of_deltas_is (part_of_records (is_of code r.salt r.class) made) i)
        ∙ total_of-cut (λ (r : RoleView K V F) x. is_of code r.salt r.class (key_of x.call)) delta roles made
        (everywhere (λ x. count_by (λ r. is_of code r.salt r.class (key_of x.call)) roles ≡ 1) made
        (λ x. key_once (key_of x.call)))
        ∙ sym (sum_of_deltas_is made)

    kept_cut : (kept : List (RecordView K V F)) → All (λ x. x.client < ledger.clients) kept
        → total_of (λ p. sum_of_deltas (by_client p.client kept)) passes ≡ sum_of_deltas kept
    kept_cut kept low =
        ap (λ (g : PassView K V F → ℤ). total_of g passes) (λ i p. sum_of_deltas_is (by_client p.client kept) i)
        ∙ total_of-cut (λ (p : PassView K V F) x. x.client == p.client) delta passes kept
        (All-weaker (λ (x : RecordView K V F). x.client < ledger.clients)
        (λ x. count_by (λ p. x.client == p.client) passes ≡ 1)
        (λ x lt. ap (λ (t : PassView K V F → Bool). count_by t passes) (λ i p. eqb_turn x.client p.client i)
        ∙ all.each_client x.client lt) kept low)
        ∙ sym (sum_of_deltas_is kept)

    pub total_made-settled : total_made passes ≡ total_kept roles
    total_made-settled =
        ap (λ (g : PassView K V F → ℤ). total_of g passes) (λ i p. sym (made_cut p.made) i)
        ∙ total_of-swap
        (λ (p : PassView K V F) (r : RoleView K V F). sum_of_deltas
        (part_of_records (is_of code r.salt r.class) p.made)) passes roles
        ∙ total_of-same
        (λ (r : RoleView K V F). total_of
        (λ p. sum_of_deltas (part_of_records (is_of code r.salt r.class) p.made)) passes)
        (λ r. total_of (λ p. sum_of_deltas (by_client p.client r.kept)) passes) roles
        (All-weaker (λ r. All (λ p. BooksAgree code p r) passes) (λ (r : RoleView K V F). total_of
        (λ p. sum_of_deltas (part_of_records (is_of code r.salt r.class) p.made)) passes
        ≡ total_of (λ p. sum_of_deltas (by_client p.client r.kept)) passes)
        (λ r a. total_of-same (λ p. sum_of_deltas (part_of_records (is_of code r.salt r.class) p.made))
        (λ p. sum_of_deltas (by_client p.client r.kept)) passes
        (All-weaker (λ p. BooksAgree code p r) (λ p. sum_of_deltas (part_of_records (is_of code r.salt r.class) p.made)
        ≡ sum_of_deltas
        (by_client p.client r.kept)) (λ p e. ap sum_of_deltas (sym e)) passes a))
        roles all.agree)
        ∙ total_of-same (λ (r : RoleView K V F). total_of (λ p. sum_of_deltas (by_client p.client r.kept)) passes)
        (λ r. sum_of_deltas r.kept) roles
        (All-weaker (IsRoleOf code ledger)
        (λ (r : RoleView K V F). total_of (λ p. sum_of_deltas (by_client p.client r.kept)) passes
        ≡ sum_of_deltas r.kept)
        (λ r k. kept_cut r.kept k.clients) roles all.each_role)

    opening_cut : total_of (λ r. pos (length r.opening)) roles ≡ pos (length ledger.opening)
    opening_cut =
        total_of-same (λ (r : RoleView K V F). pos (length r.opening))
        (λ r. total_of (λ _. pos 1) (part_of_entries (is_of code r.salt r.class) ledger.opening)) roles
        (All-weaker (IsRoleOf code ledger) (λ (r : RoleView K V F). pos (length r.opening) ≡ total_of (λ _. pos 1)
        (part_of_entries (is_of code r.salt r.class) ledger.opening))
        (λ r k. ap (λ (es : List (K × V)). pos (length es)) k.opening
        ∙ sym (total_of-one (part_of_entries (is_of code r.salt r.class) ledger.opening))) roles all.each_role)
        ∙ total_of-cut (λ (r : RoleView K V F) (e : K × V). is_of code r.salt r.class e.0)
        (λ _. pos 1) roles ledger.opening
        (everywhere (λ (e : K × V). count_by (λ r. is_of code r.salt r.class e.0) roles ≡ 1) ledger.opening
        (λ e. key_once e.0))
        ∙ total_of-one ledger.opening

    pub count-settled : pos (length ledger.opening) +ℤ total_made passes
        ≡ total_of (λ r. pos (length r.opening) +ℤ sum_of_deltas r.kept) roles
    count-settled =
        ap (λ z. z +ℤ total_made passes) (sym opening_cut)
        ∙ ap (λ z. total_of (λ r. pos (length r.opening)) roles +ℤ z) total_made-settled
        ∙ sym (total_of-add (λ (r : RoleView K V F). pos (length r.opening)) (λ r. sum_of_deltas r.kept) roles)
