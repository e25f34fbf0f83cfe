-- A new ledger's books: they are as the rule says, and are dealt out one by one.
use Rattle.std.proofs.Common.{◌≡◌, ◌≢◌, ℕ, zero, suc, ◌+◌, ◌-◌, ◌*◌, ◌%◌, ◌<◌, ◌≤◌, ◌==◌, ◌&&◌, Bool, true}
use Rattle.std.proofs.Common.{false, cond, Option}
use Rattle.std.proofs.Common.{List, [], ◌∷◌, ◌++◌, length, get_or}
use Rattle.std.proofs.Common.{replicate, map, take, filter, ⊎_elim, sym, refl, ap, subst, ◌∙◌, arith, All}
use Rattle.std.specs.Prelude.{slice_index, flat_map}
use Rattle.std.specs.List.{range_with_len, AllByRecursion as Each}
use Rattle.std.proofs.lemmas.List.{append-nil, length-replicate, length-take-le, get_or_past}
use Rattle.std.proofs.lemmas.List.Elements.{filter-append, All-nil, All-head, All-tail, All-take, All-replicate}
use Rattle.std.proofs.lemmas.List.Elements.{All-weaker}
use Rattle.std.proofs.lemmas.Bool.{cases_lt}
use Rattle.std.proofs.lemmas.Bool.Decides.{nat_tests}
use mathlib.Core.Option.{some, some-injective, some-ne-none}
use lib.ListN.{get_elem?}
use Rattle.atomic_table.specs.Table.{Me, opening}
use Rattle.hashkeys.specs.Classes.{is_of}
use Rattle.hashkeys.specs.Hashing.{hash_of}
use Rattle.hashkeys.specs.declared.hashing.Salt.{Salt}
use Rattle.bin_history.specs.Part.{part_of_entries}
use Rattle.bin_history.specs.Records.{RecordView}
use Rattle.bin_history.specs.declared.call.Call.{Call}
use Rattle.count_ledger.specs.declared.books.Book.{Book}
use Rattle.count_ledger.specs.declared.books.Book.TheVariants.{Pass}
use Rattle.count_ledger.specs.Terms.{TermsView}
use Rattle.count_ledger.specs.Opening.{AreOfTheirClasses, base_at, class_at}
use Rattle.count_ledger.specs.Rule.{Among, AmongSeats, IsSound, AreTogether, Holds, new_pass_book, new_role_book}
use Rattle.count_ledger.specs.Rule.{first_books}
use Rattle.count_ledger.specs.Tokens.{IsPass}
use Rattle.count_ledger.proofs.Filters.{filter_none}
use Rattle.count_ledger.proofs.Lanes.{AreCounted-opening, word_of_zero}
use Rattle.count_ledger.proofs.Together.{Among-append}

pub range_next : (i n : ℕ) → i < n → range_with_len i (n - i) ≡ i ∷ range_with_len (i + 1) (n - (i + 1))
range_next i n lt = let e : n - i ≡ suc (n - (i + 1)) = omega arith in ap (range_with_len i) e

module _ {A : Type 0} (f : ℕ → A) where
  Each-range : (Q : A → Type 0) (a n : ℕ) → ((i : ℕ) → a ≤ i → i < a + n → Q (f i)) →
      Each Q (map f (range_with_len a n))
  Each-range Q a zero q = tt
  Each-range Q a (suc n) q =
      (q a (omega arith) (omega arith), Each-range Q (a + 1) n (λ i low lt. q i (omega arith) (omega arith)))

  Among-range : (P : A → Type 0) (R : A → A → Type 0) (a n : ℕ) → ((i : ℕ) → i < a + n → P (f i)) →
      ((i j : ℕ) → i < j → j < a + n → R (f i) (f j))
      → Among P R (map f (range_with_len a n))
  Among-range P R a zero p r = tt
  Among-range P R a (suc n) p r = (
    p a (omega arith),
    Each-range (R (f a)) (a + 1) n (λ j low lt. r a j (omega arith) (omega arith)),
    Among-range P R (a + 1) n (λ i lt. p i (omega arith)) (λ i j low lt. r i j low (omega arith)),
  )

module _ {X : Type 0} (p : X → Bool) where
  filter_all : (xs : List X) → All (λ x. p x ≡ true) xs → filter p xs ≡ xs
  filter_all [] a = refl
  filter_all (x ∷ xs) a =
      ap (λ (b : Bool). cond b (x ∷ filter p xs) (filter p xs)) (All-head (λ (y : X). p y ≡ true) x xs a)
      ∙ ap (λ (l : List X). x ∷ l) (filter_all xs (All-tail (λ (y : X). p y ≡ true) x xs a))

  filter_no_list : (ls : List (List X)) → ((j : ℕ) → j < length ls → All (λ x. p x ≡ false) (get_or ls j [])) →
      filter p (flat_map (λ l. l) ls) ≡ []
  filter_no_list [] n = refl
  filter_no_list (l ∷ ls) n =
      filter-append p l (flat_map (λ k. k) ls)
      ∙ ap (λ (k : List X). k ++ filter p (flat_map (λ k. k) ls)) (filter_none p l (n 0 (omega arith)))
      ∙ filter_no_list ls (λ j lt. n (suc j) (omega arith))

  -- a test that the members of one list pass, and those of no other
  filter_one_list : (ls : List (List X)) (i : ℕ) → i < length ls → All (λ x. p x ≡ true) (get_or ls i [])
      → ((j : ℕ) → j < length ls → j ≢ i → All (λ x. p x ≡ false) (get_or ls j [])) →
      filter p (flat_map (λ l. l) ls) ≡ get_or ls i []
  filter_one_list [] i lt y n = absurd (omega arith)
  filter_one_list (l ∷ ls) zero lt y n =
      filter-append p l (flat_map (λ k. k) ls)
      ∙ ap (λ (k : List X). k ++ filter p (flat_map (λ k. k) ls)) (filter_all l y)
      ∙ ap (λ (k : List X). l ++ k) (filter_no_list ls (λ j lt'. n (suc j) (omega arith) (λ e. omega (arith, e))))
      ∙ append-nil l
  filter_one_list (l ∷ ls) (suc i) lt y n =
      filter-append p l (flat_map (λ k. k) ls)
      ∙ ap (λ (k : List X). k ++ filter p (flat_map (λ k. k) ls))
      (filter_none p l (n 0 (omega arith) (λ e. omega (arith, e))))
      ∙ filter_one_list ls i (omega arith) y (λ j lt' ne. n (suc j) (omega arith) (λ e. ne (omega (arith, e))))

only_one : (n h i j : ℕ) → i ≢ j → ((h % n == i) && (h % n == j)) ≡ false
only_one n h i j ne = grind (arith, nat_tests)

not_another : (n h i j : ℕ) → j ≢ i → (h % n == j) ≡ true → (h % n == i) ≡ false
not_another n h i j ne e = grind (arith, nat_tests)

-- each base is the part of all pairs in its class
pub base_is_part : {K V : Type 0} (code : K → ℕ) (salt : Salt) (bases : List (List (K × V))) →
    AreOfTheirClasses code salt bases → (i : ℕ) → i < length bases
    → base_at bases i ≡ part_of_entries (is_of code salt (class_at bases i)) (flat_map (λ base. base) bases)
base_is_part {K} {V} code salt bases own i lt =
    sym (filter_one_list (λ (e : K × V). is_of code salt (class_at bases i) e.0) bases i lt (own i lt)
    (λ j lt' ne. All-weaker (λ (e : K × V). is_of code salt (class_at bases j) e.0 ≡ true)
    (λ e. is_of code salt (class_at bases i) e.0 ≡ false)
    (λ e. not_another (length bases) (hash_of salt (code e.0)) i j ne) (base_at bases j) (own j lt')))

-- all books in one seat
AmongSeats-one : {A : Type 0} (P : A → Type 0) (R : A → A → Type 0) (v : List A) → Among P R v → AmongSeats P R (v ∷ [])
AmongSeats-one P R v fit =
    record { within = only; across = λ i j u w ne at at'. absurd (ne (first i u at ∙ sym (first j w at'))) } where
      first : (i : ℕ) (u : List _) → get_elem? (v ∷ []) i ≡ some u → i ≡ 0
      first zero u e = refl
      first (suc i) u e = absurd (some-ne-none u (sym e))

      only : (i : ℕ) (u : List _) → get_elem? (v ∷ []) i ≡ some u → Among P R u
      only zero u e = subst (Among P R) (some-injective v u e) fit
      only (suc i) u e = absurd (some-ne-none u (sym e))

module _ {K V : Type 0} (F : Type 0) (code : K → ℕ) (t : TermsView K V)
    (own : AreOfTheirClasses code t.salt t.bases) where
  first_fit : Among (IsSound {F = F} code t []) (AreTogether code) (first_books t)
  first_fit =
      let n = length t.bases in
      Among-append (IsSound {F = F} code t []) (AreTogether code) (map (new_role_book t) (range_with_len 0 n))
      (map new_pass_book (range_with_len 0 t.clients))
      (Among-range (new_role_book t) (IsSound {F = F} code t []) (AreTogether code) 0 n
      (λ i lt. (
        refl,
        base_is_part code t.salt t.bases own i (omega arith),
        All-nil (λ (r : RecordView K V F). r.client < t.clients),
        refl,
      ))
      (λ i j lt lt' h. only_one n h i j (λ e. omega (arith, e))))
      (Among-range new_pass_book (IsSound {F = F} code t []) (AreTogether code) 0 t.clients
      (λ i lt. record {
        client = omega arith;
        numbered = tt;
        at_most = omega arith;
        made_is = refl;
        own = refl;
        front = ([], refl);
      }) (λ i j lt lt' e. omega (arith, e)))
      (Each-range (new_role_book t) (λ b. Each (AreTogether {F = F} code b) (map new_pass_book
      (range_with_len 0 t.clients))) 0 n
      (λ i low lt. Each-range new_pass_book (AreTogether {F = F} code (new_role_book t i)) 0 t.clients
      (λ c low' lt'. tt)))

  pub Holds-first : (same : K → K → Bool) (after : Call K V F → Option V → Option V) (homes : List (Unit {0}))
      (words : List ℕ) → ((i : ℕ) → slice_index words i ≡ 0)
      → length words ≡ 264 → Holds code same after t (opening words homes (first_books t))
  Holds-first same after homes words zeros sized = record {
    sized = sized;
    calls = [];
    legal = tt;
    clients = All-nil (λ (r : RecordView K V F). r.client < t.clients);
    counted = AreCounted-opening K V F words zeros;
    books = AmongSeats-one (IsSound {F = F} code t []) (AreTogether code) (first_books t) first_fit;
  }

-- a new pass
pub IsPass-new : {K V F : Type 0} (client : ℕ) (me : Me (Unit {0}) (List (Book K V F))) →
    me ≡ (Pass client [] [] ∷ [], []) → client < 65536 → IsPass client 0 0 me
IsPass-new client me is few =
    subst (IsPass client 0 0) (sym is)
    (record { book = refl; own = refl; counted = refl; at_most = omega arith; summed = sym word_of_zero; few = few })

-- the words of a new ledger
pub zeros-index : (m i : ℕ) → slice_index (replicate m 0) i ≡ 0
zeros-index m i =
    go (replicate m 0) (All-replicate (λ (x : ℕ). x ≡ 0) m 0 refl) where
      go : (l : List ℕ) → All (λ x. x ≡ 0) l → slice_index l i ≡ 0
      go l a = ⊎_elim (λ lt. a i 0 lt) (λ past. get_or_past l i 0 past) (cases_lt i (length l))
