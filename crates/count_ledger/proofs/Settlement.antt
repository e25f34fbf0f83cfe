-- What the rule says of all books together.
use Rattle.std.proofs.Common.{◌≡◌, ◌≢◌, ℕ, ◌<◌, ◌≤◌, ◌==◌, ◌&&◌, Bool, true, false, cond, List, [], ◌∷◌, ◌++◌, length}
use Rattle.std.proofs.Common.{map, refl, ap, subst, ◌∙◌, arith, All, Option, Some, None}
use Rattle.std.specs.List.{AllByRecursion as Each}
use Rattle.std.proofs.lemmas.Bool.Decides.{nat_tests}
use Rattle.std.proofs.lemmas.List.Elements.{All-from_recursion, All-weaker, filter_passes}
use Rattle.hashkeys.specs.Classes.{AreApart, is_of}
use Rattle.bin_history.specs.Calls.{key_of}
use Rattle.bin_history.specs.Clients.{by_client}
use Rattle.bin_history.specs.Part.{part_of_records}
use Rattle.bin_history.specs.Records.{RecordView}
use Rattle.count_ledger.specs.declared.books.Book.{Book}
use Rattle.count_ledger.specs.Terms.{TermsView}
use Rattle.count_ledger.specs.Views.{LedgerId, MomentView, PassView, RoleView}
use Rattle.count_ledger.specs.Books.{BooksAgree, IsPassOf, IsRoleOf, classes_of_roles}
use Rattle.count_ledger.specs.Fronts.{BeginsWith}
use Rattle.count_ledger.specs.Rule.{Among, IsSound, AreTogether, ledger_of}
use Rattle.count_ledger.specs.Settled.{AreReconciled, IsOrder, seen_at}
use Rattle.count_ledger.specs.Tokens.{moment_books, pass_book, role_book, AreWide}
use Rattle.count_ledger.proofs.Filters.{eqb_turn, length_is_sum}
use Rattle.count_ledger.proofs.Together.{Among-left, Among-right}
use Rattle.count_ledger.proofs.Tallies.{upto, upto-same, upto-one, hit_once}
use Rattle.count_ledger.proofs.Covering.{CoverOnce-wide}
use Rattle.count_ledger.proofs.Ordering.{agree_by}

module _ {A B : Type 0} (f : A → B) where
  Each-of_map : (Q : B → Type 0) (xs : List A) → Each Q (map f xs) → Each (λ x. Q (f x)) xs
  Each-of_map Q [] e = tt
  Each-of_map Q (x ∷ xs) e = (e.0, Each-of_map Q xs e.1)

  Each-map : (Q : B → Type 0) (xs : List A) → Each (λ x. Q (f x)) xs → Each Q (map f xs)
  Each-map Q [] e = tt
  Each-map Q (x ∷ xs) e = (e.0, Each-map Q xs e.1)

  Among-of_map : (P : B → Type 0) (R : B → B → Type 0) (xs : List A) → Among P R (map f xs) →
      Among (λ x. P (f x)) (λ x y. R (f x) (f y)) xs
  Among-of_map P R [] a = tt
  Among-of_map P R (x ∷ xs) a = (a.0, Each-of_map (R (f x)) xs a.1, Among-of_map P R xs a.2)

  Among-map : (P : A → Type 0) (R : B → B → Type 0) (xs : List A) → Among P (λ x y. R (f x) (f y)) xs →
      Among (λ _. Unit {0}) R (map f xs)
  Among-map P R [] a = tt
  Among-map P R (x ∷ xs) a = (tt, Each-map (R (f x)) xs a.1, Among-map P R xs a.2)

module _ {A : Type 0} (P : A → Type 0) (R : A → A → Type 0) where
  Each-from_among : (Q : A → Type 0) → ((x : A) → P x → Q x) → (xs : List A) → Among P R xs → Each Q xs
  Each-from_among Q f [] a = tt
  Each-from_among Q f (x ∷ xs) a = (f x a.0, Each-from_among Q f xs a.2)

  Among-weaker : (S : A → A → Type 0) → ((x y : A) → R x y → S x y) → (xs : List A) → Among P R xs → Among P S xs
  Among-weaker S f [] a = tt
  Among-weaker S f (x ∷ xs) a = (a.0, go xs a.1, Among-weaker S f xs a.2) where
    go : (ys : List A) → Each (R x) ys → Each (S x) ys
    go [] e = tt
    go (y ∷ ys) e = (f x y e.0, go ys e.1)

two_clients : (a b k : ℕ) → a ≢ b → ((a == k) && (b == k)) ≡ false
two_clients a b k ne = grind (arith, nat_tests)

one_client : (c n : ℕ) → c < n → upto (λ k. cond (c == k) 1 0) n ≡ 1
one_client c n lt = upto-same (λ k. cond (c == k) 1 0) (λ k. cond (k == c) 1 0) n
    (λ k l. ap (λ (b : Bool). cond b 1 0) (eqb_turn c k)) ∙ upto-one c n lt

module _ {K V F : Type 0} (code : K → ℕ) (id : LedgerId) (t : TermsView K V)
    (calls : List (RecordView K V F)) where
  pub IsPassOf-sound : (p : PassView K V F) → IsSound code t calls (pass_book p) → IsPassOf (ledger_of id t) p
  IsPassOf-sound p s = record { client = s.client; numbered = s.numbered; at_most = s.at_most; own = s.own }

  pub IsRoleOf-sound : (r : RoleView K V F) → IsSound code t calls (role_book r) →
      IsRoleOf code (ledger_of id t) r
  IsRoleOf-sound r s = record {
    salt = s.0;
    opening = s.1;
    clients = s.2;
    of_class = subst (All (λ x. is_of code r.salt r.class (key_of x.call) ≡ true)) s.3
        (filter_passes (λ (x : RecordView K V F). is_of code r.salt r.class (key_of x.call)) calls);
  }

  -- a moment whose book is beside others shows a front
  pub seen_first : (moment : Option (MomentView K V F)) (books : List (Book K V F))
      → Among (IsSound code t calls) (AreTogether code) (moment_books moment ++ books) → BeginsWith calls (seen_at moment)
  seen_first None books a = (calls, refl)
  seen_first (Some m) books a = a.0

  pub IsOrder-settled : (ps : List (PassView K V F)) (rs : List (RoleView K V F))
      → All (λ x. x.client < t.clients) calls
      → Among (IsSound code t calls) (AreTogether code) (map role_book rs ++ map pass_book ps) →
      IsOrder code (ledger_of id t) ps rs calls
  IsOrder-settled ps rs clients a =
      let P = IsSound code t calls in
      let R = AreTogether code in
      let passes = Among-of_map pass_book P R ps (Among-right P R (map role_book rs) (map pass_book ps) a) in
      let roles = Among-of_map role_book P R rs (Among-left P R (map role_book rs) (map pass_book ps) a) in
      record {
        clients = clients;
        made = All-from_recursion (λ p. by_client p.client calls ≡ p.made) ps
            (Each-from_among (λ p. P (pass_book p)) (λ p q. R (pass_book p) (pass_book q))
            (λ p. by_client p.client calls ≡ p.made) (λ p s. s.made_is) ps passes);
        seen = All-from_recursion (λ p. BeginsWith calls p.seen) ps
            (Each-from_among (λ p. P (pass_book p)) (λ p q. R (pass_book p) (pass_book q))
            (λ p. BeginsWith calls p.seen) (λ p s. s.front) ps passes);
        kept = All-from_recursion (λ r. part_of_records (is_of code r.salt r.class) calls ≡ r.kept) rs
            (Each-from_among (λ r. P (role_book r))
            (λ r s. R (role_book r) (role_book s)) (λ r. part_of_records (is_of code r.salt r.class) calls ≡ r.kept)
            (λ r s. s.3) rs roles);
      }

  pub AreReconciled-settled : (ps : List (PassView K V F)) (rs : List (RoleView K V F)) → t.clients ≤ length ps →
      AreWide (classes_of_roles rs) → All (λ x. x.client < t.clients) calls
      → Among (IsSound code t calls) (AreTogether code) (map role_book rs ++ map pass_book ps) →
      AreReconciled code (ledger_of id t) ps rs
  AreReconciled-settled ps rs enough wide clients a =
      let P = IsSound code t calls in
      let R = AreTogether code in
      let passes = Among-of_map pass_book P R ps (Among-right P R (map role_book rs) (map pass_book ps) a) in
      let roles = Among-of_map role_book P R rs (Among-left P R (map role_book rs) (map pass_book ps) a) in
      let order = IsOrder-settled ps rs clients a in
      let apart = Among-weaker (λ p. P (pass_book p)) (λ p q. R (pass_book p) (pass_book q)) (λ p q. (k : ℕ) →
      ((p.client == k) && (q.client == k)) ≡ false)
      (λ p q ne k. two_clients p.client q.client k ne) ps passes in
      record {
        each_pass = All-from_recursion (IsPassOf (ledger_of id t)) ps
            (Each-from_among (λ p. P (pass_book p)) (λ p q. R (pass_book p) (pass_book q))
            (IsPassOf (ledger_of id t)) IsPassOf-sound ps passes);
        each_client = hit_once (λ p k. p.client == k) (λ p. P (pass_book p)) (λ _. 1) t.clients ps apart
            (All-from_recursion (λ p. upto (λ k. cond (p.client == k) 1 0) t.clients ≡ 1) ps
            (Each-from_among (λ p. P (pass_book p)) (λ p q. R (pass_book p) (pass_book q))
            (λ p. upto (λ k. cond (p.client == k) 1 0) t.clients ≡ 1)
            (λ p s. one_client p.client t.clients s.client) ps passes)) (let n = length_is_sum ps in omega arith);
        each_role = All-from_recursion (IsRoleOf code (ledger_of id t)) rs
            (Each-from_among (λ r. P (role_book r)) (λ r s. R (role_book r) (role_book s))
            (IsRoleOf code (ledger_of id t)) IsRoleOf-sound rs roles);
        each_hash = CoverOnce-wide (λ _. Unit {0}) (classes_of_roles rs) wide
            (Among-map (λ r. r.class) (λ r. P (role_book r)) AreApart rs roles);
        agree = All-weaker (λ r. part_of_records (is_of code r.salt r.class) calls ≡ r.kept)
            (λ r. All (λ p. BooksAgree code p r) ps)
            (λ r kept_is. All-weaker (λ p. by_client p.client calls ≡ p.made) (λ p. BooksAgree code p r)
            (λ p made_is. agree_by (is_of code r.salt r.class) p.client calls p.made r.kept made_is kept_is) ps order.made) rs
            order.kept;
        order = (calls, order);
      }
