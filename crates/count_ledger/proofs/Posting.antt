-- A post: the pass and the role get the record.
use Rattle.std.proofs.Common.{◌≡◌, ℕ, ◌+◌, ◌<◌, ◌==◌, ◌&&◌, Bool, true, false, List, [], ◌∷◌, ◌++◌}
use Rattle.std.proofs.Common.{length, sym, ap, ◌∙◌, arith}
use Rattle.std.specs.List.{AllByRecursion as Each}
use Rattle.std.proofs.lemmas.List.{length_push}
use Rattle.std.proofs.lemmas.List.Elements.{All-push}
use Rattle.std.proofs.lemmas.Bool.{eq-eqb, ne_eqb}
use Rattle.hashkeys.specs.Classes.{ClassView, is_of, AreApart}
use Rattle.hashkeys.specs.Hashing.{hash_of}
use Rattle.hashkeys.specs.declared.hashing.Salt.{Salt}
use Rattle.bin_history.specs.Calls.{key_of}
use Rattle.bin_history.specs.Clients.{by_client}
use Rattle.bin_history.specs.Records.{RecordView}
use Rattle.count_ledger.specs.declared.books.Book.{Book}
use Rattle.count_ledger.specs.declared.books.Book.TheVariants.{Moment, Pass, Role}
use Rattle.count_ledger.specs.Limits.{most_calls}
use Rattle.count_ledger.specs.Terms.{TermsView}
use Rattle.count_ledger.specs.Books.{AreNumbered}
use Rattle.count_ledger.specs.Rule.{Among, Across, IsSound, IsSoundPass, AreTogether}
use Rattle.count_ledger.specs.Steps.{books_with_record}
use Rattle.count_ledger.proofs.Filters.{filter_push_kept, filter_push_left}
use Rattle.count_ledger.proofs.Fronts.{BeginsWith-all, BeginsWith-push}

AreNumbered-push : {K V F : Type 0} (c n : ℕ) (made : List (RecordView K V F)) (r : RecordView K V F) →
    AreNumbered c n made → r.client ≡ c
    → r.ordinal ≡ n + length made → AreNumbered c n (made ++ r ∷ [])
AreNumbered-push c n [] r m by at = (by, omega arith, tt)
AreNumbered-push c n (x ∷ xs) r m by at = (m.0, m.1, AreNumbered-push c (n + 1) xs r m.2 by (omega arith))

other_of : (a b : Bool) → (a && b) ≡ false → a ≡ true → b ≡ false
other_of true b e t = e
other_of false b e t = absurd cc

module _ {K V F : Type 0} (code : K → ℕ) (t : TermsView K V) (calls : List (RecordView K V F)) (c : ℕ)
    (made seen : List (RecordView K V F)) (salt : Salt) (class : ClassView) (pairs : List (K × V))
    (kept : List (RecordView K V F)) (r : RecordView K V F)
    (by : r.client ≡ c) (next : r.ordinal ≡ length made) (room : length made < most_calls t.form t.clients)
    (on : is_of code salt class (key_of r.call) ≡ true) where
  abbrev pub calls_after : List (RecordView K V F)
  calls_after = calls ++ r ∷ []

  abbrev before : List (Book K V F)
  before = Pass c made seen ∷ Role salt class pairs kept ∷ []

  pass_sound : IsSoundPass t calls c made seen →
      IsSoundPass t calls_after c (made ++ r ∷ []) calls_after
  pass_sound f =
      let long = length_push made r in
      let all : by_client c calls_after ≡ made ++ r ∷ [] =
      filter_push_kept (λ x. x.client == c) calls r (eq-eqb _ _ by)
      ∙ ap (λ (l : List (RecordView K V F)). l ++ r ∷ []) f.made_is in
      record {
        client = f.client;
        numbered = AreNumbered-push c 0 made r f.numbered by (omega arith);
        at_most = omega arith;
        made_is = all;
        own = all;
        front = BeginsWith-all calls_after;
      }

  role_sound : c < t.clients → IsSound code t calls (Role salt class pairs kept)
      → IsSound code t calls_after (Role salt class pairs (kept ++ r ∷ []))
  role_sound low f = (
    f.0,
    f.1,
    All-push (λ (x : RecordView K V F). x.client < t.clients) kept r f.2 (omega arith),
    filter_push_kept (λ x. is_of code salt class (key_of x.call)) calls r on
        ∙ ap (λ (l : List (RecordView K V F)). l ++ r ∷ []) f.3,
  )

  pub posted_fit : Among (IsSound code t calls) (AreTogether code) before
      → Among (IsSound code t calls_after) (AreTogether code) (books_with_record r calls before)
  posted_fit a = (
    pass_sound a.0,
    (tt, tt),
    (role_sound a.0.client a.2.0, tt, tt),
  )

  -- another role's class does not have the key
  not_on : salt ≡ t.salt → (s : Salt) (k : ClassView) → s ≡ t.salt → AreApart class k →
      is_of code s k (key_of r.call) ≡ false
  not_on own s k is apart = rw (is ∙ sym own) (other_of _ _ (apart (hash_of salt (code (key_of r.call)))) on)

  -- another book is as sound as before: no other client's word has changed, and the call is of another client, or on a
  -- key of another class
  other_sound : salt ≡ t.salt → (b : Book K V F) → AreTogether code (Pass c made seen) b →
      AreTogether code (Role salt class pairs kept) b
      → IsSound code t calls b → IsSound code t calls_after b
  other_sound own (Pass d m n) ne e f = record {
    client = f.client;
    numbered = f.numbered;
    at_most = f.at_most;
    made_is = filter_push_left (λ x. x.client == d) calls r (ne_eqb _ _ (λ q. ne (sym by ∙ q))) ∙ f.made_is;
    own = f.own;
    front = BeginsWith-push calls n r f.front;
  }
  other_sound own (Moment n) a e f = BeginsWith-push calls n r f
  other_sound own (Role s k o l) a apart f =
      (f.0, f.1, f.2, filter_push_left (λ x. is_of code s k (key_of x.call)) calls r (not_on own s k f.0 apart) ∙ f.3)

  pass_beside : (b : Book K V F) → AreTogether code (Pass c made seen) b →
      AreTogether code (Pass c (made ++ r ∷ []) calls_after) b
  pass_beside (Pass d m n) ne = ne
  pass_beside (Role s k o l) e = tt
  pass_beside (Moment n) e = tt

  role_beside : (b : Book K V F) → AreTogether code (Role salt class pairs kept) b →
      AreTogether code (Role salt class pairs (kept ++ r ∷ [])) b
  role_beside (Pass d m n) e = tt
  role_beside (Role s k o l) apart = apart
  role_beside (Moment n) e = tt

  others_fit : salt ≡ t.salt → (u : List (Book K V F)) → Among (IsSound code t calls) (AreTogether code) u →
      Each (AreTogether code (Pass c made seen)) u
      → Each (AreTogether code (Role salt class pairs kept)) u
      → Among (IsSound code t calls_after) (AreTogether code) u
      × Across (AreTogether code) (books_with_record r calls before) u
  others_fit own [] a p q = (tt, (tt, (tt, tt)))
  others_fit own (b ∷ bs) a p q =
      let rest = others_fit own bs a.2 p.1 q.1 in (
        (other_sound own b p.0 q.0 a.0, a.1, rest.0),
        ((pass_beside b p.0, rest.1.0), ((role_beside b q.0, rest.1.1.0), tt)),
      )

  pub posted_others : Among (IsSound code t calls) (AreTogether code) before → (u : List (Book K V F))
      → Among (IsSound code t calls) (AreTogether code) u → Across (AreTogether code) before u
      → Among (IsSound code t calls_after) (AreTogether code) u
      × Across (AreTogether code) (books_with_record r calls before) u
  posted_others f u a x = others_fit f.2.0.0 u a x.0 x.1.0
