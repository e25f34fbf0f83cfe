-- The steps of a ledger keep its rule.
use Rattle.std.proofs.Common.{◌≡◌, ℕ, ◌+◌, ◌*◌, ◌%◌, ◌^◌, ◌<◌, ◌&&◌, ◌||◌, Bool, true, false, List, [], ◌∷◌, ◌++◌}
use Rattle.std.proofs.Common.{length, set, sym, refl, ap, subst, ◌∙◌, Option, Decides}
use Rattle.std.proofs.Common.{arith}
use Rattle.std.proofs.lemmas.List.Elements.{All-push}
use Rattle.std.specs.Prelude.{Some, slice_index}
use Rattle.std.proofs.lemmas.List.{length-set, set-get_or}
use mathlib.Core.Option.{some, none}
use Rattle.atomic_table.specs.Table.{keeps, Me, step, Allows, Splits, Joins}
use Rattle.atomic_table.proofs.Lists.{set_again}
use Rattle.hashkeys.specs.Classes.{ClassView, covers, is_of, AreApart, low_half, high_half}
use Rattle.hashkeys.specs.declared.hashing.Salt.{Salt}
use Rattle.bin_history.specs.Calls.{key_of}
use Rattle.bin_history.specs.Deltas.{delta}
use Rattle.bin_history.specs.Entries.{lookup}
use Rattle.bin_history.specs.Plain.{run, IsLegalStep}
use Rattle.bin_history.specs.declared.call.Call.{Call}
use Rattle.bin_history.specs.Records.{RecordView}
use Rattle.bin_history.proofs.Parts.{IsLegal-posted}
use Rattle.count_ledger.specs.declared.books.Book.{Book}
use Rattle.count_ledger.specs.declared.books.Book.TheVariants.{Moment, Pass, Role}
use Rattle.count_ledger.specs.Limits.{most_calls}
use Rattle.count_ledger.specs.Terms.{TermsView, opening_of}
use Rattle.count_ledger.specs.Words.{word_of, lane_of, AreCounted}
use Rattle.count_ledger.specs.Rule.{AmongSeats, IsSound, AreTogether, Holds}
use Rattle.count_ledger.specs.Steps.{Keeps, Tells, books_with_record, books_with_halves, with_halves, books_seeing}
use Rattle.count_ledger.specs.Steps.{first_of, rest_of, only_view, seen_by}
use Rattle.count_ledger.proofs.Seeing.{seen_fit, seen_others, shown_fit, shown_others}
use Rattle.count_ledger.proofs.Holding.{AmongSeats-changed, AmongSeats-more, AmongSeats-parted, AmongSeats-joined}
use Rattle.count_ledger.proofs.Posting.{posted_fit, posted_others}
use Rattle.count_ledger.proofs.Lanes.{AreCounted-posted, AreCounted-idle}
use Rattle.count_ledger.proofs.Division.{divided_fit, divided_others}

and_turn : (a b : Bool) → (a && b) ≡ false → (b && a) ≡ false
and_turn true true e = e
and_turn true false e = refl
and_turn false true e = refl
and_turn false false e = refl

first-rest : {A : Type 0} (v : List A) → v ≡ first_of v ++ rest_of v
first-rest [] = refl
first-rest (x ∷ xs) = refl

module _ {K V F : Type 0} (code : K → ℕ) where
  together_turn : (x y : Book K V F) → AreTogether code x y → AreTogether code y x
  together_turn (Pass c m n) (Pass d k l) ne = λ e. ne (sym e)
  together_turn (Pass c m n) (Role s k p l) a = tt
  together_turn (Pass c m n) (Moment l) a = tt
  together_turn (Role s k p l) (Pass c m n) a = tt
  together_turn (Role s k p l) (Role s' k' p' l') apart = λ h. and_turn (covers k h) (covers k' h) (apart h)
  together_turn (Role s k p l) (Moment n) a = tt
  together_turn (Moment n) (Pass c m l) a = tt
  together_turn (Moment n) (Role s k p l) a = tt
  together_turn (Moment n) (Moment l) a = tt

  module _ (same : K → K → Bool) (after : Call K V F → Option V → Option V) (t : TermsView K V) (id : ℕ) where
    pub Splits-parted : (v : List (Book K V F)) → Splits (Holds code same after t) id v (first_of v) (rest_of v)
    Splits-parted v s h at = record {
      sized = h.sized;
      calls = h.calls;
      legal = h.legal;
      clients = h.clients;
      counted = h.counted;
      books = AmongSeats-parted (AreTogether code) together_turn (IsSound code t h.calls) s.views id
          (first_of v) (rest_of v) h.books
          (at ∙ ap some (first-rest v));
    }

    -- a new seat is shown what the first book has seen
    pub Splits-shown : (v : List (Book K V F)) → Splits (Holds code same after t) id v v (seen_by v)
    Splits-shown v s h at = record {
      sized = h.sized;
      calls = h.calls;
      legal = h.legal;
      clients = h.clients;
      counted = h.counted;
      books = AmongSeats-more (AreTogether code) together_turn (IsSound code t h.calls) (set s.views id v)
          (seen_by v)
          (subst (λ (vs : List (List (Book K V F))). AmongSeats (IsSound code t h.calls) (AreTogether code) vs)
          (sym (set_again s.views id v at)) h.books)
          (shown_fit code t h.calls v (h.books.within id v at)) (λ i u e. shown_others code v u);
    }

    pub Joins-joined : (v : List (Book K V F)) (other : ℕ) (w : List (Book K V F)) →
        Joins (Holds code same after t) id v other w (v ++ w) []
    Joins-joined v other w s h at ne at' = record {
      sized = h.sized;
      calls = h.calls;
      legal = h.legal;
      clients = h.clients;
      counted = h.counted;
      books = AmongSeats-joined (AreTogether code) together_turn (IsSound code t h.calls) s.views id other v w
          h.books at ne at';
    }

    -- a look changes nothing
    pub Keeps-looked : (word : ℕ) (v : List (Book K V F)) →
        Keeps code same after t id v word (λ n. n) (λ calls books. books)
    Keeps-looked word v s h at fits =
        subst (λ (ws : List ℕ). Holds code same after t record {
          words = ws;
          homes = s.homes;
          views = set s.views id v;
        })
        (sym (set-get_or s.words word 0))
        (subst (λ (vs : List (List (Book K V F))). Holds code same after t record {
          words = s.words;
          homes = s.homes;
          views = vs;
        })
        (sym (set_again s.views id v at)) h)

    -- or shows a pass all calls so far
    pub Keeps-books_seeing : (word : ℕ) (v : List (Book K V F)) →
        Keeps code same after t id v word (λ n. n) books_seeing
    Keeps-books_seeing word v s h at fits =
        subst (λ (ws : List ℕ). Holds code same after t record {
          words = ws;
          homes = s.homes;
          views =
              set s.views id (books_seeing h.calls v);
        })
        (sym (set-get_or s.words word 0))
        (record {
          sized = h.sized;
          calls = h.calls;
          legal = h.legal;
          clients = h.clients;
          counted = h.counted;
          books = AmongSeats-changed (AreTogether code) together_turn (IsSound code t h.calls)
              (IsSound code t h.calls) s.views id v
              (books_seeing h.calls v) h.books at
              (seen_fit code t h.calls v (h.books.within id v at))
              (λ u f a. (f, seen_others code t h.calls v u a));
        })

    pub Keeps-books_with_halves : (word : ℕ) (salt : Salt) (class : ClassView) (pairs : List (K × V))
        (kept : List (RecordView K V F))
        → ((h : ℕ) → covers class h ≡ (covers (low_half class) h || covers (high_half class) h)) →
        AreApart (low_half class) (high_half class)
        → Keeps code same after t id (Role salt class pairs kept ∷ []) word (λ n. n) (books_with_halves code)
    Keeps-books_with_halves word salt class pairs kept one apart s h at fits =
        let v : List (Book K V F) = Role salt class pairs kept ∷ [] in
        subst (λ (ws : List ℕ). Holds code same after t record {
          words = ws;
          homes = s.homes;
          views =
              set s.views id (with_halves code v);
        })
        (sym (set-get_or s.words word 0))
        (record {
          sized = h.sized;
          calls = h.calls;
          legal = h.legal;
          clients = h.clients;
          counted = h.counted;
          books = AmongSeats-changed (AreTogether code) together_turn (IsSound code t h.calls)
              (IsSound code t h.calls) s.views id v
              (with_halves code v) h.books at
              (divided_fit code t h.calls salt class pairs kept one apart (h.books.within id v at))
              (λ u f a. (f, divided_others code t h.calls salt class pairs kept one apart u a));
        })

    pub Keeps-books_with_record : (tells : (x y : K) → Decides (same x y) (x ≡ y)) (c : ℕ)
        (made seen : List (RecordView K V F)) (salt : Salt) (class : ClassView)
        (pairs : List (K × V))
        (kept : List (RecordView K V F)) (r : RecordView K V F)
        (word : ℕ) (f : ℕ → ℕ)
        → r.client ≡ c → r.ordinal ≡ length made → length made < most_calls t.form t.clients →
        is_of code salt class (key_of r.call) ≡ true
        → IsLegalStep same after (run same (lookup same pairs) kept) r
        → ((words : List ℕ) (calls : List (RecordView K V F)) → length words ≡ 264 → AreCounted words calls →
        AreCounted (set words word (f (slice_index words word))) (calls ++ r ∷ []))
        → Keeps code same after t id (Pass c made seen ∷ Role salt class pairs kept ∷ []) word f (books_with_record r)
    Keeps-books_with_record tells c made seen salt class pairs kept r word f by next room on step more s h at fits =
        let v : List (Book K V F) = Pass c made seen ∷ Role salt class pairs kept ∷ [] in
        let fit = h.books.within id v at in
        let role = fit.2.0 in
        let low : c < t.clients = fit.0.client in
        record {
          sized = length-set s.words word _ ∙ h.sized;
          calls = h.calls ++ r ∷ [];
          legal = IsLegal-posted same tells (is_of code salt class) after (opening_of t) pairs h.calls kept r role.1
              role.3 on step h.legal;
          clients = All-push (λ (x : RecordView K V F). x.client < t.clients) h.calls r h.clients (omega arith);
          counted = more s.words h.calls h.sized h.counted;
          books = AmongSeats-changed (AreTogether code) together_turn (IsSound code t h.calls)
              (IsSound code t (h.calls ++ r ∷ [])) s.views id v
              (books_with_record r h.calls v) h.books at
              (posted_fit code t h.calls c made seen salt class pairs kept r by next room on fit)
              (posted_others code t h.calls c made seen salt class pairs kept r by next room on fit);
        }

    module _ (tells : (x y : K) → Decides (same x y) (x ≡ y)) (c : ℕ) (made seen : List (RecordView K V F))
        (salt : Salt) (class : ClassView) (pairs : List (K × V)) (kept : List (RecordView K V F))
        (r : RecordView K V F) (by : r.client ≡ c) (next : r.ordinal ≡ length made)
        (room : length made < most_calls t.form t.clients) (on : is_of code salt class (key_of r.call) ≡ true)
        (step : IsLegalStep same after (run same (lookup same pairs) kept) r) where
      -- a post adds the delta to the word of the client's lane
      pub Keeps-posted : Keeps code same after t id (Pass c made seen ∷ Role salt class pairs kept ∷ [])
          (8 * (lane_of c + 1)) (λ n. (n + word_of (delta r)) % 2 ^ 64) (books_with_record r)
      Keeps-posted = Keeps-books_with_record tells c made seen salt class pairs kept r (8 * (lane_of c + 1))
          (λ n. (n + word_of (delta r)) % 2 ^ 64) by next room on step
          (λ words calls sized counted. AreCounted-posted c r by words calls counted sized)

      -- where the delta is 0, any word may be read
      pub Keeps-posted_idle : (word : ℕ) → word_of (delta r) ≡ 0
          → Keeps code same after t id (Pass c made seen ∷ Role salt class pairs kept ∷ []) word (λ n. n)
          (books_with_record r)
      Keeps-posted_idle word idle = Keeps-books_with_record tells c made seen salt class pairs kept r word (λ n. n) by
          next room on step
          (λ words calls sized counted. subst (λ (ws : List ℕ). AreCounted ws (calls ++ r ∷ []))
          (sym (set-get_or words word 0)) (AreCounted-idle c r by words calls counted idle))

    -- a step that keeps the rule tells what the rule says of the seat's books
    pub Allows-told : (change : List (RecordView K V F) → List (Book K V F) → List (Book K V F)) (slots word : ℕ)
        (me : Me (Unit {0}) (List (Book K V F))) (f : ℕ → ℕ)
        → Keeps code same after t id me.0 word f change
        → Allows (Holds code same after t) slots id me word f
        (Tells code same after (Some t) change (step slots word 0 0 none) me)
    Allows-told change slots word me f k s h len at fits = (
      change h.calls me.0,
      keeps,
      tt,
      k s h at fits,
      (
        h.calls,
        refl,
        (s.words, refl, record { legal = h.legal; clients = h.clients; counted = h.counted; sound = h.books.within id me.0 at }),
      ),
    )

-- the books of a pass's seat after a role's badge was joined to it
pub both_books : {B : Type 0} (me joined : Me (Unit {0}) (List B)) (views : List (List B)) (x y : B) →
    me ≡ (x ∷ [], []) → views ≡ (y ∷ []) ∷ []
    → joined ≡ (me.0 ++ only_view views, me.1) → joined.0 ≡ x ∷ y ∷ []
both_books {B} me joined views x y is_me is_views is_joined =
    ap (λ (m : Me (Unit {0}) (List B)). m.0) is_joined
    ∙ ap (λ (m : Me (Unit {0}) (List B)). m.0 ++ only_view views) is_me
    ∙ ap (λ (vs : List (List B)). x ∷ only_view vs) is_views

-- the book of a seat that was a badge
pub one_book : {B : Type 0} (books : List B) (views : List (List B)) (y : B) → views ≡ (y ∷ []) ∷ [] →
    views ≡ books ∷ [] → books ≡ y ∷ []
one_book books views y is_views is_seat = sym (ap only_view is_seat) ∙ ap only_view is_views
