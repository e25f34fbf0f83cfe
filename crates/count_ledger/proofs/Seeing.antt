-- A pass has seen all calls so far, and what a pass has seen is shown to another seat.
use Rattle.std.proofs.Common.{ℕ, List, [], ◌∷◌}
use Rattle.std.specs.List.{AllByRecursion as Each}
use Rattle.bin_history.specs.Records.{RecordView}
use Rattle.count_ledger.specs.declared.books.Book.{Book}
use Rattle.count_ledger.specs.declared.books.Book.TheVariants.{Moment, Pass, Role}
use Rattle.count_ledger.specs.Terms.{TermsView}
use Rattle.count_ledger.specs.Rule.{Among, Across, IsSound, AreTogether}
use Rattle.count_ledger.specs.Steps.{seeing, books_seeing, seen_by}
use Rattle.count_ledger.proofs.Fronts.{BeginsWith-all}
use Rattle.count_ledger.proofs.Together.{Each-weaker}

module _ {K V F : Type 0} (code : K → ℕ) (t : TermsView K V) (calls : List (RecordView K V F)) where
  seeing_sound : (b : Book K V F) → IsSound code t calls b → IsSound code t calls (seeing calls b)
  seeing_sound (Pass c made seen) f = record {
    client = f.client;
    numbered = f.numbered;
    at_most = f.at_most;
    made_is = f.made_is;
    own = f.made_is;
    front = BeginsWith-all calls;
  }
  seeing_sound (Role salt class pairs kept) f = f
  seeing_sound (Moment seen) f = f

  seeing_left : (x y : Book K V F) → AreTogether code x y → AreTogether code (seeing calls x) y
  seeing_left (Pass c m n) (Pass d k l) ne = ne
  seeing_left (Pass c m n) (Role s k p l) a = tt
  seeing_left (Pass c m n) (Moment l) a = tt
  seeing_left (Role s k p l) y a = a
  seeing_left (Moment n) y a = a

  seeing_right : (x y : Book K V F) → AreTogether code x y → AreTogether code x (seeing calls y)
  seeing_right (Pass c m n) (Pass d k l) ne = ne
  seeing_right (Pass c m n) (Role s k p l) a = tt
  seeing_right (Pass c m n) (Moment l) a = tt
  seeing_right (Role s k p l) (Pass d m n) a = tt
  seeing_right (Role s k p l) (Role s' k' p' l') a = a
  seeing_right (Role s k p l) (Moment n) a = tt
  seeing_right (Moment n) (Pass d m l) a = tt
  seeing_right (Moment n) (Role s k p l) a = tt
  seeing_right (Moment n) (Moment l) a = tt

  seen_each : (b : Book K V F) (v : List (Book K V F)) → Each (AreTogether code b) v
      → Each (AreTogether code (seeing calls b)) (books_seeing calls v)
  seen_each b [] e = tt
  seen_each b (x ∷ xs) e = (seeing_right (seeing calls b) x (seeing_left b x e.0), seen_each b xs e.1)

  pub seen_fit : (v : List (Book K V F)) → Among (IsSound code t calls) (AreTogether code) v
      → Among (IsSound code t calls) (AreTogether code) (books_seeing calls v)
  seen_fit [] a = tt
  seen_fit (b ∷ bs) a = (seeing_sound b a.0, seen_each b bs a.1, seen_fit bs a.2)

  pub seen_others : (v u : List (Book K V F)) → Across (AreTogether code) v u
      → Across (AreTogether code) (books_seeing calls v) u
  seen_others [] u a = tt
  seen_others (b ∷ bs) u a = (
    Each-weaker (AreTogether code b) (AreTogether code (seeing calls b)) (seeing_left b) u a.0,
    seen_others bs u a.1,
  )

  pub shown_fit : (v : List (Book K V F)) → Among (IsSound code t calls) (AreTogether code) v
      → Among (IsSound code t calls) (AreTogether code) (seen_by v)
  shown_fit [] a = tt
  shown_fit (Pass c made seen ∷ bs) a = (a.0.front, tt, tt)
  shown_fit (Role salt class pairs kept ∷ bs) a = tt
  shown_fit (Moment seen ∷ bs) a = (a.0, tt, tt)

module _ {K V F : Type 0} (code : K → ℕ) where
  moment_with : (n : List (RecordView K V F)) (b : Book K V F) → AreTogether code (Moment n) b
  moment_with n (Pass d m l) = tt
  moment_with n (Role s k p l) = tt
  moment_with n (Moment l) = tt

  moment_beside : (n : List (RecordView K V F)) (u : List (Book K V F)) → Each (AreTogether code (Moment n)) u
  moment_beside n [] = tt
  moment_beside n (b ∷ bs) = (moment_with n b, moment_beside n bs)

  pub shown_others : (v u : List (Book K V F)) → Across (AreTogether code) (seen_by v) u
  shown_others [] u = tt
  shown_others (Pass c made seen ∷ bs) u = (moment_beside seen u, tt)
  shown_others (Role salt class pairs kept ∷ bs) u = tt
  shown_others (Moment seen ∷ bs) u = (moment_beside seen u, tt)
