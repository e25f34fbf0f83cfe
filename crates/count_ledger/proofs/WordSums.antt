-- Sums of deltas, and sums of words modulo 2^64.
use Rattle.std.proofs.Common.{◌≡◌, ℕ, suc, ◌+◌, ◌-◌, ◌*◌, ◌/◌, ◌%◌}
use Rattle.std.proofs.Common.{◌^◌, ◌<◌, ◌≤◌, ℤ, pos, negsuc, ◌+ℤ◌, ◌≤ℤ◌}
use Rattle.std.proofs.Common.{neg_ℤ, Option, subst, mul_comm, div-mul-le_self, suc-mul, le_trans, mul-le-mul_right}
use Rattle.std.proofs.Common.{Some, None, List, [], ◌∷◌, ◌++◌}
use Rattle.std.proofs.Common.{length, get_or, take, refl, sym, ap, ◌∙◌, arith, All}
use Rattle.std.specs.Prelude.{unsigned_abs, FitsSigned}
use Rattle.std.specs.Int.{cast_signed, cast_unsigned, w64}
use Rattle.std.proofs.lemmas.Int.{ints, int_rem_euclid_is, to_z-of_z}
use Rattle.std.proofs.lemmas.List.{take_more}
use Rattle.std.proofs.lemmas.List.Elements.{All-head, All-tail}
use Rattle.std.proofs.Math.Nat.{mod-add-mod, add-mod-mod, mod-eq_of_lt}
use Rattle.bin_history.specs.Deltas.{change_of_count, delta, sum_of_deltas}
use Rattle.bin_history.specs.Records.{RecordView}
use Rattle.bin_history.specs.declared.form.Form.{Form}
use Rattle.bin_history.specs.declared.form.Form.TheVariants.{Recorded, Lean}
use Rattle.count_ledger.specs.Books.{IsPassOf}
use Rattle.count_ledger.specs.Limits.{most_calls}
use Rattle.count_ledger.specs.Views.{LedgerView, PassView}
use Rattle.count_ledger.specs.Words.{word_of, total_of, total_made}

-- enough rounds make a number natural
lifted : (z : ℤ) → (k : ℕ) × (m : ℕ) × (z +ℤ pos (k * 2 ^ 64) ≡ pos m)
lifted (pos a) = (0, a, omega (arith, ints))
lifted (negsuc a) = (suc a, suc a * 2 ^ 64 - suc a, omega (arith, ints))

word_of_is : (z : ℤ) (k m : ℕ) → z +ℤ pos (k * 2 ^ 64) ≡ pos m → word_of z ≡ m % 2 ^ 64
word_of_is z k m e = ap unsigned_abs (int_rem_euclid_is z (pos (2 ^ 64)) (2 ^ 64) k m (omega arith) refl e)

pub word_of-add : (a b : ℤ) → word_of (a +ℤ b) ≡ (word_of a + word_of b) % 2 ^ 64
word_of-add a b =
    let (k, m, e) = lifted a in
    let (l, n, f) = lifted b in
    let both : (a +ℤ b) +ℤ pos ((k + l) * 2 ^ 64) ≡ pos (m + n) = omega (arith, ints) in
    word_of_is (a +ℤ b) (k + l) (m + n) both
    ∙ sym (ap (λ (x : ℕ). (x + word_of b) % 2 ^ 64) (word_of_is a k m e) ∙ ap (λ (x : ℕ). (m % 2 ^ 64 + x) % 2 ^ 64)
    (word_of_is b l n f)
    ∙ mod-add-mod m (2 ^ 64) (n % 2 ^ 64) ∙ add-mod-mod m n (2 ^ 64))

pub word_of_natural : (n : ℕ) → n < 2 ^ 64 → word_of (pos n) ≡ n
word_of_natural n lt = mod-eq_of_lt lt

word_of_signed : (z : ℤ) → FitsSigned w64 z → word_of z ≡ cast_unsigned w64 z
word_of_signed (pos n) fits = word_of_natural n (let f = fits.sfits in omega arith)
word_of_signed (negsuc n) fits =
    (let f = fits.sfits in let e : n % 2 ^ 64 ≡ n = mod-eq_of_lt (omega arith) in omega arith)

-- a word shows a signed number of 64 bits
pub cast_signed-word_of : (z : ℤ) → FitsSigned w64 z → cast_signed w64 (word_of z) ≡ z
cast_signed-word_of z fits = ap (cast_signed w64) (word_of_signed z fits) ∙ to_z-of_z w64 z fits

word_of_change : {V : Type 0} (before after : Option V)
    → cast_unsigned w64 (cast_signed w64 (cast_unsigned w64 (change_of_count before after)))
    ≡ word_of (change_of_count before after)
word_of_change None None = refl
word_of_change None (Some y) = refl
word_of_change (Some x) None = refl
word_of_change (Some x) (Some y) = refl

-- a delta, as a signed word of 64 bits that is cast to an unsigned one
pub word_of-delta : {K V F : Type 0} (r : RecordView K V F) →
    cast_unsigned w64 (cast_signed w64 (cast_unsigned w64 (delta r))) ≡ word_of (delta r)
word_of-delta r = word_of_change r.before r.after

add_assoc_ℤ : (a b c : ℤ) → (a +ℤ b) +ℤ c ≡ a +ℤ (b +ℤ c)
add_assoc_ℤ a b c = omega (arith, ints)

pub sum_of_deltas-push : {K V F : Type 0} (rs : List (RecordView K V F)) (r : RecordView K V F) →
    sum_of_deltas (rs ++ r ∷ []) ≡ sum_of_deltas rs +ℤ delta r
sum_of_deltas-push [] r = omega (arith, ints)
sum_of_deltas-push (x ∷ xs) r = ap (λ z. delta x +ℤ z) (sum_of_deltas-push xs r)
    ∙ sym (add_assoc_ℤ (delta x) (sum_of_deltas xs) (delta r))

total_of-push : {X : Type 0} (f : X → ℤ) (xs : List X) (x : X) → total_of f (xs ++ x ∷ []) ≡ total_of f xs +ℤ f x
total_of-push f [] x = omega (arith, ints)
total_of-push f (y ∷ ys) x = ap (λ z. f y +ℤ z) (total_of-push f ys x) ∙ sym (add_assoc_ℤ (f y) (total_of f ys) (f x))

pub total_of_more : {X : Type 0} (f : X → ℤ) (xs : List X) (i : ℕ) (d : X) → i < length xs
    → total_of f (take (i + 1) xs) ≡ total_of f (take i xs) +ℤ f (get_or xs i d)
total_of_more f xs i d l = ap (total_of f) (take_more xs i d l) ∙ total_of-push f (take i xs) (get_or xs i d)

-- the calls of all clients together are no more than 2^62
pub most_calls-all : (form : Form) (clients : ℕ) → clients ≤ 65536 →
    clients * most_calls form clients ≤ 4611686018427387904
most_calls-all Recorded clients few = omega arith
most_calls-all Lean clients few =
    let most = 4611686018427387904 / clients in
    subst (λ (n : ℕ). n ≤ 4611686018427387904) (mul_comm most clients) (div-mul-le_self 4611686018427387904 clients)

change_bounds : {V : Type 0} (before after : Option V) → (negsuc 0 ≤ℤ change_of_count before after)
    × (change_of_count before after ≤ℤ pos 1)
change_bounds None None = (omega (arith, ints), omega (arith, ints))
change_bounds None (Some y) = (omega (arith, ints), omega (arith, ints))
change_bounds (Some x) None = (omega (arith, ints), omega (arith, ints))
change_bounds (Some x) (Some y) = (omega (arith, ints), omega (arith, ints))

sum_of_deltas_bounds : {K V F : Type 0} (rs : List (RecordView K V F)) → (neg_ℤ (pos (length rs)) ≤ℤ sum_of_deltas rs)
    × (sum_of_deltas rs ≤ℤ pos (length rs))
sum_of_deltas_bounds [] = (omega (arith, ints), omega (arith, ints))
sum_of_deltas_bounds (r ∷ rs) =
    let d = change_bounds r.before r.after in
    let ih = sum_of_deltas_bounds rs in
    (omega (arith, ints, d.0, ih.0), omega (arith, ints, d.1, ih.1))

more_low : (a b : ℤ) (k m n l : ℕ) → n ≡ k + m → l ≤ m → neg_ℤ (pos l) ≤ℤ a → neg_ℤ (pos k) ≤ℤ b →
    neg_ℤ (pos n) ≤ℤ (a +ℤ b)
more_low a b k m n l e le x y = omega (arith, ints)

more_high : (a b : ℤ) (k m n l : ℕ) → n ≡ k + m → l ≤ m → a ≤ℤ pos l → b ≤ℤ pos k → (a +ℤ b) ≤ℤ pos n
more_high a b k m n l e le x y = omega (arith, ints)

-- by how much the calls of some clients can have changed the number of keys
pub total_made_bounds : {K V F : Type 0} (ledger : LedgerView K V) (passes : List (PassView K V F)) (n : ℕ) →
    All (IsPassOf ledger) passes → n ≡ length passes * most_calls ledger.form ledger.clients
    → (neg_ℤ (pos n) ≤ℤ total_made passes) × (total_made passes ≤ℤ pos n)
total_made_bounds ledger [] n a e = (omega (arith, ints), omega (arith, ints))
total_made_bounds ledger (p ∷ ps) n a e =
    let m = most_calls ledger.form ledger.clients in
    let k = length ps * m in
    let one = sum_of_deltas_bounds p.made in
    let ih = total_made_bounds ledger ps k (All-tail (IsPassOf ledger) p ps a) refl in
    let few = (All-head (IsPassOf ledger) p ps a).at_most in
    let is : n ≡ k + m = e ∙ suc-mul (length ps) m in (
      more_low (sum_of_deltas p.made) (total_made ps) k m n (length p.made) is few one.0 ih.0,
      more_high (sum_of_deltas p.made) (total_made ps) k m n (length p.made) is few one.1 ih.1,
    )

-- of all clients
pub total_made_all : {K V F : Type 0} (ledger : LedgerView K V) (passes : List (PassView K V F)) →
    All (IsPassOf ledger) passes → ledger.clients ≤ 65536 → length passes ≤ ledger.clients
    → (neg_ℤ (pos 4611686018427387904) ≤ℤ total_made passes) × (total_made passes ≤ℤ pos 4611686018427387904)
total_made_all ledger passes a few all =
    let m = most_calls ledger.form ledger.clients in
    let b = total_made_bounds ledger passes (length passes * m) a refl in
    let le : length passes * m ≤ 4611686018427387904 =
    le_trans (mul-le-mul_right m all) (most_calls-all ledger.form ledger.clients few) in
    within (total_made passes) (length passes * m) le b.0 b.1 where
      within : (z : ℤ) (n : ℕ) → n ≤ 4611686018427387904 → neg_ℤ (pos n) ≤ℤ z → z ≤ℤ pos n
          → (neg_ℤ (pos 4611686018427387904) ≤ℤ z) × (z ≤ℤ pos 4611686018427387904)
      within z n le x y = (omega (arith, ints), omega (arith, ints))
