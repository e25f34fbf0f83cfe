-- Words that are numbers are text, and are read back.
use Rattle.std.proofs.Common.{◌≡◌, ◌≢◌, ℕ, ℤ, pos, negsuc, zero, suc, ◌-◌, ◌<◌, ◌≤◌, ◌^◌, true, false, nat_eq, Option}
use Rattle.std.proofs.Common.{Some, None, MatchOption, Result, Ok}
use Rattle.std.proofs.Common.{FitsSigned, w64, List, [], ◌∷◌, length, take, drop, slice_index, subst, sym, ap, ◌∙◌}
use Rattle.std.proofs.Common.{arith}
use Rattle.std.specs.Prelude.{decimal}
use Rattle.std.proofs.lemmas.Int.{ints}
use Rattle.std.proofs.lemmas.Fmt.{IsAscii-decimal, parse-decimal, decimal_nonempty, length-decimal-le, decimal_digit}
use Rattle.std.proofs.lemmas.Fmt.{first_decimal, decimal_injective}
use Rattle.std.proofs.lemmas.Fmt.{decimal_is_IsNumeral, decimal-digits_value}
use Rattle.std.proofs.lemmas.List.{length-take-le, take_all}
use Rattle.std.proofs.lemmas.Bool.Decides.{nat_tests}
use Rattle.std.specs.List.{starts_with}
use Rattle.std.proofs.lemmas.Str.Parse.{digit_at, digits_value_short, numerals_by_value, tells_digits}
use Rattle.std.proofs.lemmas.Str.{IsUtf8-from_ascii}
use Rattle.std.specs.Int.Signed.{mag}
use Rattle.std.specs.Str.{IsUtf8, IsAscii}
use Rattle.std.specs.Str.Parse.{AllDigits, digits_value, ParsesUnsigned}
use Rattle.script.specs.Lines.{Word, IsNumber, IsThreshold}

-- a number of 64 bits is small, whatever its sign
pub mag_small : (n : ℤ) → FitsSigned w64 n → mag n < 2 ^ 63
mag_small (pos n) h = omega (arith, ints)
mag_small (negsuc n) h = omega (arith, ints)

pub threshold-IsUtf8 : (w : Word) (n : ℕ) → IsThreshold w n → IsUtf8 w
threshold-IsUtf8 w n h = IsUtf8-from_ascii w (subst IsAscii (sym h.1) (IsAscii-decimal n h.0))

pub threshold-parses : {E : Type 0} (w text : Word) (n : ℕ) (r : Result ℕ E) → IsThreshold w n → text ≡ w →
    ParsesUnsigned 64 10 text r → r ≡ Ok n
threshold-parses w text n r h same parses = parse-decimal 64 n text r h.0 h.0 (same ∙ h.1) parses

-- digits in front of others, of at most 19, are small
pub front_is_small : (ds : List ℕ) (i : ℕ) → length ds ≤ 19 → i < length ds → AllDigits 10 (take i ds) →
    digits_value 10 (take i ds) < 10 ^ 18
front_is_small ds i short before digits =
    digits_value_short (numerals_by_value (AllDigits 10) tells_digits) (take i ds) 18 digits
    (omega (arith, length-take-le i ds (omega arith)))

-- the digits of a number below 10^19: 1 to 19, and no 0 in front of others
pub decimal_some : (n : ℕ) → n < 10 ^ 19 → 0 < length (decimal n)
decimal_some n h = decimal_nonempty n (omega arith)

pub decimal_short : (n : ℕ) → n < 10 ^ 19 → length (decimal n) ≤ 19
decimal_short n h = length-decimal-le 19 n (omega arith) h (omega arith)

pub decimal_leads : (n : ℕ) → n < 10 ^ 19 → slice_index (decimal n) 0 ≡ 48 → length (decimal n) ≡ 1
decimal_leads zero h lead = ap length (decimal_digit 0 (omega arith))
decimal_leads (suc n) h lead = absurd (omega (arith, first_decimal (suc n) (omega arith) (omega arith)))

-- a word by the value of its digits
pub size_from_value : (w : Word) (r : Option ℕ) → 0 < length w → length w ≤ 19 → (slice_index w 0 ≡ 48 → length w ≡ 1) →
    MatchOption r (AllDigits 10 w → ⊥)
    (λ n. AllDigits 10 w × (n ≡ digits_value 10 w)) → MatchOption r ((n : ℕ) → n < 10 ^ 19 → w ≢ decimal n)
    (λ n. (n < 10 ^ 19) × (w ≡ decimal n))
size_from_value w None some short lead none =
    λ n h e. none (subst (AllDigits 10) (sym e) (decimal_is_IsNumeral n (omega arith)).0.1)
size_from_value w (Some n) some short lead (digits, is) =
    let own = numerals_by_value (AllDigits 10) tells_digits in
    let small = digits_value_short own w 19 digits short in
    let same = decimal-digits_value own w digits some lead (omega (arith, small)) in
    (omega (arith, is, small), sym same ∙ ap decimal (sym is))

minus_head : (w : Word) → starts_with nat_eq w (45 ∷ []) ≡ true → slice_index w 0 ≡ 45
minus_head [] h = absurd (cc)
minus_head (b ∷ w) h = grind (arith, nat_tests)

-- a number's word that begins with a minus is it and the digits of a size
pub below_zero : (w : Word) (n : ℤ) → starts_with nat_eq w (45 ∷ []) ≡ true → IsNumber w n
    → (k : ℕ) × (k < 2 ^ 63) × (take (length w - 1) (drop 1 w) ≡ decimal (suc k))
below_zero w (pos m) starts h =
    let is = (decimal_is_IsNumeral m (omega (arith, ints, h.0))).0 in
    let range = digit_at (decimal m) 0 is.1 is.0 in
    absurd (omega (arith, range, minus_head w starts, ap (λ (v : Word). slice_index v 0) h.1))
below_zero w (negsuc k) starts h = (
  k,
  omega (arith, ints, h.0),
  ap (λ (v : Word). take (length v - 1) (drop 1 v)) h.1
      ∙ take_all (length (45 ∷ decimal (suc k)) - 1) (decimal (suc k)) (omega arith),
)

-- another is the digits of a size
pub not_below_zero : (w : Word) (n : ℤ) → starts_with nat_eq w (45 ∷ []) ≡ false → IsNumber w n → (k : ℕ) × (k < 2 ^ 63)
    × (w ≡ decimal k)
not_below_zero w (pos m) starts h = (m, omega (arith, ints, h.0), h.1)
not_below_zero w (negsuc k) starts h =
    let no : true ≡ false = subst (λ (v : Word). starts_with nat_eq v (45 ∷ []) ≡ false) h.1 starts in absurd (cc)

pub same_size : (w : Word) (m n : ℕ) → m < 10 ^ 19 → n < 10 ^ 19 → w ≡ decimal m → w ≡ decimal n → m ≡ n
same_size w m n h g e d = decimal_injective m n (omega arith) (omega arith) (sym e ∙ d)
