-- The entries of bins side by side.
use Rattle.std.proofs.Common.{◌≡◌, ◌<◌, [], ◌∷◌, length, get_or, ℕ, ◌+◌, ◌-◌, ◌≤◌, List, ◌++◌, take, drop, ap, sym}
use Rattle.std.proofs.Common.{◌∙◌}
use Rattle.std.proofs.Common.{arith}
use Rattle.std.specs.Prelude.{slice_range}
use Rattle.std.proofs.Math.Seq.{take-add}
use Rattle.std.proofs.lemmas.List.{drop-drop, length-append, length-drop, take-append-drop, take_all, take_more}
use Rattle.std.proofs.lemmas.List.{append-nil}
use Rattle.std.proofs.lemmas.Grind.{flat_map-append}
use Rattle.std.proofs.lemmas.List.Folds.{length-flat_map-take}
use Rattle.bin_history.specs.Lawful.{BinView}
use Rattle.chm.specs.Headline.{entries_of}

slices : {X : Type 0} → (xs : List X) (lo mid hi : ℕ) → lo ≤ mid → mid ≤ hi
    → slice_range xs lo mid ++ slice_range xs mid hi ≡ slice_range xs lo hi
slices xs lo mid hi p q =
    let here : lo + (mid - lo) ≡ mid = omega arith in
    let size : (mid - lo) + (hi - mid) ≡ hi - lo = omega arith in
    let rest : drop (mid - lo) (drop lo xs) ≡ drop mid xs = drop-drop (mid - lo) lo xs ∙ ap (λ n. drop n xs) here in
    let both : take (hi - lo) (drop lo xs) ≡ take (mid - lo) (drop lo xs) ++ take (hi - mid)
    (drop (mid - lo) (drop lo xs)) =
    ap (λ n. take n (drop lo xs)) (sym size) ∙ take-add (mid - lo) (hi - mid) (drop lo xs) in
    sym (both ∙ ap (λ ys. take (mid - lo) (drop lo xs) ++ take (hi - mid) ys) rest)

pub entries_side_by_side : {K V F : Type 0} → (bins : List (BinView K V F)) (lo mid hi : ℕ) → lo ≤ mid → mid ≤ hi
    → entries_of (slice_range bins lo mid) ++ entries_of (slice_range bins mid hi) ≡ entries_of (slice_range bins lo hi)
entries_side_by_side bins lo mid hi p q =
    sym (flat_map-append (λ b. b.entries) (slice_range bins lo mid) (slice_range bins mid hi))
    ∙ ap entries_of (slices bins lo mid hi p q)

pub entries_rest : {K V F : Type 0} → (bins : List (BinView K V F)) (i : ℕ)
    → entries_of (take i bins) ++ entries_of (drop i bins) ≡ entries_of bins
entries_rest bins i = sym (flat_map-append (λ b. b.entries) (take i bins) (drop i bins))
    ∙ ap entries_of (take-append-drop i bins)

pub entries_more : {K V F : Type 0} → (bins : List (BinView K V F)) (i : ℕ) (d : BinView K V F) → i < length bins
    → entries_of (take i bins) ++ (get_or bins i d).entries ≡ entries_of (take (i + 1) bins)
entries_more bins i d h =
    ap (λ es. entries_of (take i bins) ++ es) (sym (append-nil (get_or bins i d).entries))
    ∙ sym (flat_map-append (λ b. b.entries) (take i bins) (get_or bins i d ∷ []))
    ∙ ap entries_of (sym (take_more bins i d h))

-- after bins without pairs, those of the next one and of the rest
pub entries_after_none : {K V F : Type 0} → (bins : List (BinView K V F)) (i : ℕ) (d : BinView K V F) →
    i < length bins → entries_of (take i bins) ≡ []
    → (get_or bins i d).entries ++ entries_of (slice_range bins (i + 1) (length bins)) ≡ entries_of bins
entries_after_none bins i d h none =
    let rest : slice_range bins (i + 1) (length bins) ≡ drop (i + 1) bins
    = take_all (length bins - (i + 1)) (drop (i + 1) bins) (let left = length-drop (i + 1) bins in
    omega (arith, left)) in
    ap (λ (bs : List _). (get_or bins i d).entries ++ entries_of bs) rest
    ∙ ap (λ (es : List _). (es ++ (get_or bins i d).entries) ++ entries_of (drop (i + 1) bins)) (sym none)
    ∙ ap (λ (es : List _). es ++ entries_of (drop (i + 1) bins)) (entries_more bins i d h)
    ∙ entries_rest bins (i + 1)

-- no bins have more pairs than all
pub entries_few : {K V F : Type 0} → (bins : List (BinView K V F)) (i : ℕ) (d : BinView K V F) → i < length bins
    → length (entries_of (take i bins)) + length (get_or bins i d).entries ≤ length (entries_of bins)
entries_few bins i d h = length-flat_map-take (λ b. b.entries) bins i d h

-- nor has a range of them
pub range_few : {K V F : Type 0} → (bins : List (BinView K V F)) (lo hi : ℕ) →
    length (entries_of (slice_range bins lo hi)) ≤ length (entries_of bins)
range_few bins lo hi =
    let rest = drop lo bins in
    let own = entries_of (take (hi - lo) rest) in
    let after = entries_of (drop (hi - lo) rest) in
    let near : length own + length after ≡ length (entries_of rest) = sym (length-append own after)
    ∙ ap length (entries_rest rest (hi - lo)) in
    let far : length (entries_of (take lo bins)) + length (entries_of rest) ≡ length (entries_of bins)
    = sym (length-append (entries_of (take lo bins)) (entries_of rest)) ∙ ap length (entries_rest bins lo) in
    omega (arith, near, far)
