-- Lists that are taken from behind, and turned round.
use Rattle.std.proofs.Common.{◌≡◌, ◌+◌, List, [], ◌∷◌, ◌++◌, Option, Some, None, IsSome, All, length, map}
use Rattle.std.proofs.Common.{reverse, slice_index_or, refl, sym, ap, subst, ◌∙◌, arith, append_assoc}
use Rattle.std.proofs.Math.Seq.{get_or-append_seam}
use Rattle.std.proofs.lemmas.List.{get_or_append_left, length-append, map-append, reverse-append}

-- the images of a list that was turned round
pub map-reverse : {X Y : Type 0} (f : X → Y) (xs : List X) → map f (reverse xs) ≡ reverse (map f xs)
map-reverse f [] = refl
map-reverse {X} {Y} f (x ∷ xs) =
    ap (map f) (reverse-append (x ∷ []) xs)
    ∙ map-append f (reverse xs) (x ∷ [])
    ∙ ap (λ (ys : List Y). ys ++ f x ∷ []) (map-reverse f xs)
    ∙ sym (reverse-append (f x ∷ []) (map f xs))

-- the last of some goes behind those that left them before, which are read backward
pub moved : {Y : Type 0} (left got all : List Y) (y : Y) → (left ++ y ∷ []) ++ reverse got ≡ all →
    left ++ reverse (got ++ y ∷ []) ≡ all
moved {Y} left got all y is =
    ap (λ (ys : List Y). left ++ ys) (reverse-append got (y ∷ []))
    ∙ sym (append_assoc left (y ∷ []) (reverse got))
    ∙ is

-- the same of the images of some, the last of which leaves them
pub popped : {X Y : Type 0} (f : X → Y) (all left : List X) (x : X) (got more whole : List Y) (y : Y) →
    all ≡ left ++ x ∷ [] → more ≡ got ++ y ∷ [] → y ≡ f x → map f all ++ reverse got ≡ whole →
    map f left ++ reverse more ≡ whole
popped {X} {Y} f all left x got more whole y split pushed is was =
    ap (λ (ys : List Y). map f left ++ reverse ys) (pushed ∙ ap (λ (z : Y). got ++ z ∷ []) is)
    ∙ moved (map f left) got whole (f x)
    (ap (λ (ys : List Y). ys ++ reverse got) (sym (map-append f left (x ∷ [])) ∙ ap (map f) (sym split)) ∙ was)

-- what is so of all is so of those before the last, and of the last
pub all-front : {X : Type 0} (P : X → Type 0) (all left : List X) (x : X) → all ≡ left ++ x ∷ [] → All P all → All P left
all-front {X} P all left x split so = λ i d low.
    subst P (ap (λ (xs : List X). slice_index_or xs i d) split ∙ get_or_append_left left (x ∷ []) d i low)
    (so i d (let n : length all ≡ length left + 1 = ap length split ∙ length-append left (x ∷ []) in omega arith))

pub all-last : {X : Type 0} (P : X → Type 0) (all left : List X) (x : X) → all ≡ left ++ x ∷ [] → All P all → P x
all-last {X} P all left x split so =
    subst P (ap (λ (xs : List X). slice_index_or xs (length left) x) split ∙ get_or-append_seam left x [] x)
    (so (length left) x (let n : length all ≡ length left + 1 = ap length split ∙ length-append left (x ∷ []) in omega arith))

pub none-left : {X : Type 0} (xs : List X) → length xs ≡ 0 → xs ≡ []
none-left [] is = refl
none-left (x ∷ xs) is = absurd (omega arith)

pub never-none : {T : Type 0} (o : Option T) → IsSome o → o ≡ None → ⊥
never-none None some is = absurd cc
never-none (Some x) some is = absurd cc
