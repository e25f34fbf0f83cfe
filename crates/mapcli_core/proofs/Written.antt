-- What writes leave, one after the other.
use Rattle.std.proofs.Common.{◌≡◌, ℕ, ◌+◌, ◌<◌, Option, List, ◌++◌, length, get_or, take, drop, sym, ap, ◌∙◌, subst, suc, arith}
use Rattle.std.proofs.Common.{drop-cons, length-append}
use Rattle.std.proofs.KnownBytes.{Appends-trans}
use Rattle.std.proofs.Math.Seq.{take-append-add}
use Rattle.std.proofs.lemmas.Grind.{flat_map-append}
use Rattle.std.proofs.lemmas.List.{take-append-drop, take-append-le}
use Rattle.std.specs.Io.KnownBytes.{Appends}
use Rattle.std.specs.List.{flat_map}
use Rattle.mapcli_core.specs.Devices.{AppendsFront}

-- what was written, and behind it a beginning of a piece, is a beginning of all, whatever follows the piece
pub AppendsFront-within : (a b c : Option (List ℕ)) (written piece rest : List ℕ) → Appends a b written
    → AppendsFront b c piece → AppendsFront a c (written ++ (piece ++ rest))
AppendsFront-within a b c written piece rest whole front =
    let (n, few, part) = front in
    let cut : take (length written + n) (written ++ (piece ++ rest)) ≡ written ++ take n piece =
    take-append-add written (piece ++ rest) n ∙ ap (λ (t : List ℕ). written ++ t)
    (take-append-le n piece rest (omega (arith, few))) in (
      length written + n,
      (let l = length-append written (piece ++ rest) in let m = length-append piece rest in omega (arith, few)),
      subst (Appends a c) (sym cut) (Appends-trans a b c written (take n piece) whole part),
    )

-- pieces put together are those before one, that one, and those behind it
pub flat_map-at : {X A : Type 0} (f : X → List A) (xs : List X) (i : ℕ) (d : X) → i < length xs →
    flat_map f xs ≡ flat_map f (take i xs) ++ (f (get_or xs i d) ++ flat_map f (drop (suc i) xs))
flat_map-at {X = X} f xs i d lt =
    ap (flat_map f) (sym (take-append-drop i xs)) ∙ flat_map-append f (take i xs) (drop i xs)
    ∙ ap (λ (ys : List X). flat_map f (take i xs) ++ flat_map f ys) (drop-cons xs i d lt)
