-- The pairs that a loop went over are the first ones, and what is beyond them is as it was.
use Rattle.std.proofs.Common.{◌≡◌, ℕ, zero, suc, ◌+◌, ◌++◌, List, [], ◌∷◌, length, take, drop, set, map, min}
use Rattle.std.proofs.Common.{refl, sym, ap, ◌∙◌, arith}
use Rattle.std.proofs.Math.Seq.{take-append_seam, drop-nil}
use Rattle.std.proofs.lemmas.List.{drop-set-lt}
use Rattle.facing_maps.specs.Pairs.{Room, AreNumbers}

pub copied_of : (key : ℕ → ℕ) (entries done rest : List (ℕ × ℕ)) (before after : Room) (n : ℕ)
    → done ++ rest ≡ entries → length done ≡ n
    → take n after.0 ≡ map (λ entry. key entry.0) done → take n after.1 ≡ map (λ entry. entry.1) done
    → drop n after.0 ≡ drop n before.0 → drop n after.1 ≡ drop n before.1
    → n ≡ min (length entries) (min (length after.0) (length after.1))
    → AreNumbers key entries before after n
copied_of key entries done rest before after n all long keys_are values_are keys_stay values_stay least =
    let first : take n entries ≡ done = ap (take n) (sym all) ∙ ap (λ (m : ℕ). take m (done ++ rest)) (sym long)
    ∙ take-append_seam done rest in
    record {
      keys_are = keys_are ∙ ap (map (λ (entry : ℕ × ℕ). key entry.0)) (sym first);
      values_are = values_are ∙ ap (map (λ (entry : ℕ × ℕ). entry.1)) (sym first);
      all = least;
      keys_stay = keys_stay;
      values_stay = values_stay;
    }

drop_in_two : (n : ℕ) (l : List ℕ) → drop (n + 1) l ≡ drop 1 (drop n l)
drop_in_two zero l = refl
drop_in_two (suc n) [] = drop-nil (suc n + 1) ∙ sym (ap (drop 1) (drop-nil (suc n)) ∙ drop-nil 1)
drop_in_two (suc n) (x ∷ l) = let on : suc n + 1 ≡ suc (n + 1) = omega arith in
    ap (λ (k : ℕ). drop k (x ∷ l)) on ∙ drop_in_two n l

drop_one_more : (n : ℕ) (l m : List ℕ) → drop n l ≡ drop n m → drop (n + 1) l ≡ drop (n + 1) m
drop_one_more n l m same = drop_in_two n l ∙ ap (drop 1) same ∙ sym (drop_in_two n m)

-- what is beyond n and one more is as it was, where the one is written
pub stays_beyond : (n x : ℕ) (l m : List ℕ) → drop n l ≡ drop n m → drop (n + 1) (set l n x) ≡ drop (n + 1) m
stays_beyond n x l m same = drop-set-lt (n + 1) l n x (omega arith) ∙ drop_one_more n l m same
