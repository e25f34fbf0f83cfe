-- Pairs that a loop went over, and copies of them.
use Rattle.std.proofs.Common.{◌≡◌, ℕ, ◌+◌, ◌<◌, ◌≤◌, List, [], ◌∷◌, ◌++◌, length, map, take, drop, set}
use Rattle.std.proofs.Common.{sym, ap, subst, ◌∙◌, append_assoc, arith}
use Rattle.std.proofs.Math.Seq.{take-append_seam}
use Rattle.std.proofs.lemmas.Grind.{flat_map-append}
use Rattle.std.proofs.lemmas.List.{append-nil, drop-drop, drop-set-lt, length-append, map-append, take_more_set}
use Rattle.facing_maps.specs.Keys.{Bytes, Key}
use Rattle.facing_maps.specs.Pairs.{Rooms, bytes_of, IsAll, AreCopied}

-- what is the same beyond m is the same beyond m and k more
pub same_beyond : {X : Type 0} (m k : ℕ) (xs ys : List X) → drop m xs ≡ drop m ys → drop (m + k) xs ≡ drop (m + k) ys
same_beyond m k xs ys same = sym (drop-drop k m xs) ∙ ap (drop k) same ∙ drop-drop k m ys

-- what is beyond is as it was
pub rest_snoc : (used k m : ℕ) (before room one two : Bytes) → drop used room ≡ drop used before
    → drop (used + k) one ≡ drop (used + k) room → drop ((used + k) + m) two ≡ drop ((used + k) + m) one
    → drop ((used + k) + m) two ≡ drop ((used + k) + m) before
rest_snoc used k m before room one two same first second =
    second ∙ same_beyond (used + k) m one before (first ∙ same_beyond used k room before same)

pub lens_stay : (n x : ℕ) (lens before : List ℕ) → drop n lens ≡ drop n before
    → drop (n + 1) (set lens n x) ≡ drop (n + 1) before
lens_stay n x lens before same = drop-set-lt (n + 1) lens n x (omega arith) ∙ same_beyond n 1 lens before same

-- a number that is written, and those before it
pub lens_snoc : {X : Type 0} (f : X → ℕ) (done : List X) (e : X) (n x : ℕ) (lens : List ℕ) → n < length lens → x ≡ f e
    → take n lens ≡ map f done → take (n + 1) (set lens n x) ≡ map f (done ++ e ∷ [])
lens_snoc f done e n x lens below is are =
    take_more_set lens n x below ∙ ap (λ (l : List ℕ). l ++ x ∷ []) are ∙ ap (λ (y : ℕ). map f done ++ y ∷ []) is
    ∙ sym (map-append f done (e ∷ []))

-- the first n pairs are those that were gone over
pub first_are : {X : Type 0} (pairs done rest : List X) (n : ℕ) → done ++ rest ≡ pairs → length done ≡ n → take n pairs ≡ done
first_are pairs done rest n all long =
    ap (take n) (sym all) ∙ ap (λ (m : ℕ). take m (done ++ rest)) (sym long) ∙ take-append_seam done rest

module _ {V : Type 0} (laid : V → Bytes) where
  abbrev bytes : List (Key × V) → Bytes
  bytes pairs = bytes_of laid pairs

  -- one more pair's bytes
  pub bytes_snoc : (done : List (Key × V)) (e : Key × V) → bytes (done ++ e ∷ []) ≡ bytes done ++ (e.0.bytes ++ laid e.1)
  bytes_snoc done e = flat_map-append (λ (pair : Key × V). pair.0.bytes ++ laid pair.1) done (e ∷ [])
      ∙ ap (λ (l : Bytes). bytes done ++ l) (append-nil (e.0.bytes ++ laid e.1))

  pub length_snoc : (done : List (Key × V)) (e : Key × V) (k v : Bytes) (used : ℕ) → k ≡ e.0.bytes → v ≡ laid e.1
      → used ≡ length (bytes done) → (used + length k) + length v ≡ length (bytes (done ++ e ∷ []))
  length_snoc done e k v used k_is v_is used_is =
      let all : length (bytes (done ++ e ∷ [])) ≡ length (bytes done ++ (e.0.bytes ++ laid e.1)) = ap length (bytes_snoc done e) in
      omega (
        arith,
        all,
        length-append (bytes done) (e.0.bytes ++ laid e.1),
        length-append e.0.bytes (laid e.1),
        used_is,
        ap length k_is,
        ap length v_is,
      )

  -- the bytes of one more pair stand behind those of the others
  pub front_snoc : (done : List (Key × V)) (e : Key × V) (k v : Bytes) (used : ℕ) (room one two : Bytes)
      → k ≡ e.0.bytes → v ≡ laid e.1 → take used room ≡ bytes done
      → take (used + length k) one ≡ take used room ++ k
      → take ((used + length k) + length v) two ≡ take (used + length k) one ++ v
      → take ((used + length k) + length v) two ≡ bytes (done ++ e ∷ [])
  front_snoc done e k v used room one two k_is v_is are first second =
      second ∙ ap (λ (l : Bytes). l ++ v) (first ∙ ap (λ (l : Bytes). l ++ k) are)
      ∙ append_assoc (bytes done) k v ∙ ap (λ (l : Bytes). bytes done ++ (l ++ v)) k_is
      ∙ ap (λ (l : Bytes). bytes done ++ (e.0.bytes ++ l)) v_is ∙ sym (bytes_snoc done e)

  -- where one more pair finds no room
  pub too_many : (pairs done rest : List (Key × V)) (e : Key × V) (k v : Bytes) (n used left size : ℕ)
      → done ++ e ∷ rest ≡ pairs → length done ≡ n
      → k ≡ e.0.bytes → v ≡ laid e.1 → used ≡ length (bytes done) → left + used ≡ size → left < length k + length v
      → size < length (bytes (take (n + 1) pairs))
  too_many pairs done rest e k v n used left size all long k_is v_is used_is room full =
      let longer : length (done ++ e ∷ []) ≡ n + 1 = omega (arith, length-append done (e ∷ []), long) in
      let first : take (n + 1) pairs ≡ done ++ e ∷ [] = first_are pairs (done ++ e ∷ []) rest (n + 1)
      (append_assoc done (e ∷ []) rest ∙ all) longer in
      let sizes : length (bytes (take (n + 1) pairs)) ≡ length (bytes (done ++ e ∷ [])) =
      ap (λ (l : List (Key × V)). length (bytes l)) first in
      omega (arith, sizes, length_snoc done e k v used k_is v_is used_is, room, full)

  pub copied_of : (number : V → ℕ) (pairs done rest : List (Key × V)) (before after : Rooms) (n used : ℕ)
      → done ++ rest ≡ pairs → length done ≡ n → used ≡ length (bytes done)
      → take n after.0 ≡ map (λ pair. length pair.0.bytes) done → take n after.1 ≡ map (λ pair. number pair.1) done
      → take used after.2 ≡ bytes done
      → drop n after.0 ≡ drop n before.0 → drop n after.1 ≡ drop n before.1 → drop used after.2 ≡ drop used before.2
      → IsAll number laid pairs after n → AreCopied number laid pairs before after n
  copied_of number pairs done rest before after n used all long used_is keys values bytes_are keys_stay values_stay bytes_stay
      whole =
      let first : take n pairs ≡ done = first_are pairs done rest n all long in
      let size : used ≡ length (bytes (take n pairs)) = used_is ∙ ap (λ (l : List (Key × V)). length (bytes l)) (sym first) in
      let lengths : length done + length rest ≡ length pairs = sym (length-append done rest) ∙ ap length all in
      record {
        few = omega (arith, lengths, long);
        all = whole;
        key_lens_are = keys ∙ ap (map (λ (pair : Key × V). length pair.0.bytes)) (sym first);
        numbers_are = values ∙ ap (map (λ (pair : Key × V). number pair.1)) (sym first);
        bytes_are = ap (λ (m : ℕ). take m after.2) (sym size) ∙ bytes_are ∙ ap bytes (sym first);
        key_lens_stay = keys_stay;
        numbers_stay = values_stay;
        bytes_stay = subst (λ (m : ℕ). drop m after.2 ≡ drop m before.2) size bytes_stay;
      }
