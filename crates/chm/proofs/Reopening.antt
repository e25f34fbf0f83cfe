-- Pairs that are dealt to the classes of a table are the same map.
use Rattle.std.proofs.Common.{◌≡◌, ◌≢◌, ℕ, zero, suc, ◌+◌, ◌%◌, ◌<◌, ◌≤◌, Bool, true, false, cond, Decides, Option}
use Rattle.std.proofs.Common.{Some, None}
use Rattle.std.proofs.Common.{List, [], ◌∷◌, ◌++◌, map, flat_map, ⊎_elim, refl, sym, ap, ◌∙◌, arith}
use Rattle.std.specs.List.{range_with_len}
use Rattle.std.proofs.Math.Nat.{mod-lt}
use Rattle.std.proofs.lemmas.Bool.{cases_lt, ne_eqb, eq-eqb}
use Rattle.hashkeys.specs.Classes.{is_of}
use Rattle.hashkeys.specs.Hashing.{hash_of}
use Rattle.hashkeys.specs.declared.hashing.Salt.{Salt}
use Rattle.bin_history.specs.Entries.{lookup}
use Rattle.bin_history.specs.Part.{part_of_entries}
use Rattle.bin_history.proofs.Parts.{lookup-part}
use Rattle.chm.specs.Reopened.{in_classes}
use Rattle.chm.proofs.Homes.{lookup-right}

module _ {K V : Type 0} (same : K → K → Bool) (tells : (x y : K) → Decides (same x y) (x ≡ y)) where
  lookup-left_found : (xs ys : List (K × V)) (k : K) (w : V) → lookup same xs k ≡ Some w →
      lookup same (xs ++ ys) k ≡ Some w
  lookup-left_found [] ys k w found = absurd cc
  lookup-left_found (x ∷ xs) ys k w found = go (same x.0 k) found (lookup-left_found xs ys k w) where
    go : (b : Bool) → cond b (Some x.1) (lookup same xs k) ≡ Some w →
        (lookup same xs k ≡ Some w → lookup same (xs ++ ys) k ≡ Some w)
        → cond b (Some x.1) (lookup same (xs ++ ys) k) ≡ Some w
    go true found rest = found
    go false found rest = rest found

  module _ (code : K → ℕ) (salt : Salt) (n : ℕ) (es : List (K × V)) (k : K) where
    abbrev part : ℕ → List (K × V)
    part i = part_of_entries (is_of code salt (record { n = n; index = i })) es

    abbrev parts_from : ℕ → ℕ → List (K × V)
    parts_from a len =
        flat_map (λ l. l) (map (λ i. part_of_entries (is_of code salt (record { n = n; index = i })) es)
        (range_with_len a len))

    in_no_other : (i : ℕ) → hash_of salt (code k) % n ≢ i → lookup same (part i) k ≡ None
    in_no_other i other =
        lookup-part same tells (is_of code salt (record { n = n; index = i })) es k
        ∙ ap (λ (b : Bool). cond b (lookup same es k) None) (ne_eqb (hash_of salt (code k) % n) i other)

    in_its_own : (i : ℕ) → hash_of salt (code k) % n ≡ i → lookup same (part i) k ≡ lookup same es k
    in_its_own i its =
        lookup-part same tells (is_of code salt (record { n = n; index = i })) es k
        ∙ ap (λ (b : Bool). cond b (lookup same es k) None) (eq-eqb (hash_of salt (code k) % n) i its)

    in_none_from : (a len : ℕ) → hash_of salt (code k) % n < a → lookup same (parts_from a len) k ≡ None
    in_none_from a zero past = refl
    in_none_from a (suc len) past =
        lookup-right same (part a) (parts_from (a + 1) len) k (in_no_other a (λ e. omega (arith, e)))
        ∙ in_none_from (a + 1) len (omega arith)

    in_one_from : (a len : ℕ) → a ≤ hash_of salt (code k) % n → hash_of salt (code k) % n < a + len →
        lookup same (parts_from a len) k ≡ lookup same es k
    in_one_from a zero from below = absurd (omega arith)
    in_one_from a (suc len) from below =
        ⊎_elim (λ lt. later lt (in_one_from (a + 1) len (omega arith) (omega arith))) here
        (cases_lt a (hash_of salt (code k) % n)) where
          later : a < hash_of salt (code k) % n → lookup same (parts_from (a + 1) len) k ≡ lookup same es k
              → lookup same (parts_from a (suc len)) k ≡ lookup same es k
          later lt rest = lookup-right same (part a) (parts_from (a + 1) len) k (in_no_other a (λ e. omega (arith, e)))
              ∙ rest

          here : hash_of salt (code k) % n ≤ a → lookup same (parts_from a (suc len)) k ≡ lookup same es k
          here le = go (lookup same es k) refl (in_its_own a (omega (arith, from, le))) where
            go : (o : Option V) → lookup same es k ≡ o → lookup same (part a) k ≡ lookup same es k →
                lookup same (parts_from a (suc len)) k ≡ lookup same es k
            go None is own =
                lookup-right same (part a) (parts_from (a + 1) len) k (own ∙ is)
                ∙ in_none_from (a + 1) len (omega (arith, from, le)) ∙ sym is
            go (Some w) is own = lookup-left_found (part a) (parts_from (a + 1) len) k w (own ∙ is) ∙ sym is

    pub lookup-in_classes : 0 < n → lookup same (in_classes code salt n es) k ≡ lookup same es k
    lookup-in_classes some =
        in_one_from 0 n (omega arith) (let low = mod-lt (hash_of salt (code k)) some in omega arith)
