-- Pairs dealt to the classes of a table.
use Rattle.std.proofs.Common.{◌≡◌, ◌≢◌, ℕ, zero, suc, ◌+◌, ◌%◌, ◌^◌, ◌<◌, Bool, true, List, [], ◌∷◌, ◌++◌, length}
use Rattle.std.proofs.Common.{replicate, flat_map, get_or, Decides, subst}
use Rattle.std.proofs.Common.{inl, inr, ⊎_elim, ◌⊎◌, sym, ap, ◌∙◌, arith, All}
use Rattle.std.proofs.lemmas.Bool.{cases_lt, ne_eqb, eq-eqb}
use Rattle.std.proofs.lemmas.List.{ext_get_or, get_or-map, length-map, get_or-replicate, get_or-set_same}
use Rattle.std.proofs.lemmas.List.{get_or-set_other, length-append, length-replicate}
use Rattle.std.proofs.lemmas.List.{length-set}
use Rattle.std.proofs.lemmas.List.Concat.{length-flat_map}
use Rattle.std.proofs.lemmas.List.FromFn.{get_or-map-range_with_len, length-map-range_with_len}
use Rattle.std.proofs.lemmas.List.Sums.{sum_by-set}
use Rattle.std.specs.Prelude.{set}
use Rattle.hashkeys.specs.Classes.{IsTableSize, is_of}
use Rattle.hashkeys.specs.Hashing.{hash_of}
use Rattle.hashkeys.specs.declared.hashing.Salt.{Salt}
use Rattle.std.specs.declared.vec.Vec.{Vec}
use Rattle.bin_history.specs.Entries.{HasDistinctKeys}
use Rattle.bin_history.specs.Part.{part_of_entries}
use Rattle.bin_history.proofs.Lawful.{All-passed}
use Rattle.bin_history.proofs.Parts.{HasDistinctKeys-part}
use Rattle.count_ledger.specs.Opening.{AreOfTheirClasses, base_at, lists_of}
use Rattle.count_ledger.proofs.Filters.{filter_push_kept, filter_push_left}
use Rattle.chm.specs.Reopened.{parts_by_class}

pub positive : (n : ℕ) → IsTableSize n → 0 < n
positive n (e, few, is) = let some = pow-pos e in omega arith where
  pow-pos : (e : ℕ) → 0 < 2 ^ e
  pow-pos zero = omega arith
  pow-pos (suc e) = let rest = pow-pos e in omega arith

equal_or_not : (a b : ℕ) → (a ≡ b) ⊎ (a ≢ b)
equal_or_not a b =
    ⊎_elim (λ lt. inr (λ e. omega (arith, e)))
    (λ le. ⊎_elim (λ lt. inr (λ e. omega (arith, e))) (λ ge. inl (omega arith)) (cases_lt b a))
    (cases_lt a b)

-- one more in one of some lists is one more in all
pub length-set_push : {X : Type 0} (ls : List (List X)) (i : ℕ) (x : X) → i < length ls
    → length (flat_map (λ l. l) (set ls i (get_or ls i [] ++ x ∷ []))) ≡ length (flat_map (λ l. l) ls) + 1
length-set_push {X} ls i x lt =
    let f : List X → ℕ = λ l. length l in
    let before = length-flat_map (λ (l : List X). l) ls in
    let now = length-flat_map (λ (l : List X). l) (set ls i (get_or ls i [] ++ x ∷ [])) in
    let changed = sum_by-set f ls i (get_or ls i [] ++ x ∷ []) [] lt in
    let longer = length-append (get_or ls i []) (x ∷ []) in
    omega arith

module _ {K V : Type 0} (code : K → ℕ) (salt : Salt) (n : ℕ) where
  abbrev part_at : ℕ → List (K × V) → List (K × V)
  part_at i es = part_of_entries (is_of code salt (record { n = n; index = i })) es

  pub length-parts_by_class : (es : List (K × V)) → length (parts_by_class code salt n es) ≡ n
  length-parts_by_class es =
      length-map-range_with_len (λ i. part_of_entries (is_of code salt (record { n = n; index = i })) es) 0 n

  pub dealt_at : (es : List (K × V)) (i : ℕ) (d : List (K × V)) → i < n
      → get_or (parts_by_class code salt n es) i d ≡ part_of_entries (is_of code salt (record { n = n; index = i })) es
  dealt_at es i d lt =
      get_or-map-range_with_len (λ j. part_of_entries (is_of code salt (record { n = n; index = j })) es) 0 n i i d
      lt (omega arith)

  pub parts_by_class-none : replicate n [] ≡ parts_by_class {V = V} code salt n []
  parts_by_class-none =
      ext_get_or [] (replicate n []) (parts_by_class code salt n [])
      (length-replicate n [] ∙ sym (length-parts_by_class []))
      (λ i lt. (let len = length-replicate {A = List (K × V)} n [] in
      get_or-replicate n i [] [] (omega arith) ∙ sym (dealt_at [] i [] (omega arith))))

  module _ (done : List (K × V)) (e : K × V) (i : ℕ) (its : hash_of salt (code e.0) % n ≡ i) (lt : i < n) where
    at_its_own : part_at i (done ++ e ∷ []) ≡ part_at i done ++ e ∷ []
    at_its_own = filter_push_kept (λ (x : K × V). is_of code salt (record { n = n; index = i }) x.0) done e
        (eq-eqb (hash_of salt (code e.0) % n) i its)

    at_another : (j : ℕ) → j ≢ i → part_at j (done ++ e ∷ []) ≡ part_at j done
    at_another j other = filter_push_left (λ (x : K × V). is_of code salt (record { n = n; index = j }) x.0) done e
        (ne_eqb (hash_of salt (code e.0) % n) j (λ same. other (sym same ∙ its)))

    -- a pair more stands last in the list of its class
    pub parts_by_class-push : set (parts_by_class code salt n done) i
        (get_or (parts_by_class code salt n done) i [] ++ e ∷ []) ≡ parts_by_class code salt n
        (done ++ e ∷ [])
    parts_by_class-push =
        let ls = parts_by_class code salt n done in
        let x = get_or ls i [] ++ e ∷ [] in
        let len = length-parts_by_class done in
        let len_set = length-set ls i x in
        let goes : (j : ℕ) → j < length (set ls i x) →
        get_or (set ls i x) j [] ≡ get_or (parts_by_class code salt n (done ++ e ∷ [])) j [] = λ j below.
        (let small : j < n = omega arith in
        let here : i < length ls = omega arith in
        ⊎_elim
        (λ same. ap (λ k. get_or (set ls i x) k []) same ∙ get_or-set_same ls i x [] here
        ∙ ap (λ (l : List (K × V)). l ++ e ∷ []) (dealt_at done i [] lt)
        ∙ sym at_its_own ∙ sym (dealt_at (done ++ e ∷ []) i [] lt)
        ∙ ap (λ k. get_or (parts_by_class code salt n (done ++ e ∷ [])) k []) (sym same))
        (λ other. get_or-set_other ls i j x [] other ∙ dealt_at done j [] small ∙ sym (at_another j other)
        ∙ sym (dealt_at (done ++ e ∷ []) j [] small))
        (equal_or_not j i))
        in
        ext_get_or [] (set ls i x) (parts_by_class code salt n (done ++ e ∷ []))
        (len_set ∙ len ∙ sym (length-parts_by_class (done ++ e ∷ []))) goes

module _ {K V Z : Type 0} (same : K → K → Bool) (tells : (x y : K) → Decides (same x y) (x ≡ y)) (code : K → ℕ)
    (salt : Salt) (n : ℕ) (es : List (K × V)) where
  -- of distinct keys those of each class are distinct
  pub distinct-parts_by_class : (bases : Vec (Vec (K × V) Z) Z) → HasDistinctKeys same es →
      lists_of bases ≡ parts_by_class code salt n es
      → All (λ base. HasDistinctKeys same base.items) bases.items
  distinct-parts_by_class bases distinct is i d lt =
      let len : length bases.items ≡ n = sym (length-map bases.items (λ (b : Vec (K × V) Z). b.items))
      ∙ ap (λ (l : List (List (K × V))). length l) is
      ∙ length-parts_by_class code salt n es in
      let at : (get_or bases.items i d).items ≡ part_of_entries (is_of code salt (record { n = n; index = i })) es =
      sym (get_or-map (λ (b : Vec (K × V) Z). b.items) bases.items i d [] lt)
      ∙ ap (λ (l : List (List (K × V))). get_or l i []) is
      ∙ dealt_at code salt n es i [] (omega arith)
      in
      subst (HasDistinctKeys same) (sym at)
      (HasDistinctKeys-part same tells (is_of code salt (record { n = n; index = i })) es distinct)

module _ {K V : Type 0} (code : K → ℕ) (salt : Salt) (n : ℕ) (es : List (K × V)) where
  pub of_class-parts_by_class : (bases : List (List (K × V))) → bases ≡ parts_by_class code salt n es →
      AreOfTheirClasses code salt bases
  of_class-parts_by_class bases is i lt =
      let len : length bases ≡ n = ap (λ (l : List (List (K × V))). length l) is
      ∙ length-parts_by_class code salt n es in
      let at : base_at bases i ≡ part_of_entries (is_of code salt (record { n = n; index = i })) es =
      ap (λ (l : List (List (K × V))). get_or l i []) is
      ∙ dealt_at code salt n es i [] (omega arith) in
      let Of : ℕ → List (K × V) → Type 0 =
      λ m l. All (λ e. is_of code salt (record { n = m; index = i }) e.0 ≡ true) l in
      subst (λ m. Of m (base_at bases i)) (sym len)
      (subst (Of n) (sym at) (All-passed (λ (e : K × V). is_of code salt (record { n = n; index = i }) e.0) es))
