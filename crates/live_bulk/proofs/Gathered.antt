-- What clients that share a table are shown together.
use Rattle.std.proofs.Common.{◌≡◌, ℕ, suc, ◌+◌, ◌*◌, ◌/◌, ◌<◌, ◌⊎◌, inl, inr, Bool, cond}
use Rattle.std.proofs.Common.{Option, Some, None, List, [], ◌∷◌, ◌++◌, map, flat_map, length, slice_index_or, IsSomeAnd, refl, sym, ap, subst}
use Rattle.std.proofs.Common.{◌∙◌, arith, append_assoc}
use Rattle.std.specs.List.{AllZip}
use Rattle.std.proofs.Math.Nat.{mul-div_cancel_left, zero-div}
use Rattle.std.proofs.lemmas.Bool.{lt-ltb, le-ltb}
use Rattle.std.proofs.lemmas.Grind.{flat_map-append}
use Rattle.std.proofs.lemmas.List.{append-nil, map-append}
use Rattle.hashkeys.specs.Classes.{ClassView}
use Rattle.bin_history.specs.declared.call.Call.{Call}
use Rattle.count_ledger.specs.Fronts.{HasSeenMore}
use Rattle.count_ledger.specs.Views.{LedgerView, PassView}
use Rattle.bin_layout.specs.Walks.{IsWalk}
use Rattle.bin_layout.proofs.Cursor.{IsWalkTo-first}
use Rattle.part_walks.specs.Joined.{HasEnd}
use Rattle.part_walks.specs.Parts.{HasComeTo, IsWalkFrom, class_at}
use Rattle.part_walks.specs.declared.seats.Seat.{Seat}
use Rattle.chm.specs.Visits.{VisitView, classes_of_visits, shown_by}
use Rattle.live_bulk.specs.Shared.{HasVisited, HaveGathered, HaveVisited, all_shown, all_visits}

-- a walk from an index to another goes on to a third
IsWalkFrom-more : (n a b c : ℕ) (xs ys : List ClassView) → IsWalkFrom n a b xs → IsWalkFrom n b c ys →
    IsWalkFrom n a c (xs ++ ys)
IsWalkFrom-more n a b c xs ys first second = λ before come.
    subst (λ (cs : List ClassView). HasComeTo n (class_at n c) cs) (append_assoc before xs ys)
    (second (before ++ xs) (first before come))

IsWalkFrom-none : (n a : ℕ) → IsWalkFrom n a a []
IsWalkFrom-none n a = λ before come.
    subst (λ (cs : List ClassView). HasComeTo n (class_at n a) cs) (sym (append-nil before)) come

-- a walk over all indexes of a table is a walk of the table
whole-walk : (n : ℕ) (classes : List ClassView) → 0 < n → IsWalkFrom n 0 n classes → IsWalk n classes
whole-walk n classes some walk =
    let first : ClassView = record { n = n; index = 0 } in
    let behind : ClassView = record { n = n; index = n } in
    let begins : Some first ≡ class_at n 0 = ap (λ (b : Bool). cond b (Some first) None) (sym (lt-ltb 0 n some)) in
    let ends : class_at n n ≡ None = ap (λ (b : Bool). cond b (Some behind) None) (le-ltb n n (omega arith)) in
    let at : HasComeTo n (class_at n 0) [] = subst (λ (o : Option ClassView). HasComeTo n o []) begins
    (IsWalkTo-first n first refl) in
    subst (λ (o : Option ClassView). HasComeTo n o classes) ends (walk [] at)

shares-walk : (n shares : ℕ) (classes : List ClassView) → 0 < n → 0 < shares →
    IsWalkFrom n (0 * n / shares) ((0 + shares) * n / shares) classes → IsWalk n classes
shares-walk n shares classes some few walk =
    let low : 0 * n / shares ≡ 0 = ap (λ (x : ℕ). x / shares) (let z : 0 * n ≡ 0 = omega arith in z) ∙ zero-div shares in
    let high : (0 + shares) * n / shares ≡ n = ap (λ (x : ℕ). x * n / shares) (let z : 0 + shares ≡ shares = omega arith in z)
    ∙ mul-div_cancel_left n few in
    whole-walk n classes some
    (subst (λ (x : ℕ). IsWalkFrom n x n classes) low (subst (λ (x : ℕ). IsWalkFrom n (0 * n / shares) x classes) high walk))

abbrev head_or_none : {T : Type 0} → List (Option T) → Option T
head_or_none [] = None
head_or_none (o ∷ os) = o

abbrev tail_of : {T : Type 0} → List (Option T) → List (Option T)
tail_of [] = []
tail_of (o ∷ os) = os

flat-shown : {K V : Type 0} (lists : List (List (VisitView K V))) → flat_map (λ es. es) (map shown_by lists) ≡ all_shown lists
flat-shown [] = refl
flat-shown {K} {V} (vs ∷ lists) =
    ap (λ (l : List (K × V)). shown_by vs ++ l) (flat-shown lists)
    ∙ sym (flat_map-append (λ (v : VisitView K V). v.entries) vs (all_visits lists))

module _ {K V F T : Type 0} (same : K → K → Bool) (code : K → ℕ) (after : Call K V F → Option V → Option V)
    (reached : List (K × V) → T → Type 0) (ends : T → Type 0) (ledger : LedgerView K V) (n shares : ℕ) where
  abbrev pass_of : Seat K V F T → PassView K V F
  pass_of s = s.pass

  abbrev part_of : Seat K V F T → Option T
  part_of s = s.part

  -- what clients with numbers from one on were shown, by what they collected
  record AreCollected (lo : ℕ) (before later : List (Seat K V F T)) (parts : List T) : Type 0 where
    lists : List (List (VisitView K V))
    visited : HaveVisited same code after ledger (map pass_of before) lists (map pass_of later)
    seen : AllZip HasSeenMore (map pass_of before) (map pass_of later)
    zip : AllZip reached (map shown_by lists) parts
    whole : HasEnd ends parts
        ⊎ IsWalkFrom n (lo * n / shares) ((lo + length before) * n / shares) (classes_of_visits (all_visits lists))

  one_more : (lo : ℕ) (s t : Seat K V F T) (before later : List (Seat K V F T)) (p : T) (parts : List T)
      → HasVisited same code after reached ends ledger n shares (lo + 0) s t → Some p ≡ t.part
      → AreCollected (lo + 1) before later parts → AreCollected lo (s ∷ before) (t ∷ later) (p ∷ parts)
  one_more lo s t before later p parts own is rest =
      let (come, whole) = subst (λ (o : Option T). IsSomeAnd o (λ part. reached (shown_by own.visits) part × (ends part
      ⊎ IsWalkFrom n ((lo + 0) * n / shares) (((lo + 0) + 1) * n / shares) (classes_of_visits own.visits)))) (sym is)
      own.collected in
      let here : lo + 0 ≡ lo = omega arith in
      let there : (lo + 1) + length before ≡ lo + length (s ∷ before) = omega arith in
      let both : classes_of_visits own.visits ++ classes_of_visits (all_visits rest.lists)
      ≡ classes_of_visits (own.visits ++ all_visits rest.lists)
      = sym (map-append (λ (v : VisitView K V). v.class) own.visits (all_visits rest.lists)) in
      record {
        lists = own.visits ∷ rest.lists;
        visited = (own.visited, rest.visited);
        seen = (own.seen, rest.seen);
        zip = (come, rest.zip);
        whole = elim whole [
          | inl e ↦ inl (inl e)
          | inr first ↦ elim rest.whole [
            | inl h ↦ inl (inr h)
            | inr second ↦ inr (subst (λ (cs : List ClassView).
                IsWalkFrom n (lo * n / shares) ((lo + length (s ∷ before)) * n / shares) cs) both
                (IsWalkFrom-more n (lo * n / shares) ((lo + 1) * n / shares) ((lo + length (s ∷ before)) * n / shares)
                (classes_of_visits own.visits) (classes_of_visits (all_visits rest.lists))
                (subst (λ (x : ℕ). IsWalkFrom n (x * n / shares) ((x + 1) * n / shares) (classes_of_visits own.visits)) here
                first)
                (subst (λ (x : ℕ). IsWalkFrom n ((lo + 1) * n / shares) (x * n / shares)
                (classes_of_visits (all_visits rest.lists))) there second)))
          ]
        ];
      }

  collect : (lo : ℕ) (before later : List (Seat K V F T)) (parts : List T) → length later ≡ length before →
      ((i : ℕ) (d : Seat K V F T) → i < length before → HasVisited same code after reached ends ledger n shares (lo + i)
      (slice_index_or before i d) (slice_index_or later i d)) → map Some parts ≡ map part_of later →
      AreCollected lo before later parts
  collect lo [] [] [] long each told = record {
    lists = [];
    visited = tt;
    seen = tt;
    zip = tt;
    whole = inr (let here : lo + 0 ≡ lo = omega arith in
        subst (λ (x : ℕ). IsWalkFrom n (lo * n / shares) (x * n / shares) []) (sym here)
        (IsWalkFrom-none n (lo * n / shares)));
  }
  collect lo [] [] (p ∷ parts) long each told = absurd (let l = ap length told in omega (arith, l))
  collect lo [] (t ∷ later) parts long each told = absurd (omega (arith, long))
  collect lo (s ∷ before) [] parts long each told = absurd (omega (arith, long))
  collect lo (s ∷ before) (t ∷ later) [] long each told = absurd (let l = ap length told in omega (arith, l))
  collect lo (s ∷ before) (t ∷ later) (p ∷ parts) long each told =
      one_more lo s t before later p parts (each 0 s (omega arith)) (ap head_or_none told)
      (collect (lo + 1) before later parts (omega (arith, long))
      (λ i d lt. let number : lo + suc i ≡ (lo + 1) + i = omega arith in
      subst (λ (x : ℕ). HasVisited same code after reached ends ledger n shares x (slice_index_or before i d)
      (slice_index_or later i d)) number (each (suc i) d (omega arith))) (ap tail_of told))

  -- all clients together, where their parts were joined
  pub gathered : (before later : List (Seat K V F T)) (parts : List T) (joined : T) → 0 < n → 0 < shares →
      shares ≡ length before → length later ≡ length before →
      ((i : ℕ) (d : Seat K V F T) → i < length before → HasVisited same code after reached ends ledger n shares i
      (slice_index_or before i d) (slice_index_or later i d)) → map Some parts ≡ map part_of later →
      ((ess : List (List (K × V))) → AllZip reached ess parts → reached (flat_map (λ es. es) ess) joined) →
      (HasEnd ends parts → ends joined) →
      HaveGathered same code after reached ends ledger (map pass_of before) (map pass_of later) joined
  gathered before later parts joined some few is long each told joins stops =
      let all = collect 0 before later parts long
      (λ i d lt. let number : i ≡ 0 + i = omega arith in
      subst (λ (x : ℕ). HasVisited same code after reached ends ledger n shares x (slice_index_or before i d)
      (slice_index_or later i d)) number (each i d lt)) told in
      record {
        parts = all.lists;
        visited = all.visited;
        seen = all.seen;
        collected = subst (λ (es : List (K × V)). reached es joined) (flat-shown all.lists)
            (joins (map shown_by all.lists) all.zip);
        whole = elim all.whole [
          | inl h ↦ inl (stops h)
          | inr walk ↦ inr (record {
            visited = all.visited;
            size = n;
            walk = shares-walk n shares (classes_of_visits (all_visits all.lists)) some few
                (subst (λ (x : ℕ). IsWalkFrom n (0 * n / shares) ((0 + x) * n / shares)
                (classes_of_visits (all_visits all.lists))) (sym is) walk);
          })
        ];
      }

  -- there are parts that join
  pub zipped : (before later : List (Seat K V F T)) (parts : List T) → length later ≡ length before →
      ((i : ℕ) (d : Seat K V F T) → i < length before → HasVisited same code after reached ends ledger n shares i
      (slice_index_or before i d) (slice_index_or later i d)) → map Some parts ≡ map part_of later →
      (ess : List (List (K × V))) × AllZip reached ess parts
  zipped before later parts long each told =
      let all = collect 0 before later parts long
      (λ i d lt. let number : i ≡ 0 + i = omega arith in
      subst (λ (x : ℕ). HasVisited same code after reached ends ledger n shares x (slice_index_or before i d)
      (slice_index_or later i d)) number (each i d lt)) told in
      (map shown_by all.lists, all.zip)
