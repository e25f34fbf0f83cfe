-- A crew, when a way is lent or comes back.
use Rattle.std.proofs.Common.{◌≡◌, ℕ, zero, suc, ◌+◌, ◌*◌, ◌-◌, ◌<◌, Bool, true, false, cond, ◌==◌, List, [], ◌∷◌, ◌++◌}
use Rattle.std.proofs.Common.{length, map, take, get_or, set, sum_by}
use Rattle.std.proofs.Common.{refl, sym, ap, ◌∙◌, subst, ⊎_elim, arith}
use Rattle.std.specs.Prelude.{All}
use Rattle.std.proofs.lemmas.List.{append_assoc, length-set, length-map, map-set, map_push, take_more_set}
use Rattle.std.proofs.lemmas.List.Elements.{All-nil, All-cons, All-head, All-tail, All-push}
use Rattle.std.proofs.lemmas.List.Sums.{sum_by-set, sum_by_push, sum_by-cons}
use Rattle.std.proofs.lemmas.Bool.{eqb-true, eq-eqb}
use Rattle.std.proofs.Math.ListN.{get_or-map}
use Rattle.std.proofs.Math.Nat.{suc-mul, zero-mul, eq-zero-or-pos}
use Rattle.std.proofs.Math.Seq.{map-set_same}
use Rattle.steal_pool.specs.Shapes.{Shape, AreCrew, countdown, numbers, weight_led, weight_out, own_ways}

-- one member changes, and what lies loose
changed_at : (loose loose' : List ℕ) (ss : List Shape) (i : ℕ) (s' s d : Shape) → AreCrew loose ss → i < length ss →
    s ≡ get_or ss i d
    → s'.number ≡ s.number
    → ((f : ℕ → ℕ) → sum_by f loose' + sum_by f s'.ways + s.out * f s.number
    ≡ sum_by f loose + sum_by f s.ways + s'.out * f s.number)
    → AreCrew loose' (set ss i s')
changed_at loose loose' ss i s' s d crew here at same books =
    let long : length (set ss i s') ≡ length ss = length-set ss i s' in
    let kept : numbers (set ss i s') ≡ numbers ss =
    map-set_same (λ (u : Shape). u.number) ss i s' d (same ∙ ap (λ (u : Shape). u.number) at) in
    record {
      numbered = kept ∙ (crew.numbered ∙ ap countdown (sym long));
      ways = λ f.
          let own : Shape → ℕ = λ u. sum_by f u.ways in
          let out : Shape → ℕ = λ u. u.out * f u.number in
          let a = sum_by-set own ss i s' d here in
          let b = sum_by-set out ss i s' d here in
          let p : own s ≡ own (get_or ss i d) = ap own at in
          let q : out s ≡ out (get_or ss i d) = ap out at in
          let r : s'.out * f s'.number ≡ s'.out * f s.number = ap (λ k. s'.out * f k) same in
          omega (arith, crew.ways f, books f);
    }

-- 1 at j, and else 0
abbrev at : ℕ → ℕ → ℕ
at j k = cond (k == j) 1 0

at_itself : (j : ℕ) → at j j ≡ 1
at_itself j = ap (λ b. cond b 1 0) (eq-eqb j j refl)

at_only : (b : Bool) (n j k : ℕ) → (k == j) ≡ b → 0 < n * cond b 1 0 → (0 < n) × (k ≡ j)
at_only true n j k is some = (omega arith, eqb-true k j is)
at_only false n j k is some = absurd (omega arith)

-- where a way into the deque of j is out, j is the number of a member
numbered_home : (j : ℕ) (ss : List Shape) → numbers ss ≡ countdown (length ss) → 0 < weight_out (at j) ss
    → (j < length ss)
    × ((d : Shape) → (0 < (get_or ss (length ss - 1 - j) d).out) × ((get_or ss (length ss - 1 - j) d).number ≡ j))
numbered_home j [] is some = absurd (omega arith)
numbered_home j (s ∷ ss) is some =
    let first : s.number ≡ length ss = cc in
    let rest : numbers ss ≡ countdown (length ss) = cc in
    let all = sum_by-cons (λ (u : Shape). u.out * at j u.number) s ss in
    let P : Shape → ℕ → Type 0 = λ d k. (0 < (get_or (s ∷ ss) k d).out) × ((get_or (s ∷ ss) k d).number ≡ j) in
    ⊎_elim (λ (none : s.out * at j s.number ≡ 0).
    let more : 0 < weight_out (at j) ss = omega arith in
    let later = numbered_home j ss rest more in
    let below : j < length ss = later.0 in
    let index : suc (length ss - 1 - j) ≡ suc (length ss) - 1 - j = omega arith in
    (omega arith, λ d. subst (P d) index (later.1 d)))
    (λ (out : 0 < s.out * at j s.number).
    let mine = at_only (s.number == j) s.out j s.number refl out in
    let it : s.number ≡ j = mine.1 in
    let index : zero ≡ suc (length ss) - 1 - j = omega arith in
    (omega arith, λ d. subst (P d) index mine))
    (eq-zero-or-pos (s.out * at j s.number))

led_none : (f : ℕ → ℕ) (ss : List Shape) → All (λ (ws : List ℕ). ws ≡ []) (own_ways ss) → weight_led f ss ≡ 0
led_none f [] none = refl
led_none f (s ∷ ss) none =
    let here : sum_by f s.ways ≡ 0 = ap (sum_by f) (All-head (λ (ws : List ℕ). ws ≡ []) s.ways (own_ways ss) none) in
    let rest = led_none f ss (All-tail (λ (ws : List ℕ). ws ≡ []) s.ways (own_ways ss) none) in
    omega (arith, sum_by-cons (λ (u : Shape). sum_by f u.ways) s ss)

none_out : (ss : List Shape) → weight_out (λ k. 1) ss ≡ 0 → All (λ (s : Shape). s.out ≡ 0) ss
none_out [] none = All-nil (λ (s : Shape). s.out ≡ 0)
none_out (s ∷ ss) none =
    let all = sum_by-cons (λ (u : Shape). u.out * 1) s ss in
    let here : s.out ≡ 0 = omega arith in
    let rest : weight_out (λ k. 1) ss ≡ 0 = omega arith in
    All-cons (λ (s : Shape). s.out ≡ 0) s ss here (none_out ss rest)

module _ {X : Type 0} (of : X → Shape) where
  changed : (loose loose' : List ℕ) (xs : List X) (i : ℕ) (x d : X) → AreCrew loose (map of xs) → i < length xs
      → (of x).number ≡ (of (get_or xs i d)).number
      → ((f : ℕ → ℕ) → let s : Shape = of (get_or xs i d) in
      sum_by f loose' + sum_by f (of x).ways + s.out * f s.number ≡ sum_by f loose + sum_by f s.ways +
      (of x).out * f s.number)
      → AreCrew loose' (map of (set xs i x))
  changed loose loose' xs i x d crew here same books =
      let in' : i < length (map of xs) = omega (arith, length-map xs of) in
      let at : of (get_or xs i d) ≡ get_or (map of xs) i (of d) = sym (get_or-map of xs i d) in
      subst (AreCrew loose') (sym (map-set of xs i x))
      (changed_at loose loose' (map of xs) i (of x) (of (get_or xs i d)) (of d) crew in' at same books)

  -- a member lends a way into its deque
  pub lends : (loose : List ℕ) (xs : List X) (i : ℕ) (x d : X) → AreCrew loose (map of xs) → i < length xs
      → of x ≡ record (of (get_or xs i d)) { out = (of (get_or xs i d)).out + 1 } →
      AreCrew (loose ++ (of (get_or xs i d)).number ∷ []) (map of (set xs i x))
  lends loose xs i x d crew here is =
      let s : Shape = of (get_or xs i d) in
      changed loose (loose ++ s.number ∷ []) xs i x d crew here (ap (λ (u : Shape). u.number) is)
      (λ f.
      let l = sum_by_push f loose s.number in
      let o : (of x).out ≡ suc s.out = ap (λ (u : Shape). u.out) is ∙ omega arith in
      let m : (of x).out * f s.number ≡ s.out * f s.number + f s.number = ap (λ k. k * f s.number) o
      ∙ suc-mul s.out (f s.number) in
      let w : sum_by f (of x).ways ≡ sum_by f s.ways = ap (λ (u : Shape). sum_by f u.ways) is in omega arith)

  -- a member gets the way that lies loose
  pub gets : (loose : List ℕ) (j : ℕ) (xs : List X) (i : ℕ) (x d : X) → AreCrew (loose ++ j ∷ []) (map of xs)
      → i < length xs
      → of x ≡ record (of (get_or xs i d)) { ways = (of (get_or xs i d)).ways ++ j ∷ [] } →
      AreCrew loose (map of (set xs i x))
  gets loose j xs i x d crew here is =
      let s : Shape = of (get_or xs i d) in
      changed (loose ++ j ∷ []) loose xs i x d crew here (ap (λ (u : Shape). u.number) is)
      (λ f.
      let l = sum_by_push f loose j in
      let v = sum_by_push f s.ways j in
      let m : (of x).out * f s.number ≡ s.out * f s.number = ap (λ (u : Shape). u.out * f s.number) is in
      let w : sum_by f (of x).ways ≡ sum_by f (s.ways ++ j ∷ []) = ap (λ (u : Shape). sum_by f u.ways) is in
      omega arith)

  -- a member lays its ways loose
  pub lays : (loose : List ℕ) (xs : List X) (i : ℕ) (x d : X) → AreCrew [] (map of xs) → i < length xs
      → of x ≡ record (of (get_or xs i d)) { ways = [] } → loose ≡ (of (get_or xs i d)).ways →
      AreCrew loose (map of (set xs i x))
  lays loose xs i x d crew here is all =
      let s : Shape = of (get_or xs i d) in
      changed [] loose xs i x d crew here (ap (λ (u : Shape). u.number) is)
      (λ f.
      let l : sum_by f loose ≡ sum_by f s.ways = ap (sum_by f) all in
      let m : (of x).out * f s.number ≡ s.out * f s.number = ap (λ (u : Shape). u.out * f s.number) is in
      let w : sum_by f (of x).ways ≡ 0 = ap (λ (u : Shape). sum_by f u.ways) is in omega arith)

  -- a member takes a way into its deque back
  pub takes_back : (loose : List ℕ) (j : ℕ) (xs : List X) (i : ℕ) (x d : X) → AreCrew (loose ++ j ∷ []) (map of xs)
      → i < length xs
      → (of (get_or xs i d)).number ≡ j → (of x).number ≡ (of (get_or xs i d)).number →
      (of x).out + 1 ≡ (of (get_or xs i d)).out
      → (of x).ways ≡ (of (get_or xs i d)).ways → AreCrew loose (map of (set xs i x))
  takes_back loose j xs i x d crew here home number out ways =
      let s : Shape = of (get_or xs i d) in
      changed (loose ++ j ∷ []) loose xs i x d crew here number
      (λ f.
      let l = sum_by_push f loose j in
      let e : f s.number ≡ f j = ap f home in
      let o : s.out ≡ suc (of x).out = sym out ∙ omega arith in
      let m : s.out * f s.number ≡ (of x).out * f s.number + f s.number = ap (λ k. k * f s.number) o
      ∙ suc-mul (of x).out (f s.number) in
      let w : sum_by f (of x).ways ≡ sum_by f s.ways = ap (sum_by f) ways in omega arith)

  -- The member that a loose way leads to, and a way is out from it.
  pub home : (loose : List ℕ) (j : ℕ) (xs : List X) → AreCrew (loose ++ j ∷ []) (map of xs)
      → (j < length xs)
      × ((d : X) → (0 < (of (get_or xs (length xs - 1 - j) d)).out)
      × ((of (get_or xs (length xs - 1 - j) d)).number ≡ j))
  home loose j xs crew =
      let one = at_itself j in
      let l = sum_by_push (at j) loose j in
      let w = crew.ways (at j) in
      let long : length (map of xs) ≡ length xs = length-map xs of in
      let h = numbered_home j (map of xs) crew.numbered (omega arith) in (
        subst (λ n. j < n) long h.0,
        λ d.
            let same : get_or (map of xs) (length (map of xs) - 1 - j) (of d) ≡ of (get_or xs (length xs - 1 - j) d) =
            ap (λ n. get_or (map of xs) (n - 1 - j) (of d)) long ∙ get_or-map of xs (length xs - 1 - j) d in
            subst (λ (u : Shape). (0 < u.out) × (u.number ≡ j)) same (h.1 (of d)),
      )

  -- a member's own ways are as they were
  pub same_ways : (xs : List X) (i : ℕ) (x d : X) → i < length xs → (of x).ways ≡ (of (get_or xs i d)).ways
      → own_ways (map of (set xs i x)) ≡ own_ways (map of xs)
  same_ways xs i x d here same =
      let at : (of (get_or xs i d)).ways ≡ (get_or (map of xs) i (of d)).ways =
      ap (λ (u : Shape). u.ways) (sym (get_or-map of xs i d)) in
      ap own_ways (map-set of xs i x) ∙ map-set_same (λ (u : Shape). u.ways) (map of xs) i (of x) (of d) (same ∙ at)

  -- one more member has no way
  pub more_none : (xs : List X) (i : ℕ) (x : X) (ws : List (List ℕ)) → i < length xs → (of x).ways ≡ [] →
      ws ≡ own_ways (map of (set xs i x))
      → All (λ (w : List ℕ). w ≡ []) (take i (own_ways (map of xs))) → All (λ (w : List ℕ). w ≡ []) (take (i + 1) ws)
  more_none xs i x ws here empty is none =
      let own : List (List ℕ) = own_ways (map of xs) in
      let in' : i < length own = omega (arith, length-map xs of, length-map (map of xs) (λ (u : Shape). u.ways)) in
      let e : ws ≡ set own i (of x).ways =
      is ∙ (ap own_ways (map-set of xs i x) ∙ map-set (λ (u : Shape). u.ways) (map of xs) i (of x)) in
      let t : take (i + 1) ws ≡ take i own ++ (of x).ways ∷ [] =
      ap (take (i + 1)) e ∙ take_more_set own i (of x).ways in' in
      subst (All (λ (w : List ℕ). w ≡ [])) (sym t)
      (All-push (λ (w : List ℕ). w ≡ []) (take i own) (of x).ways none empty)

  -- with no way left, and none loose, none is out
  pub all_home : (xs : List X) → AreCrew [] (map of xs) → All (λ (w : List ℕ). w ≡ []) (own_ways (map of xs))
      → All (λ (x : X). ((of x).out ≡ 0) × ((of x).ways ≡ [])) xs
  all_home xs crew none k d here =
      let in' : k < length (map of xs) = omega (arith, length-map xs of) in
      let in'' : k < length (own_ways (map of xs)) = omega (arith, length-map (map of xs) (λ (u : Shape). u.ways)) in
      let it : get_or (map of xs) k (of d) ≡ of (get_or xs k d) = get_or-map of xs k d in
      let led' = led_none (λ n. 1) (map of xs) none in
      let all = crew.ways (λ n. 1) in
      let zero' : weight_out (λ n. 1) (map of xs) ≡ 0 = omega arith in
      let out = none_out (map of xs) zero' k (of d) in' in
      let way : get_or (own_ways (map of xs)) k (of d).ways ≡ [] = none k (of d).ways in'' in
      let same : get_or (own_ways (map of xs)) k (of d).ways ≡ (get_or (map of xs) k (of d)).ways =
      get_or-map (λ (u : Shape). u.ways) (map of xs) k (of d) in (
        ap (λ (u : Shape). u.out) (sym it) ∙ out,
        ap (λ (u : Shape). u.ways) (sym it) ∙ (sym same ∙ way),
      )

-- what is taken off the end lies loose
pub popped : {Y : Type 0} (to : Y → ℕ) (ws rest : List Y) (w : Y) (ss : List Shape) → ws ≡ rest ++ w ∷ [] →
    AreCrew (map to ws) ss
    → AreCrew (map to rest ++ to w ∷ []) ss
popped to ws rest w ss is crew = subst (λ (l : List ℕ). AreCrew l ss) (ap (map to) is ∙ map_push to rest w) crew

pub nil_from_map : {X Y : Type 0} (f : X → Y) (xs : List X) → map f xs ≡ [] → xs ≡ []
nil_from_map f [] none = refl
nil_from_map f (x ∷ xs) none = cc

module _ {X : Type 0} (of : X → Shape) (all new : List X) (x : X) (is : new ≡ all ++ x ∷ []) where
  -- one more member has the number after the last one's
  pub one_numbered : (workers before after : ℕ) → before ≡ suc after → (of x).number ≡ after
      → numbers (map of all) ++ countdown before ≡ countdown workers → numbers (map of new) ++ countdown after
      ≡ countdown workers
  one_numbered workers before after less number so_far =
      let more : numbers (map of new) ≡ numbers (map of all) ++ after ∷ [] =
      ap (λ (ys : List X). numbers (map of ys)) is
      ∙ (ap numbers (map_push of all x)
      ∙ (map_push (λ (u : Shape). u.number) (map of all) (of x)
      ∙ ap (λ (n : ℕ). numbers (map of all) ++ n ∷ []) number)) in
      ap (λ (ns : List ℕ). ns ++ countdown after) more
      ∙ (append_assoc (numbers (map of all)) (after ∷ []) (countdown after)
      ∙ (ap (λ (n : ℕ). numbers (map of all) ++ countdown n) (sym less) ∙ so_far))

  -- one more member has no way, and none into its deque is out
  pub one_alone : (of x).out ≡ 0 → (of x).ways ≡ [] →
      ((f : ℕ → ℕ) → (weight_led f (map of all) ≡ 0) × (weight_out f (map of all) ≡ 0))
      → (f : ℕ → ℕ) → (weight_led f (map of new) ≡ 0) × (weight_out f (map of new) ≡ 0)
  one_alone out ways so_far f =
      let own : Shape → ℕ = λ u. sum_by f u.ways in
      let out_of : Shape → ℕ = λ u. u.out * f u.number in
      let more : map of new ≡ map of all ++ of x ∷ [] = ap (map of) is ∙ map_push of all x in
      let l : weight_led f (map of new) ≡ weight_led f (map of all) + own (of x) =
      ap (weight_led f) more ∙ sum_by_push own (map of all) (of x) in
      let o : weight_out f (map of new) ≡ weight_out f (map of all) + out_of (of x) =
      ap (weight_out f) more ∙ sum_by_push out_of (map of all) (of x) in
      let l' : own (of x) ≡ 0 = ap (sum_by f) ways in
      let o' : out_of (of x) ≡ 0 = ap (λ (n : ℕ). n * f (of x).number) out ∙ zero-mul (f (of x).number) in
      let z = so_far f in (omega arith, omega arith)

-- a member lends a way to another
pub hands : {X : Type 0} (of : X → Shape) (xs : List X) (i : ℕ) (x one : X) (k : ℕ) (y two : X) (to : ℕ) →
    AreCrew [] (map of xs)
    → i < length xs → one ≡ get_or xs i one → of x ≡ record (of one) { out = (of one).out + 1 } → to ≡ (of one).number
    → k < length (set xs i x) → two ≡ get_or (set xs i x) k two →
    of y ≡ record (of two) { ways = (of two).ways ++ to ∷ [] }
    → AreCrew [] (map of (set (set xs i x) k y))
hands of xs i x one k y two to crew in' at lent is_to in'' at' got =
    let lent' : of x ≡ record (of (get_or xs i one)) { out = (of (get_or xs i one)).out + 1 } =
    lent ∙ ap (λ z. record (of z) { out = (of z).out + 1 }) at in
    let got' : of y ≡ record (of (get_or (set xs i x) k two)) {
      ways =
          (of (get_or (set xs i x) k two)).ways ++ to ∷ [];
    } =
    got ∙ ap (λ z. record (of z) { ways = (of z).ways ++ to ∷ [] }) at' in
    let to' : (of (get_or xs i one)).number ≡ to = ap (λ z. (of z).number) (sym at) ∙ sym is_to in
    let loose : AreCrew (to ∷ []) (map of (set xs i x)) =
    subst (λ (n : ℕ). AreCrew (n ∷ []) (map of (set xs i x))) to' (lends of [] xs i x one crew in' lent') in
    gets of [] to (set xs i x) k y two loose in'' got'

-- functions that agree
pub same_map : {X Y : Type 0} (f g : X → Y) → ((x : X) → f x ≡ g x) → (xs : List X) → map f xs ≡ map g xs
same_map f g same [] = refl
same_map f g same (x ∷ xs) = ap (λ y. y ∷ map f xs) (same x) ∙ ap (λ ys. g x ∷ ys) (same_map f g same xs)
