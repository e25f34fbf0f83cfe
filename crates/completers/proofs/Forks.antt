-- A fork, the opening of a node and the start keep the rule.
use Rattle.std.proofs.Common.{◌≡◌, ℕ, zero, suc, ◌+◌, ◌*◌, ◌%◌, ◌^◌, ◌<◌, ◌≤◌, ◌≢◌, ◌⊎◌, Bool, false, List, []}
use Rattle.std.proofs.Common.{◌∷◌}
use Rattle.std.proofs.Common.{◌++◌, map, length, get_or, set, replicate}
use Rattle.std.proofs.Common.{sym, refl, ap, ◌∙◌, subst, ⊎_elim, inl, inr, arith, length-set, length-append}
use Rattle.std.proofs.Common.{get_or-set_other, get_or-set_same}
use mathlib.Core.List.{map-append}
use mathlib.Core.Option.{some, some-injective, some-ne-none}
use lib.ListN.{get_elem?, length-map, length-replicate}
use Rattle.std.specs.Prelude.{Option, None}
use Rattle.atomic_table.specs.Table.{keeps, Allows, opening}
use Rattle.atomic_table.proofs.Lists.{at_set, at_snoc}
use Rattle.completers.proofs.Weights.{total_set, total_append, indexed_same, indexed_snoc, same, same_self}
use Rattle.completers.proofs.Cells.{within, reachable_more, moved, has_opened, has_unopened}
use Rattle.completers.proofs.Moves.{first_right, numbers, tickets, given_at, flags_same, is_held, Rule}
use Rattle.completers.specs.Game.{fork, after, IsReachable}
use Rattle.completers.specs.Limits.{most_nodes}
use Rattle.completers.specs.Rights.{nodes, code, path_of, IsTicketAbove}
use Rattle.completers.specs.Rule.{total, indexed, Stage, held, waits, fills, arrived, has_arrived, Piece, piece, Cell}
use Rattle.completers.specs.Rule.{fresh, going, missing, has_given}
use Rattle.completers.specs.Rule.{position_of, known_forks, right_of, given_out, kept_by, AreBelow, AreTiles, SlotOk}
use Rattle.completers.specs.Rule.{IsGoing, CellOk, Holds}
use Rattle.completers.specs.Steps.{Knowledge, Forks, Opens, opened_rights}
use Rattle.completers.specs.declared.relation.Partial.{Partial}
use Rattle.completers.specs.declared.rule.Above.{Above}
use Rattle.completers.specs.declared.rule.Right.{Right}
use Rattle.completers.specs.declared.rule.Right.TheVariants.{Unopened, Opened, Waits, Fills}

pub at_end : {A : Type 0} (l : List A) (a b : A) (j : ℕ) → get_elem? (l ++ a ∷ []) j ≡ some b
    → (get_elem? l j ≡ some b) ⊎ ((j ≡ length l) × (a ≡ b))
at_end [] a b zero e = inr (refl, some-injective a b e)
at_end [] a b (suc j) e = absurd (some-ne-none b (sym e))
at_end (x ∷ xs) a b zero e = inl e
at_end (x ∷ xs) a b (suc j) e = ⊎_elim inl (λ t. inr (ap suc t.0, t.1)) (at_end xs a b j e)

down_snoc : (lo hi top : ℕ) (fs : List Piece) → lo < hi → AreBelow hi top fs →
    AreBelow lo top (fs ++ piece lo hi waits ∷ [])
down_snoc lo hi top [] less d = (d, less, refl)
down_snoc lo hi top (f ∷ fs) less d = (d.0, d.1, down_snoc lo hi f.lo fs less d.2)

-- the tickets after a fork
abbrev split_at : ℕ → ℕ → ℕ → List Piece → List Piece
split_at lo mid hi ps = set ps 0 (piece lo mid held) ++ piece mid hi waits ∷ []

tiled_fork : (low top lo mid hi : ℕ) (ps : List Piece) → get_elem? ps 0 ≡ some (piece lo hi held) → lo < mid →
    mid < hi → AreTiles low top ps
    → AreTiles low top (split_at lo mid hi ps)
tiled_fork low top lo mid hi [] e a b d = absurd d
tiled_fork low top lo mid hi (p ∷ fs) e a b d = let is : p ≡ piece lo hi held = some-injective p (piece lo hi held) e in
    let l : lo ≡ low = sym (ap (λ (x : Piece). x.lo) is) ∙ d.0 in
    (l, subst (λ (x : ℕ). x < mid) l a, down_snoc mid hi top fs b (subst (λ (x : Piece). AreBelow x.hi top fs) is d.2))

given_fork : (lo mid hi : ℕ) (ps : List Piece) → get_elem? ps 0 ≡ some (piece lo hi held) →
    has_given (split_at lo mid hi ps) ≡ false
given_fork lo mid hi [] e = absurd (some-ne-none (piece lo hi held) (sym e))
given_fork lo mid hi (p ∷ fs) e = refl

position_fork : (lo mid hi : ℕ) (ps : List Piece) → get_elem? ps 0 ≡ some (piece lo hi held)
    → position_of (split_at lo mid hi ps) ≡ after (position_of ps) fork
position_fork lo mid hi ps e = let f : Piece → Bool = λ p. has_arrived p.stage in
    let x = given_fork lo mid hi ps e ∙ sym (given_at ps (piece lo hi held) e) in
    let y = map-append f (set ps 0 (piece lo mid held)) (piece mid hi waits ∷ [])
    ∙ ap (λ (l : List Bool). l ++ false ∷ []) (flags_same ps 0 (piece lo hi held) (piece lo mid held) e refl) in
    λ t. record { has_given = x t; arrived = y t }

-- no fork knows how many forks there are
known_child : (i n : ℕ) → 0 < i → known_forks i n ≡ 0
known_child zero n pos = absurd (omega arith)
known_child (suc i) n pos = refl

-- only the own ticket's right names the number of tickets
right_free : (h : Right → ℕ) (m : ℕ) (above : List Right) (n n' i lo hi : ℕ) (st : Stage) → 0 < i → (st ≡ held → ⊥)
    → right_of h m above n i lo hi st ≡ right_of h m above n' i lo hi st
right_free h m above n n' i lo hi held child out = absurd (out refl)
right_free h m above n n' i lo hi waits child out =
    ap (λ (z : ℕ). h (Waits m i lo hi z (path_of above))) (known_child i n child ∙ sym (known_child i n' child))
right_free h m above n n' i lo hi fills child out =
    ap (λ (z : ℕ). h (Fills m i lo hi z (code above) (path_of above)))
    (known_child i n child ∙ sym (known_child i n' child))
right_free h m above n n' i lo hi arrived child out = refl

out_fork : (h : Right → ℕ) (m low top : ℕ) (above : List Right) (lo mid hi : ℕ) (ps : List Piece) →
    get_elem? ps 0 ≡ some (piece lo hi held)
    → ((i : ℕ) (p : Piece) → get_elem? ps i ≡ some p → p.stage ≡ held → i ≡ 0)
    → given_out h m (going low top above (split_at lo mid hi ps)) + h (Opened m lo hi (length ps) (path_of above))
    ≡ given_out h m
    (going low top above ps) +
    (h (Opened m lo mid (length ps + 1) (path_of above)) + h (Waits m (length ps) mid hi 0 (path_of above)))
out_fork h m low top above lo mid hi [] e only = absurd (some-ne-none (piece lo hi held) (sym e))
out_fork h m low top above lo mid hi (p ∷ fs) e only =
    let is : p ≡ piece lo hi held = some-injective p (piece lo hi held) e in let k : ℕ = length fs in
    let new : Piece = piece mid hi waits in
    let f : ℕ → ℕ → Piece → ℕ = λ n j x. right_of h m above n j x.lo x.hi x.stage in
    let k' : ℕ = length (fs ++ new ∷ []) in let long : k' ≡ suc k = length-append fs (new ∷ [])
    ∙ (let g : k + 1 ≡ suc k = omega arith in g) in
    let same_rest : indexed (f (suc k')) 1 fs ≡ indexed (f (suc k)) 1 fs =
    indexed_same (f (suc k')) (f (suc k)) 1 fs
    (λ i q at. right_free h m above (suc k') (suc k) (1 + i) q.lo q.hi q.stage (let o : 0 < 1 + i = omega arith in o)
    (λ st. let z : suc i ≡ 0 = only (suc i) q at st in let y = z in absurd (omega arith))) in
    let snoc : indexed (f (suc k')) 1 (fs ++ new ∷ []) ≡ indexed (f (suc k')) 1 fs + h
    (Waits m (1 + k) mid hi (known_forks (1 + k) (suc k')) (path_of above)) = indexed_snoc (f (suc k')) 1 fs new in
    let first : right_of h m above (suc k) 0 p.lo p.hi p.stage ≡ h (Opened m lo hi (suc k) (path_of above)) =
    ap (λ (x : Piece). right_of h m above (suc k) 0 x.lo x.hi x.stage) is in
    let i1 : ℕ = indexed (f (suc k')) 1 (fs ++ new ∷ []) in let i2 : ℕ = indexed (f (suc k')) 1 fs in
    let i3 : ℕ = indexed (f (suc k)) 1 fs in let a : ℕ = h (Opened m lo mid (suc k') (path_of above)) in
    let a' : ℕ = h (Opened m lo mid (suc k + 1) (path_of above)) in
    let b : ℕ = h (Waits m (1 + k) mid hi (known_forks (1 + k) (suc k')) (path_of above)) in
    let b' : ℕ = h (Waits m (suc k) mid hi 0 (path_of above)) in
    let c : ℕ = h (Opened m lo hi (suc k) (path_of above)) in
    let d : ℕ = right_of h m above (suc k) 0 p.lo p.hi p.stage in
    let ea : a ≡ a' = ap (λ (z : ℕ). h (Opened m lo mid z (path_of above)))
    (let g : suc k' ≡ suc k + 1 = (let l : k' ≡ suc k = long in omega arith) in g) in
    let next : 1 + k ≡ suc k = omega arith in
    let eb : b ≡ b' =
    λ t. h (Waits m (next t) mid hi (known_child (1 + k) (suc k') (let o : 0 < 1 + k = omega arith in o) t)
    (path_of above)) in
    let e1 : i1 ≡ i2 + b = snoc in let e2 : i2 ≡ i3 = same_rest in let e3 : d ≡ c = first in
    let g : a + i1 + c ≡ d + i3 + (a' + b') = omega arith in g

more_one : (x : ℕ) → x < 9 → (x + 1) % 2 ^ 64 ≡ x + 1
more_one x small = let g : (x + 1) % 18446744073709551616 ≡ x + 1 = omega arith in g

one_missing : (lo hi : ℕ) (st : Stage) → missing record { lo = lo; hi = hi; stage = st } ≤ 1
one_missing lo hi held = omega arith
one_missing lo hi waits = omega arith
one_missing lo hi fills = omega arith
one_missing lo hi arrived = omega arith

few_missing : (ps : List Piece) → total missing ps ≤ length ps
few_missing [] = omega arith
few_missing (p ∷ ps) = let r : total missing ps ≤ length ps = few_missing ps in let a : ℕ = total missing ps in
    let b : ℕ = length ps in
    let r' : a ≤ b = r in let m : ℕ = missing p in let o : m ≤ 1 = one_missing p.lo p.hi p.stage in
    let g : m + a ≤ suc b = omega arith in g

module _ {P : Type 0} (fits : ℕ → ℕ → P → Type 0) (bins : ℕ) where
  forks_step : (mid slots id : ℕ) (car : List (ℕ × Option (Partial P))) (n lo hi k : ℕ) (up : List Above)
      (rs : List Right) → lo < mid
      → mid < hi → k < 8
      → let me : Knowledge P = (Opened n lo hi k up ∷ rs, car) in
      Allows (Rule fits bins) slots id me (2 * n) (λ x. (x + 1) % 2 ^ 64) (Forks mid me)
  forks_step mid slots id car n lo hi k up rs above_lo below_hi room s r wide at _ =
      let v : List Right = Opened n lo hi k up ∷ rs in
      let f = has_opened fits bins s r id v n lo hi k up at (first_right (Opened n lo hi k up) rs) in let t = f.1 in
      let ps = t.pieces in
      let g : IsGoing fits bins s.words s.homes n t.low t.top t.above ps =
      r.each_node n (going t.low t.top t.above ps) t.cell_is in
      let first : f.0 ≡ 0 = g.own_only f.0 (piece lo hi held) t.piece_is refl in
      let here : get_elem? ps 0 ≡ some (piece lo hi held) =
      subst (λ (z : ℕ). get_elem? ps z ≡ some (piece lo hi held)) first t.piece_is in
      let x : ℕ = get_or s.words (2 * n) 0 in let y : ℕ = (x + 1) % 2 ^ 64 in
      let words' : List ℕ = set s.words (2 * n) y in
      let len : ℕ = length ps in let count : k ≡ len = f.2 in
      let small : x < 9 = (let a : total missing ps ≤ len = few_missing ps in
      let b : x ≡ total missing ps = g.number_is in
      let c : ℕ = total missing ps in let a' : c ≤ len = a in let b' : x ≡ c = b in let d : len ≤ 8 = g.few in
      let q : x < 9 = omega arith in q) in
      let one_more : y ≡ x + 1 = more_one x small in
      let in_words : 2 * n < length s.words =
      (let w : n < length r.cells = within r.cells n (going t.low t.top t.above ps) t.cell_is in
      let l : ℕ = length r.cells in let w' : n < l = w in let m : ℕ = length s.words in
      let e : m ≡ 2 * l = r.words_wide in
      let q : 2 * n < m = omega arith in q) in
      let now : get_or words' (2 * n) 0 ≡ y = get_or-set_same s.words (2 * n) y 0 in_words in
      let qs : List Piece = split_at lo mid hi ps in let own' : Piece = piece lo mid held in
      let new : Piece = piece mid hi waits in
      let long : length qs ≡ len + 1 = length-append (set ps 0 own') (new ∷ []) ∙ ap (λ (z : ℕ). z + 1)
      (length-set ps 0 own') in
      let w : List Right = Waits n k mid hi 0 up ∷ Opened n lo mid (k + 1) up ∷ rs in
      let was : has_given ps ≡ false = given_at ps (piece lo hi held) here in (
        w,
        keeps,
        tt,
        moved fits bins s r n (going t.low t.top t.above ps) (going t.low t.top t.above qs) t.cell_is id v w
            at words' s.homes
            (length-set s.words (2 * n) y) refl
            (λ m apart. (
              get_or-set_other s.words (2 * n) (2 * m) y 0 (λ e. apart (omega arith)),
              get_or-set_other s.words (2 * n) (2 * m + 1) y 0 (λ e. omega arith),
              (λ j low. refl),
            ))
            (record {
              number_is =
                  (let a : total missing (set ps 0 own') + 1 ≡ total missing ps + 1 =
                  total_set missing ps 0 (piece lo hi held) own' here in
                  let b : total missing qs ≡ total missing (set ps 0 own') + (1 + 0) =
                  total_append missing (set ps 0 own') (new ∷ []) in
                  let u : ℕ = total missing ps in let u' : ℕ = total missing (set ps 0 own') in
                  let u'' : ℕ = total missing qs in
                  let a' : u' + 1 ≡ u + 1 = a in let b' : u'' ≡ u' + (1 + 0) = b in let c : x ≡ u = g.number_is in
                  let z : ℕ = get_or words' (2 * n) 0 in
                  let d : z ≡ y = now in let e : y ≡ x + 1 = one_more in let q : z ≡ u'' = omega arith in q);
              code_is = get_or-set_other s.words (2 * n) (2 * n + 1) y 0 (λ e. omega arith) ∙ g.code_is;
              above_is = g.above_is;
              tiled = tiled_fork t.low t.top lo mid hi ps here above_lo below_hi g.tiled;
              few = (let a : ℕ = length qs in let a' : a ≡ len + 1 = long in let c : k ≡ len = count in
                  let q : a ≤ 8 = omega arith in q);
              own_only =
                  λ j p e st. ⊎_elim
                  (λ (old : get_elem? (set ps 0 own') j ≡ some p). ⊎_elim (λ (z : (j ≡ 0) × (own' ≡ p)). z.0)
                  (λ (z : (j ≢ 0) × (get_elem? ps j ≡ some p)). g.own_only j p z.1 st) (at_set ps 0 j own' p old))
                  (λ (z : new ≡ p). absurd (subst is_held (sym (ap (λ (q : Piece). q.stage) z ∙ st)) tt))
                  (at_snoc (set ps 0 own') new p j e);
              each_slot = λ j p e. ⊎_elim (λ (old : get_elem? (set ps 0 own') j ≡ some p). ⊎_elim
                  (λ (z : (j ≡ 0) × (own' ≡ p)). subst
                  (λ (q : ℕ × Piece). SlotOk fits bins s.homes (8 * n + q.0) q.1.lo q.1.hi q.1.stage)
                  (λ i. (sym z.0 i, z.1 i)) (g.each_slot 0 (piece lo hi held) here))
                  (λ (z : (j ≢ 0) × (get_elem? ps j ≡ some p)). g.each_slot j p z.1) (at_set ps 0 j own' p old))
                  (λ (z : (j ≡ length (set ps 0 own')) × (new ≡ p)). let jl : j ≡ len = z.0 ∙ length-set ps 0 own' in
                  subst (λ (q : ℕ × Piece). SlotOk fits bins s.homes (8 * n + q.0) q.1.lo q.1.hi q.1.stage)
                  (λ i. (sym jl i, z.1 i))
                  (g.others len (let q : len ≤ len = omega arith in q) (let c : k ≡ len = count in
                  let q : len < 8 = omega arith in q)))
                  (at_end (set ps 0 own') new p j e);
              others = λ j far near. g.others j (let a : ℕ = length qs in let a' : a ≡ len + 1 = long in
                  let far' : a ≤ j = far in
                  let q : len ≤ j = omega arith in q) near;
              reachable = subst IsReachable (sym (position_fork lo mid hi ps here))
                  (reachable_more (position_of ps) fork g.reachable was);
            })
            (λ h. let a = out_fork h n t.low t.top t.above lo mid hi ps here g.own_only in
            let u' : ℕ = given_out h n (going t.low t.top t.above qs) in
            let u : ℕ = given_out h n (going t.low t.top t.above ps) in
            let o : ℕ = h (Opened n lo hi len (path_of t.above)) in let o' : ℕ = h (Opened n lo hi k up) in
            let p : ℕ = h (Opened n lo mid (len + 1) (path_of t.above)) in
            let p' : ℕ = h (Opened n lo mid (k + 1) up) in
            let q : ℕ = h (Waits n len mid hi 0 (path_of t.above)) in let q' : ℕ = h (Waits n k mid hi 0 up) in
            let eo : o' ≡ o = λ z. h (Opened n lo hi (count z) (f.3 z)) in
            let ep : p' ≡ p = λ z. h (Opened n lo mid (count z + 1) (f.3 z)) in
            let eq : q' ≡ q = λ z. h (Waits n (count z) mid hi 0 (f.3 z)) in
            let a' : u' + o ≡ u + (p + q) = a in let b : ℕ = total h t.above in let c : ℕ = total h rs in
            let z : q' + (p' + c) + b + u ≤ o' + c + b + u' = omega arith in z),
        (refl, (position_of ps, g.reachable, was, (numbers ps ∙ sym g.number_is, tickets ps k count))),
      )

  pub forks_node : (mid slots id : ℕ) (me : Knowledge P) (n lo hi k : ℕ) (up : List Above) (rs : List Right)
      (car : List (ℕ × Option (Partial P))) → me ≡ (Opened n lo hi k up ∷ rs, car) → lo < mid → mid < hi → k < 8
      → Allows (Rule fits bins) slots id me (2 * n) (λ x. (x + 1) % 2 ^ 64) (Forks mid me)
  forks_node mid slots id me n lo hi k up rs car is a b c =
      subst (λ (m : Knowledge P). Allows (Rule fits bins) slots id m (2 * n) (λ x. (x + 1) % 2 ^ 64) (Forks mid m))
      (sym is)
      (forks_step mid slots id car n lo hi k up rs a b c)

  -- a node is opened, and takes over what is above it
  opens_step : (any lo hi slots id : ℕ) (car : List (ℕ × Option (Partial P))) (was : List Right) (m : ℕ)
      (rs above : List Right) → lo < hi
      → IsTicketAbove bins lo hi above
      → 0 < total (same (Unopened m)) was → opened_rights any was ≡ Opened m lo hi 1 (path_of above) ∷ rs
      → ((h : Right → ℕ) → total h rs + total h above + h (Unopened m) ≤ total h was)
      → let me : Knowledge P = (was, car) in
      Allows (Rule fits bins) slots id me (2 * m + 1) (λ _. code above) (λ _. Opens any me)
  opens_step any lo hi slots id car was m rs above less is pos gets balance s r wide at _ =
      let v : List Right = was in let cell = has_unopened fits bins s r id v m at pos in
      let ok : CellOk fits bins s.words s.homes m fresh = r.each_node m fresh cell in
      let w : List Right = Opened m lo hi 1 (path_of above) ∷ rs in
      let c : ℕ = code above in let words' : List ℕ = set s.words (2 * m + 1) c in
      let in_words : 2 * m + 1 < length s.words =
      (let q : m < length r.cells = within r.cells m fresh cell in let l : ℕ = length r.cells in let q' : m < l = q in
      let u : ℕ = length s.words in let e : u ≡ 2 * l = r.words_wide in let z : 2 * m + 1 < u = omega arith in z) in (
        w,
        keeps,
        tt,
        moved fits bins s r m fresh (going lo hi above (piece lo hi held ∷ [])) cell id v w at words' s.homes
            (length-set s.words (2 * m + 1) c) refl
            (λ n apart. (
              get_or-set_other s.words (2 * m + 1) (2 * n) c 0 (λ e. omega arith),
              get_or-set_other s.words (2 * m + 1) (2 * n + 1) c 0 (λ e. apart (omega arith)),
              (λ j low. refl),
            ))
            (record {
              number_is = get_or-set_other s.words (2 * m + 1) (2 * m) c 0 (λ e. omega arith) ∙ ok.0;
              code_is = get_or-set_same s.words (2 * m + 1) c 0 in_words;
              above_is = is;
              tiled = (refl, less, refl);
              few = omega arith;
              own_only = λ j p e st. (let q = within (piece lo hi held ∷ []) j p e in omega arith);
              each_slot =
                  λ j p e. ⊎_elim (λ (none_left : get_elem? [] j ≡ some p). absurd (some-ne-none p (sym none_left)))
                  (λ (z : (j ≡ 0) × (piece lo hi held ≡ p)). subst
                  (λ (q : ℕ × Piece). SlotOk fits bins s.homes (8 * m + q.0) q.1.lo q.1.hi q.1.stage)
                  (λ i. (sym z.0 i, z.1 i))
                  (ok.1 0 (omega arith))) (at_end [] (piece lo hi held) p j e);
              others = λ j far near. ok.1 j near;
              reachable = ([], tt, refl);
            })
            (λ h. let a : ℕ = h (Opened m lo hi 1 (path_of above)) in let b : ℕ = total h rs in
            let d : ℕ = total h above in
            let e : ℕ = h (Unopened m) in let f : ℕ = total h was in let bal : b + d + e ≤ f = balance h in
            let q : a + b + d + e ≤ f + 0 + (a + 0) = omega arith in q),
        (λ t. (sym gets t, car)),
      )

  pub opens_root : (slots id : ℕ) (me : Knowledge P) (m : ℕ) (rs : List Right) (car : List (ℕ × Option (Partial P)))
      → me ≡ (Unopened m ∷ rs, car) → 0 < bins
      → Allows (Rule fits bins) slots id me (2 * m + 1) (λ _. 0) (λ _. Opens bins me)
  opens_root slots id me m rs car is less =
      subst (λ (u : Knowledge P). Allows (Rule fits bins) slots id u (2 * m + 1) (λ _. 0) (λ _. Opens bins u)) (sym is)
      (opens_step bins 0 bins slots id car (Unopened m ∷ rs) m rs [] less (inl (refl, refl, refl))
      (first_right (Unopened m) rs) refl
      (λ h. let a : ℕ = h (Unopened m) in let b : ℕ = total h rs in let q : b + 0 + a ≤ a + b = omega arith in q))

  pub opens_below : (any slots id : ℕ) (me : Knowledge P) (n i lo hi fk : ℕ) (up : List Above) (m : ℕ) (rs : List Right)
      (car : List (ℕ × Option (Partial P))) → me ≡ (Waits n i lo hi fk up ∷ Unopened m ∷ rs, car) → i < 8 → lo < hi
      → Allows (Rule fits bins) slots id me (2 * m + 1) (λ _. 8 * n + i + 1) (λ _. Opens any me)
  opens_below any slots id me n i lo hi fk up m rs car is small less =
      subst (λ (u : Knowledge P). Allows (Rule fits bins) slots id u (2 * m + 1) (λ _. 8 * n + i + 1)
      (λ _. Opens any u)) (sym is)
      (opens_step any lo hi slots id car (Waits n i lo hi fk up ∷ Unopened m ∷ rs) m rs
      (Waits n i lo hi fk up ∷ []) less
      (inr (n, i, fk, up, small, refl))
      (let x : ℕ = same (Unopened m) (Unopened m) in let e : x ≡ 1 = same_self (Unopened m) in
      let y : ℕ = total (same (Unopened m)) rs in
      let q : 0 < 0 + (x + y) = omega arith in q) refl
      (λ h. let a : ℕ = h (Unopened m) in let b : ℕ = total h rs in let c : ℕ = h (Waits n i lo hi fk up) in
      let q : b + (c + 0) + a ≤ c + (a + b) = omega arith in q))

  all_fresh : (h : Right → ℕ) (m n : ℕ) → total h (nodes m n) ≡ indexed (given_out h) m (replicate n fresh)
  all_fresh h m zero = refl
  all_fresh h m (suc n) = ap (λ (k : ℕ). h (Unopened m) + k) (all_fresh h (m + 1) n)

  none_kept : (h : Right → ℕ) (n : ℕ) → total (kept_by h) (replicate n fresh) ≡ 0
  none_kept h zero = refl
  none_kept h (suc n) = let e : total (kept_by h) (replicate n fresh) ≡ 0 = none_kept h n in
      let k : ℕ = total (kept_by h) (replicate n fresh) in let e' : k ≡ 0 = e in let q : 0 + k ≡ 0 = omega arith in q

  is_fresh : (n m : ℕ) (c : Cell) → get_elem? (replicate n fresh) m ≡ some c → (m < n) × (fresh ≡ c)
  is_fresh zero m c e = absurd (some-ne-none c (sym e))
  is_fresh (suc n) zero c e = (omega arith, some-injective fresh c e)
  is_fresh (suc n) (suc m) c e = let r = is_fresh n m c e in
      (let l = r.0 in let q : suc m < suc n = omega arith in q, r.1)

  blank : (n i : ℕ) → i < n → get_elem? (map some (replicate {A = Option (Partial P)} n None)) i ≡ some (some None)
  blank zero i near = absurd (omega arith)
  blank (suc n) zero near = refl
  blank (suc n) (suc i) near = blank n i (omega arith)

  ones : (n i : ℕ) → i < n → get_or (replicate {A = ℕ} n 1) i 0 ≡ 1
  ones zero i near = absurd (omega arith)
  ones (suc n) zero near = refl
  ones (suc n) (suc i) near = ones n i (omega arith)

  pub starts : (n k l : ℕ) (words : List ℕ) → words ≡ replicate k 1 → k ≡ 2 * n → l ≡ 8 * n → n ≤ most_nodes
      → Holds fits bins (opening words (replicate l None) (nodes 0 n))
  starts n k l words is two eight most =
      subst (λ (ws : List ℕ). Holds fits bins (opening ws (replicate l None) (nodes 0 n)))
      (sym is) record {
        cells = replicate n fresh;
        words_wide = length-replicate k 1 ∙ (two ∙ ap (λ (z : ℕ). 2 * z) (sym (length-replicate n fresh)));
        homes_wide = length-map (replicate l None) some
            ∙ (length-replicate l None ∙ (eight ∙ ap (λ (z : ℕ). 8 * z) (sym (length-replicate n fresh))));
        few_nodes = subst (λ (z : ℕ). z ≤ most_nodes) (sym (length-replicate n fresh)) most;
        each_node = λ m c e. let f = is_fresh n m c e in
            subst (λ (x : Cell). CellOk fits bins (replicate k 1) (map some (replicate l None)) m x) f.1 (
              ones k (2 * m) (let a = f.0 in let q : 2 * m < k = omega arith in q),
              (λ i low. blank l (8 * m + i) (let a = f.0 in let q : 8 * m + i < l = omega arith in q)),
            );
        each_right = λ h. let a : ℕ = total h (nodes 0 n) in let b : ℕ = indexed (given_out h) 0 (replicate n fresh) in
            let c : ℕ = total (kept_by h) (replicate n fresh) in let e : a ≡ b = all_fresh h 0 n in
            let z : c ≡ 0 = none_kept h n in
            let q : a + 0 + c ≤ b = omega arith in q;
      }
