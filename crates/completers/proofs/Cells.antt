-- One node changes, and the rule is kept.
use Rattle.std.proofs.Common.{◌≡◌, ℕ, zero, suc, ◌+◌, ◌*◌, ◌<◌, ◌≤◌, ◌≢◌, List, [], ◌∷◌, ◌++◌, length, get_or, set}
use Rattle.std.proofs.Common.{sym}
use Rattle.std.proofs.Common.{refl, ap, ◌∙◌, subst, ⊎_elim, arith}
use Rattle.std.proofs.Common.{length-set}
use mathlib.Core.Option.{some, some-ne-none}
use mathlib.Core.Option as maybe
use lib.ListN.{get_elem?}
use Rattle.std.specs.Prelude.{Option}
use Rattle.atomic_table.specs.Table.{State}
use Rattle.atomic_table.proofs.Lists.{at_set}
use Rattle.completers.proofs.Weights.{total_set, total_append, total_at, indexed_set, some_indexed, same, hit_yes}
use Rattle.completers.proofs.Weights.{hits_yes}
use Rattle.completers.specs.Game.{Event, Position, start, IsNext, after, IsGame, position_after, IsReachable}
use Rattle.completers.specs.Limits.{most_nodes}
use Rattle.completers.specs.Rights.{code, path_of}
use Rattle.completers.specs.Rule.{total, indexed, Stage, held, waits, fills, arrived, Piece, piece, Cell, fresh, going}
use Rattle.completers.specs.Rule.{over, right_of, known_forks, given_out}
use Rattle.completers.specs.Rule.{kept_by, SlotOk, CellOk, Holds}
use Rattle.completers.specs.declared.relation.Partial.{Partial}
use Rattle.completers.specs.declared.rule.Above.{Above}
use Rattle.completers.specs.declared.rule.Right.{Right}
use Rattle.completers.specs.declared.rule.Right.TheVariants.{Unopened, Opened, Waits, Fills}

pub within : {A : Type 0} (l : List A) (i : ℕ) (a : A) → get_elem? l i ≡ some a → i < length l
within [] i a e = absurd (some-ne-none a (sym e))
within (x ∷ xs) zero a e = omega arith
within (x ∷ xs) (suc i) a e = let r = within xs i a e in omega arith

-- one more event
pub game_more : (p : Position) (es : List Event) (e : Event) → IsGame p es → IsNext (position_after p es) e →
    IsGame p (es ++ e ∷ [])
    × (position_after p (es ++ e ∷ []) ≡ after (position_after p es) e)
game_more p [] e g a = ((a, tt), refl)
game_more p (x ∷ xs) e g a = let r = game_more (after p x) xs e g.1 a in ((g.0, r.0), r.1)

pub reachable_more : (p : Position) (e : Event) → IsReachable p → IsNext p e → IsReachable (after p e)
reachable_more p e b a = let r = game_more start b.0 e b.1 (subst (λ (q : Position). IsNext q e) (sym b.2) a) in
    (b.0 ++ e ∷ [], r.0, r.1 ∙ ap (λ (q : Position). after q e) b.2)

-- which ticket a right is for
pub is_waiting : (n i lo hi fk : ℕ) (up : List Above) (m : ℕ) (above : List Right) (k j a b : ℕ) (st : Stage)
    → 0 < right_of (same (Waits n i lo hi fk up)) m above k j a b st → (st ≡ waits) × (n ≡ m) × (i ≡ j)
    × (lo ≡ a) × (hi ≡ b)
    × (fk ≡ known_forks j k) × (up ≡ path_of above)
is_waiting n i lo hi fk up m above k j a b held pos = absurd (omega arith)
is_waiting n i lo hi fk up m above k j a b waits pos = let p = hit_yes n m _ pos in let q = hit_yes i j _ p.1 in
    let r = hit_yes lo a _ q.1 in let s = hit_yes hi b _ r.1 in let t = hit_yes fk (known_forks j k) _ s.1 in
    let u = hits_yes up (path_of above) 1 t.1 in (refl, p.0, q.0, r.0, s.0, t.0, u.0)
is_waiting n i lo hi fk up m above k j a b fills pos = absurd (omega arith)
is_waiting n i lo hi fk up m above k j a b arrived pos = absurd (omega arith)

pub is_filling : (n i lo hi fk c : ℕ) (up : List Above) (m : ℕ) (above : List Right) (k j a b : ℕ) (st : Stage)
    → 0 < right_of (same (Fills n i lo hi fk c up)) m above k j a b st → (st ≡ fills) × (n ≡ m) × (i ≡ j)
    × (lo ≡ a) × (hi ≡ b)
    × (fk ≡ known_forks j k) × (c ≡ code above) × (up ≡ path_of above)
is_filling n i lo hi fk c up m above k j a b held pos = absurd (omega arith)
is_filling n i lo hi fk c up m above k j a b waits pos = absurd (omega arith)
is_filling n i lo hi fk c up m above k j a b fills pos = let p = hit_yes n m _ pos in let q = hit_yes i j _ p.1 in
    let r = hit_yes lo a _ q.1 in let s = hit_yes hi b _ r.1 in let t = hit_yes fk (known_forks j k) _ s.1 in
    let u = hit_yes c (code above) _ t.1 in let w = hits_yes up (path_of above) 1 u.1 in
    (refl, p.0, q.0, r.0, s.0, t.0, u.0, w.0)
is_filling n i lo hi fk c up m above k j a b arrived pos = absurd (omega arith)

pub is_opened : (n lo hi f : ℕ) (up : List Above) (m : ℕ) (above : List Right) (k j a b : ℕ) (st : Stage)
    → 0 < right_of (same (Opened n lo hi f up)) m above k j a b st → (st ≡ held) × (n ≡ m) × (lo ≡ a)
    × (hi ≡ b) × (f ≡ k)
    × (up ≡ path_of above)
is_opened n lo hi f up m above k j a b held pos = let p = hit_yes n m _ pos in let q = hit_yes lo a _ p.1 in
    let r = hit_yes hi b _ q.1 in
    let s = hit_yes f k _ r.1 in let u = hits_yes up (path_of above) 1 s.1 in (refl, p.0, q.0, r.0, s.0, u.0)
is_opened n lo hi f up m above k j a b waits pos = absurd (omega arith)
is_opened n lo hi f up m above k j a b fills pos = absurd (omega arith)
is_opened n lo hi f up m above k j a b arrived pos = absurd (omega arith)

no_free : (n m : ℕ) (above : List Right) (k j a b : ℕ) (st : Stage) →
    0 < right_of (same (Unopened n)) m above k j a b st → ⊥
no_free n m above k j a b held pos = absurd (omega arith)
no_free n m above k j a b waits pos = absurd (omega arith)
no_free n m above k j a b fills pos = absurd (omega arith)
no_free n m above k j a b arrived pos = absurd (omega arith)

none_of : 0 < 0 → ⊥
none_of pos = absurd (omega arith)

-- the cell of the node n, with the ticket i
pub record Ticketed (cells : List Cell) (n i lo hi : ℕ) (st : Stage) : Type 0 where
  pub low : ℕ
  pub top : ℕ
  pub above : List Right
  pub pieces : List Piece
  pub cell_is : get_elem? cells n ≡ some (going low top above pieces)
  pub piece_is : get_elem? pieces i ≡ some (piece lo hi st)

abbrev ticketed : (cells : List Cell) (n i lo hi : ℕ) (st : Stage) (low top : ℕ) (above : List Right)
    (ps : List Piece) (m j : ℕ)
    (p : Piece) → get_elem? cells m ≡ some (going low top above ps) → get_elem? ps j ≡ some p
    → p.stage ≡ st → n ≡ m → i ≡ j → lo ≡ p.lo → hi ≡ p.hi → Ticketed cells n i lo hi st
ticketed cells n i lo hi st low top above ps m j p at at' a b c d e = record {
  low = low;
  top = top;
  above = above;
  pieces = ps;
  cell_is = subst (λ (x : ℕ). get_elem? cells x ≡ some (going low top above ps)) (sym b) at;
  piece_is = subst (λ (x : ℕ). get_elem? ps x ≡ some (piece lo hi st)) (sym c)
      (at' ∙ (λ t. some (piece (sym d t) (sym e t) (a t))));
}

plus_zero : (f : ℕ → ℕ) (i : ℕ) → 0 < f (0 + i) → 0 < f i
plus_zero f i pos = let z : 0 + i ≡ i = omega arith in subst (λ (j : ℕ). 0 < f j) z pos

found_waiting : (cells : List Cell) (n i lo hi fk : ℕ) (up : List Above) (m : ℕ) (c : Cell) → get_elem? cells m ≡ some c
    → 0 < given_out (same (Waits n i lo hi fk up)) m c → (t : Ticketed cells n i lo hi waits)
    × (fk ≡ known_forks i (length t.pieces))
    × (up ≡ path_of t.above)
found_waiting cells n i lo hi fk up m fresh at pos = absurd (omega arith)
found_waiting cells n i lo hi fk up m (going low top above ps) at pos = let f : ℕ → Piece
    → ℕ = λ j p. right_of (same (Waits n i lo hi fk up)) m above (length ps) j p.lo p.hi p.stage in
    let r = some_indexed f 0 ps pos in
    let q = is_waiting n i lo hi fk up m above (length ps) r.0 r.1.lo r.1.hi r.1.stage
    (plus_zero (λ j. f j r.1) r.0 r.3) in (
      ticketed cells n i lo hi waits low top above ps m r.0 r.1 at r.2 q.0 q.1 q.2 q.3 q.4,
      subst (λ (x : ℕ). fk ≡ known_forks x (length ps)) (sym q.2) q.5,
      q.6,
    )
found_waiting cells n i lo hi fk up m (over ps) at pos = let r = some_indexed (λ (j : ℕ) (p : Piece). 0) 0 ps pos in
    absurd (none_of r.3)

found_filling : (cells : List Cell) (n i lo hi fk c : ℕ) (up : List Above) (m : ℕ) (x : Cell) →
    get_elem? cells m ≡ some x
    → 0 < given_out (same (Fills n i lo hi fk c up)) m x → (t : Ticketed cells n i lo hi fills)
    × (fk ≡ known_forks i (length t.pieces))
    × (c ≡ code t.above) × (up ≡ path_of t.above)
found_filling cells n i lo hi fk c up m fresh at pos = absurd (omega arith)
found_filling cells n i lo hi fk c up m (going low top above ps) at pos = let f : ℕ → Piece
    → ℕ = λ j p. right_of (same (Fills n i lo hi fk c up)) m above (length ps) j p.lo p.hi p.stage in
    let r = some_indexed f 0 ps pos in
    let q = is_filling n i lo hi fk c up m above (length ps) r.0 r.1.lo r.1.hi r.1.stage
    (plus_zero (λ j. f j r.1) r.0 r.3) in (
      ticketed cells n i lo hi fills low top above ps m r.0 r.1 at r.2 q.0 q.1 q.2 q.3 q.4,
      subst (λ (x : ℕ). fk ≡ known_forks x (length ps)) (sym q.2) q.5,
      q.6,
      q.7,
    )
found_filling cells n i lo hi fk c up m (over ps) at pos = let r = some_indexed (λ (j : ℕ) (p : Piece). 0) 0 ps pos in
    absurd (none_of r.3)

found_opened : (cells : List Cell) (n lo hi k : ℕ) (up : List Above) (m : ℕ) (x : Cell) → get_elem? cells m ≡ some x
    → 0 < given_out (same (Opened n lo hi k up)) m x → (j : ℕ) × (t : Ticketed cells n j lo hi held)
    × (k ≡ length t.pieces)
    × (up ≡ path_of t.above)
found_opened cells n lo hi k up m fresh at pos = absurd (omega arith)
found_opened cells n lo hi k up m (going low top above ps) at pos = let f : ℕ → Piece
    → ℕ = λ j p. right_of (same (Opened n lo hi k up)) m above (length ps) j p.lo p.hi p.stage in
    let r = some_indexed f 0 ps pos in
    let q = is_opened n lo hi k up m above (length ps) r.0 r.1.lo r.1.hi r.1.stage (plus_zero (λ j. f j r.1) r.0 r.3) in
    (r.0, ticketed cells n r.0 lo hi held low top above ps m r.0 r.1 at r.2 q.0 q.1 refl q.2 q.3, q.4, q.5)
found_opened cells n lo hi k up m (over ps) at pos = let r = some_indexed (λ (j : ℕ) (p : Piece). 0) 0 ps pos in
    absurd (none_of r.3)

found_unopened : (cells : List Cell) (n m : ℕ) (x : Cell) → get_elem? cells m ≡ some x →
    0 < given_out (same (Unopened n)) m x
    → get_elem? cells n ≡ some fresh
found_unopened cells n m fresh at pos = subst (λ (z : ℕ). get_elem? cells z ≡ some fresh) (sym (hit_yes n m 1 pos).0) at
found_unopened cells n m (going low top above ps) at pos = let f : ℕ → Piece
    → ℕ = λ j p. right_of (same (Unopened n)) m above (length ps) j p.lo p.hi p.stage in
    let r = some_indexed f 0 ps pos in
    absurd (no_free n m above (length ps) r.0 r.1.lo r.1.hi r.1.stage (plus_zero (λ j. f j r.1) r.0 r.3))
found_unopened cells n m (over ps) at pos = let r = some_indexed (λ (j : ℕ) (p : Piece). 0) 0 ps pos in
    absurd (none_of r.3)

module _ {P : Type 0} (fits : ℕ → ℕ → P → Type 0) (bins : ℕ) where
  abbrev pub Homes : Type 0
  Homes = List (maybe.Option (Option (Partial P)))

  abbrev pub St : Type 0
  St = State (Option (Partial P)) (List Right)

  -- a right of a seat was given out by some node
  pub backed : (s : St) (r : Holds fits bins s) (id : ℕ) (v : List Right) (x : Right) → get_elem? s.views id ≡ some v →
      0 < total (same x) v
      → (m : ℕ) × (c : Cell) × (get_elem? r.cells m ≡ some c) × (0 < given_out (same x) m c)
  backed s r id v x at pos = let h = same x in let a : ℕ = total h v in
      let t : ℕ = total (λ (u : List Right). total h u) s.views in
      let k : ℕ = total (kept_by h) r.cells in let g : ℕ = indexed (given_out h) 0 r.cells in
      let one : a ≤ t = total_at (λ (u : List Right). total h u) s.views id v at in
      let all : t + k ≤ g = r.each_right h in
      let some_pos : 0 < a = pos in let f = some_indexed (given_out h) 0 r.cells (let q : 0 < g = omega arith in q) in
      (f.0, f.1, f.2, plus_zero (λ j. given_out h j f.1) f.0 f.3)

  -- and so was a right that a node keeps
  pub kept_backed : (s : St) (r : Holds fits bins s) (n : ℕ) (c : Cell) (x : Right) → get_elem? r.cells n ≡ some c →
      0 < kept_by (same x) c
      → (m : ℕ) × (d : Cell) × (get_elem? r.cells m ≡ some d) × (0 < given_out (same x) m d)
  kept_backed s r n c x at pos = let h = same x in let a : ℕ = kept_by h c in
      let t : ℕ = total (λ (u : List Right). total h u) s.views in
      let k : ℕ = total (kept_by h) r.cells in let g : ℕ = indexed (given_out h) 0 r.cells in
      let one : a ≤ k = total_at (kept_by h) r.cells n c at in let all : t + k ≤ g = r.each_right h in
      let some_pos : 0 < a = pos in
      let f = some_indexed (given_out h) 0 r.cells (let q : 0 < g = omega arith in q) in
      (f.0, f.1, f.2, plus_zero (λ j. given_out h j f.1) f.0 f.3)

  pub keeps_waiting : (s : St) (r : Holds fits bins s) (n : ℕ) (c : Cell) (m i lo hi fk : ℕ) (up : List Above)
      → get_elem? r.cells n ≡ some c → 0 < kept_by (same (Waits m i lo hi fk up)) c → Ticketed r.cells m i lo hi waits
  keeps_waiting s r n c m i lo hi fk up at pos = let b = kept_backed s r n c (Waits m i lo hi fk up) at pos in
      (found_waiting r.cells m i lo hi fk up b.0 b.1 b.2 b.3).0

  pub slot_frame : (homes homes' : Homes) (k lo hi : ℕ) (st : Stage) → get_elem? homes' k ≡ get_elem? homes k
      → SlotOk fits bins homes k lo hi st → SlotOk fits bins homes' k lo hi st
  slot_frame homes homes' k lo hi held e x = e ∙ x
  slot_frame homes homes' k lo hi waits e x = e ∙ x
  slot_frame homes homes' k lo hi fills e x = x
  slot_frame homes homes' k lo hi arrived e x = (x.0, e ∙ x.1, x.2)

  abbrev pub Alike : List ℕ → List ℕ → Homes → Homes → ℕ → Type 0
  Alike words words' homes homes' n = (get_or words' (2 * n) 0 ≡ get_or words (2 * n) 0)
      × (get_or words' (2 * n + 1) 0 ≡ get_or words (2 * n + 1) 0)
      × ((i : ℕ) → i < 8 → get_elem? homes' (8 * n + i) ≡ get_elem? homes (8 * n + i))

  frame : (words words' : List ℕ) (homes homes' : Homes) (n : ℕ) → Alike words words' homes homes' n → (c : Cell)
      → CellOk fits bins words homes n c → CellOk fits bins words' homes' n c
  frame words words' homes homes' n e fresh x = (e.0 ∙ x.0, (λ i small. e.2 i small ∙ x.1 i small))
  frame words words' homes homes' n e (going lo top above ps) x = record {
    number_is = e.0 ∙ x.number_is;
    code_is = e.1 ∙ x.code_is;
    above_is = x.above_is;
    tiled = x.tiled;
    few = x.few;
    own_only = x.own_only;
    each_slot = λ i p at. slot_frame homes homes' (8 * n + i) p.lo p.hi p.stage
        (e.2 i (let w = within ps i p at in let f = x.few in omega arith)) (x.each_slot i p at);
    others = λ i far small. e.2 i small ∙ x.others i far small;
    reachable = x.reachable;
  }
  frame words words' homes homes' n e (over ps) x = tt

  pub moved : (s : St) (r : Holds fits bins s) (m : ℕ) (c c' : Cell) → get_elem? r.cells m ≡ some c →
      (id : ℕ) (v w : List Right)
      → get_elem? s.views id ≡ some v
      → (words' : List ℕ) (homes' : Homes) → length words' ≡ length s.words → length homes' ≡ length s.homes
      → ((n : ℕ) → n ≢ m → Alike s.words words' s.homes homes' n)
      → CellOk fits bins words' homes' m c'
      → ((h : Right → ℕ) → total h w + kept_by h c' + given_out h m c ≤ total h v + kept_by h c + given_out h m c')
      → Holds fits bins record { words = words'; homes = homes'; views = set s.views id w }
  moved s r m c c' cell_is id v w at words' homes' words_long homes_long others ok balance =
      let wide : length (set r.cells m c') ≡ length r.cells = length-set r.cells m c' in record {
        cells = set r.cells m c';
        words_wide = words_long ∙ (r.words_wide ∙ ap (λ (k : ℕ). 2 * k) (sym wide));
        homes_wide = homes_long ∙ (r.homes_wide ∙ ap (λ (k : ℕ). 8 * k) (sym wide));
        few_nodes = subst (λ (k : ℕ). k ≤ most_nodes) (sym wide) r.few_nodes;
        each_node =
            λ n d e. ⊎_elim
            (λ (x : (n ≡ m) × (c' ≡ d)). subst (λ (y : ℕ × Cell). CellOk fits bins words' homes' y.0 y.1)
            (λ t. (sym x.0 t, x.1 t)) ok)
            (λ (x : (n ≢ m) × (get_elem? r.cells n ≡ some d)). frame s.words words' s.homes homes' n (others n x.0) d
            (r.each_node n d x.1))
            (at_set r.cells m n c' d e);
        each_right = λ h.
            let tv : ℕ = total h v in let tw : ℕ = total h w in
            let t : ℕ = total (λ (u : List Right). total h u) s.views in
            let t' : ℕ = total (λ (u : List Right). total h u) (set s.views id w) in
            let kc : ℕ = kept_by h c in let kc' : ℕ = kept_by h c' in let k : ℕ = total (kept_by h) r.cells in
            let k' : ℕ = total (kept_by h) (set r.cells m c') in
            let gc : ℕ = given_out h m c in let gc' : ℕ = given_out h m c' in
            let g : ℕ = indexed (given_out h) 0 r.cells in
            let g' : ℕ = indexed (given_out h) 0 (set r.cells m c') in
            let et : t' + tv ≡ t + tw = total_set (λ (u : List Right). total h u) s.views id v w at in
            let ek : k' + kc ≡ k + kc' = total_set (kept_by h) r.cells m c c' cell_is in
            let z : 0 + m ≡ m = omega arith in let eg : g' + gc ≡ g + gc' =
            subst (λ (j : ℕ). indexed (given_out h) 0 (set r.cells m c') + given_out h j c ≡ indexed
            (given_out h) 0 r.cells + given_out h j c') z (indexed_set (given_out h) 0 r.cells m c c' cell_is) in
            let all : t + k ≤ g = r.each_right h in let b : tw + kc' + gc ≤ tv + kc + gc' = balance h in
            let q : t' + k' ≤ g' = omega arith in
            q;
      }

  -- a seat is split in two
  pub splits : (id : ℕ) (v left right : List Right) → ((h : Right → ℕ) → total h left + total h right ≤ total h v)
      → (s : St) → Holds fits bins s → get_elem? s.views id ≡ some v
      → Holds fits bins record { words = s.words; homes = s.homes; views = set s.views id left ++ right ∷ [] }
  splits id v left right balance s r at = record {
    cells = r.cells;
    words_wide = r.words_wide;
    homes_wide = r.homes_wide;
    few_nodes = r.few_nodes;
    each_node = r.each_node;
    each_right = λ h.
        let f : List Right → ℕ = λ u. total h u in let tv : ℕ = f v in let tl : ℕ = f left in let tr : ℕ = f right in
        let t : ℕ = total f s.views in let t' : ℕ = total f (set s.views id left) in
        let t'' : ℕ = total f (set s.views id left ++ right ∷ []) in
        let k : ℕ = total (kept_by h) r.cells in let g : ℕ = indexed (given_out h) 0 r.cells in
        let a : t' + tv ≡ t + tl = total_set f s.views id v left at in
        let b : t'' ≡ t' + (tr + 0) = total_append f (set s.views id left) (right ∷ []) in
        let c : tl + tr ≤ tv = balance h in
        let all : t + k ≤ g = r.each_right h in
        let q : t'' + k ≤ g = omega arith in q;
  }

  -- a seat takes in what another knows
  pub joins : (id : ℕ) (v : List Right) (other : ℕ) (w both spent : List Right) → spent ≡ []
      → ((h : Right → ℕ) → total h both ≤ total h v + total h w)
      → (s : St) → Holds fits bins s → get_elem? s.views id ≡ some v → ¬ (other ≡ id) →
      get_elem? (set s.views id both) other ≡ some w
      → Holds fits bins record { words = s.words; homes = s.homes; views = set (set s.views id both) other spent }
  joins id v other w both spent none balance s r at apart at' = record {
    cells = r.cells;
    words_wide = r.words_wide;
    homes_wide = r.homes_wide;
    few_nodes = r.few_nodes;
    each_node = r.each_node;
    each_right = λ h.
        let f : List Right → ℕ = λ u. total h u in let tv : ℕ = f v in let tw : ℕ = f w in let tb : ℕ = f both in
        let ts : ℕ = f spent in
        let t : ℕ = total f s.views in let t' : ℕ = total f (set s.views id both) in
        let t'' : ℕ = total f (set (set s.views id both) other spent) in
        let k : ℕ = total (kept_by h) r.cells in let g : ℕ = indexed (given_out h) 0 r.cells in
        let z : ts ≡ 0 = ap (total h) none in
        let a : t' + tv ≡ t + tb = total_set f s.views id v both at in
        let b : t'' + tw ≡ t' + ts = total_set f (set s.views id both) other w spent at' in
        let c : tb ≤ tv + tw = balance h in
        let all : t + k ≤ g = r.each_right h in
        let q : t'' + k ≤ g = omega arith in q;
  }

  pub has_waiting : (s : St) (r : Holds fits bins s) (id : ℕ) (v : List Right) (n i lo hi fk : ℕ) (up : List Above)
      → get_elem? s.views id ≡ some v → 0 < total (same (Waits n i lo hi fk up)) v →
      (t : Ticketed r.cells n i lo hi waits)
      × (fk ≡ known_forks i (length t.pieces)) × (up ≡ path_of t.above)
  has_waiting s r id v n i lo hi fk up at pos = let b = backed s r id v (Waits n i lo hi fk up) at pos in
      found_waiting r.cells n i lo hi fk up b.0 b.1 b.2 b.3

  pub has_filling : (s : St) (r : Holds fits bins s) (id : ℕ) (v : List Right) (n i lo hi fk c : ℕ) (up : List Above)
      → get_elem? s.views id ≡ some v → 0 < total (same (Fills n i lo hi fk c up)) v →
      (t : Ticketed r.cells n i lo hi fills)
      × (fk ≡ known_forks i (length t.pieces)) × (c ≡ code t.above) × (up ≡ path_of t.above)
  has_filling s r id v n i lo hi fk c up at pos = let b = backed s r id v (Fills n i lo hi fk c up) at pos in
      found_filling r.cells n i lo hi fk c up b.0 b.1 b.2 b.3

  pub has_opened : (s : St) (r : Holds fits bins s) (id : ℕ) (v : List Right) (n lo hi k : ℕ) (up : List Above)
      → get_elem? s.views id ≡ some v → 0 < total (same (Opened n lo hi k up)) v →
      (j : ℕ) × (t : Ticketed r.cells n j lo hi held)
      × (k ≡ length t.pieces) × (up ≡ path_of t.above)
  has_opened s r id v n lo hi k up at pos = let b = backed s r id v (Opened n lo hi k up) at pos in
      found_opened r.cells n lo hi k up b.0 b.1 b.2 b.3

  pub has_unopened : (s : St) (r : Holds fits bins s) (id : ℕ) (v : List Right) (n : ℕ) → get_elem? s.views id ≡ some v
      → 0 < total (same (Unopened n)) v → get_elem? r.cells n ≡ some fresh
  has_unopened s r id v n at pos = let b = backed s r id v (Unopened n) at pos in
      found_unopened r.cells n b.0 b.1 b.2 b.3
