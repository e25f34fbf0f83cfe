-- Each step keeps the rule.
use Rattle.std.proofs.Common.{◌≡◌, ℕ, zero, suc, ◌+◌, ◌-◌, ◌*◌, ◌<◌, ◌≤◌, ◌≢◌, Bool, true, false, List, [], ◌∷◌, map}
use Rattle.std.proofs.Common.{length, get_or, set, sym, refl, ap, ◌∙◌}
use Rattle.std.proofs.Common.{subst, ⊎_elim, arith, length-set}
use mathlib.Core.Option.{none, some, some-injective, some-ne-none}
use mathlib.Core.Option as maybe
use lib.ListN.{get_elem?, length-map}
use lib.Seq.{map-set}
use Rattle.std.specs.Prelude.{Option, None}
use Rattle.atomic_table.specs.Table.{State, keeps, takes, Allows}
use Rattle.atomic_table.proofs.Lists.{at_set, set_else, set_again, at_map}
use Rattle.completers.proofs.Weights.{total_set, indexed_set, same, same_self}
use Rattle.completers.proofs.Cells.{within, reachable_more, Ticketed, St, Homes, Alike, moved, has_waiting, has_opened}
use Rattle.completers.proofs.Cells.{slot_frame}
use Rattle.completers.specs.Game.{own, arrive, after, waiting, IsReachable}
use Rattle.completers.specs.Rights.{code, path_of}
use Rattle.completers.specs.Rule.{known_forks, total, indexed, Stage, held, waits, fills, arrived, has_arrived}
use Rattle.completers.specs.Rule.{is_given, Piece, piece, going, missing}
use Rattle.completers.specs.Rule.{has_given, position_of, right_of, given_out, AreBelow, AreTiles, SlotOk, IsGoing}
use Rattle.completers.specs.Rule.{Holds}
use Rattle.completers.specs.Steps.{Knowledge, Owns, Takes}
use Rattle.completers.specs.declared.relation.Partial.{Partial}
use Rattle.completers.specs.declared.rule.Above.{Above}
use Rattle.completers.specs.declared.rule.Right.{Right}
use Rattle.completers.specs.declared.rule.Right.TheVariants.{Opened, Waits, Fills}

pub one_right : (x : Right) → 0 < total (same x) (x ∷ [])
one_right x = let s : same x x ≡ 1 = same_self x in let n : ℕ = same x x in let g : 0 < n + 0 = omega arith in g

pub first_right : (x : Right) (xs : List Right) → 0 < total (same x) (x ∷ xs)
first_right x xs = let s : same x x ≡ 1 = same_self x in let n : ℕ = same x x in let m : ℕ = total (same x) xs in
    let g : 0 < n + m = omega arith in g

down_set : (hi top : ℕ) (ps : List Piece) (i a b : ℕ) (st st' : Stage) → get_elem? ps i ≡ some (piece a b st) →
    AreBelow hi top ps
    → AreBelow hi top (set ps i (piece a b st'))
down_set hi top [] i a b st st' e d = d
down_set hi top (p ∷ ps) zero a b st st' e d = let is : p ≡ piece a b st = some-injective p (piece a b st) e in (
  sym (ap (λ (x : Piece). x.hi) is) ∙ d.0,
  subst (λ (x : Piece). x.lo < x.hi) is d.1,
  subst (λ (x : Piece). AreBelow hi x.lo ps) is d.2,
)
down_set hi top (p ∷ ps) (suc i) a b st st' e d = (d.0, d.1, down_set hi p.lo ps i a b st st' e d.2)

tiled_set : (lo top : ℕ) (ps : List Piece) (i a b : ℕ) (st st' : Stage) → get_elem? ps i ≡ some (piece a b st) →
    AreTiles lo top ps
    → AreTiles lo top (set ps i (piece a b st'))
tiled_set lo top [] i a b st st' e d = d
tiled_set lo top (p ∷ ps) zero a b st st' e d = let is : p ≡ piece a b st = some-injective p (piece a b st) e in (
  sym (ap (λ (x : Piece). x.lo) is) ∙ d.0,
  subst (λ (x : Piece). lo < x.hi) is d.1,
  subst (λ (x : Piece). AreBelow x.hi top ps) is d.2,
)
tiled_set lo top (p ∷ ps) (suc i) a b st st' e d = (d.0, d.1, down_set p.hi top ps i a b st st' e d.2)

given_set : (ps : List Piece) (i : ℕ) (p q : Piece) → get_elem? ps i ≡ some p → is_given q.stage ≡ is_given p.stage
    → has_given (set ps i q) ≡ has_given ps
given_set [] i p q e g = refl
given_set (x ∷ xs) zero p q e g = g ∙ sym (ap (λ (y : Piece). is_given y.stage) (some-injective x p e))
given_set (x ∷ xs) (suc i) p q e g = refl

given_here : (ps : List Piece) (p q : Piece) → get_elem? ps 0 ≡ some p → has_given (set ps 0 q) ≡ is_given q.stage
given_here [] p q e = absurd (some-ne-none p (sym e))
given_here (x ∷ xs) p q e = refl

pub given_at : (ps : List Piece) (p : Piece) → get_elem? ps 0 ≡ some p → has_given ps ≡ is_given p.stage
given_at [] p e = absurd (some-ne-none p (sym e))
given_at (x ∷ xs) p e = ap (λ (y : Piece). is_given y.stage) (some-injective x p e)

abbrev pub is_held : Stage → Type 0
is_held held = Unit {0}
is_held waits = ⊥
is_held fills = ⊥
is_held arrived = ⊥

not_held : fills ≡ held → ⊥
not_held e = subst is_held (sym e) tt

not_held' : waits ≡ held → ⊥
not_held' e = subst is_held (sym e) tt

pub arrived_not_held : arrived ≡ held → ⊥
arrived_not_held e = subst is_held (sym e) tt

-- a ticket changes its stage
flags_set : (ps : List Piece) (i : ℕ) (q : Piece)
    → map (λ (p : Piece). has_arrived p.stage) (set ps i q) ≡ set (map (λ (p : Piece). has_arrived p.stage) ps) i
    (has_arrived q.stage)
flags_set ps i q = map-set (λ (p : Piece). has_arrived p.stage) ps i q

pub flags_same : (ps : List Piece) (i : ℕ) (p q : Piece) → get_elem? ps i ≡ some p →
    has_arrived q.stage ≡ has_arrived p.stage
    → map (λ (p : Piece). has_arrived p.stage) (set ps i q) ≡ map (λ (p : Piece). has_arrived p.stage) ps
flags_same ps i p q e a = flags_set ps i q
    ∙ (ap (λ (b : Bool). set (map (λ (p : Piece). has_arrived p.stage) ps) i b) a
    ∙ set_again (map (λ (p : Piece). has_arrived p.stage) ps) i (has_arrived p.stage)
    (at_map (λ (p : Piece). has_arrived p.stage) ps i p e))

position_same : (ps : List Piece) (i : ℕ) (p q : Piece) → get_elem? ps i ≡ some p → is_given q.stage ≡ is_given p.stage
    → has_arrived q.stage ≡ has_arrived p.stage → position_of (set ps i q) ≡ position_of ps
position_same ps i p q e g a = let x = given_set ps i p q e g in let y = flags_same ps i p q e a in
    λ t. record { has_given = x t; arrived = y t }

pub position_arrived : (ps : List Piece) (i : ℕ) (p q : Piece) → get_elem? ps i ≡ some p →
    is_given q.stage ≡ is_given p.stage
    → has_arrived q.stage ≡ true → position_of (set ps i q) ≡ after (position_of ps) (arrive i)
position_arrived ps i p q e g a = let x = given_set ps i p q e g in
    let y = flags_set ps i q ∙ ap (λ (b : Bool). set (map (λ (p : Piece). has_arrived p.stage) ps) i b) a in
    λ t. record { has_given = x t; arrived = y t }

-- the node's number is the game's
pub numbers : (ps : List Piece) → waiting (map (λ (p : Piece). has_arrived p.stage) ps) ≡ total missing ps
numbers [] = refl
numbers (p ∷ ps) = ap (λ (k : ℕ). missing p + k) (numbers ps)

pub position_owned : (ps : List Piece) (p q : Piece) → get_elem? ps 0 ≡ some p → is_given q.stage ≡ true
    → has_arrived q.stage ≡ has_arrived p.stage → position_of (set ps 0 q) ≡ after (position_of ps) own
position_owned ps p q e g a = let x = given_here ps p q e in let y = flags_same ps 0 p q e a in
    λ t. record { has_given = (x ∙ g) t; arrived = y t }

-- what a node gives out, when one ticket changes
pub given_out_set : (h : Right → ℕ) (m lo top : ℕ) (above : List Right) (ps : List Piece) (i : ℕ) (p q : Piece) →
    get_elem? ps i ≡ some p
    → given_out h m (going lo top above (set ps i q)) + right_of h m above (length ps) i p.lo p.hi p.stage
    ≡ given_out h m
    (going lo top above ps) + right_of h m above (length ps) i q.lo q.hi q.stage
given_out_set h m lo top above ps i p q e = let f : ℕ → ℕ → Piece → ℕ =
    λ n j x. right_of h m above n j x.lo x.hi x.stage in
    let n : ℕ = length ps in let z : 0 + i ≡ i = omega arith in
    subst (λ (k : ℕ). indexed (f k) 0 (set ps i q) + f n i p ≡ indexed (f n) 0 ps + f n i q) (sym (length-set ps i q))
    (subst (λ (j : ℕ). indexed (f n) 0 (set ps i q) + f n j p ≡ indexed (f n) 0 ps + f n j q) z
    (indexed_set (f n) 0 ps i p q e))

set_get : (l : List ℕ) (i : ℕ) → set l i (get_or l i 0) ≡ l
set_get [] i = refl
set_get (x ∷ xs) zero = refl
set_get (x ∷ xs) (suc i) = ap (λ (ys : List ℕ). x ∷ ys) (set_get xs i)

-- the tickets of the position that a node is at
pub tickets : (ps : List Piece) (k : ℕ) → k ≡ length ps → length (position_of ps).arrived ≡ k
tickets ps k e = length-map ps (λ (p : Piece). has_arrived p.stage) ∙ sym e

module _ {P : Type 0} (fits : ℕ → ℕ → P → Type 0) (bins : ℕ) where
  abbrev pub Rule : State (Option (Partial P)) (List Right) → Type 0
  Rule = Holds fits bins

  -- one ticket of a node changes its stage
  pub going_set : (s : St fits bins) (r : Rule s) (n i lo hi : ℕ) (st st' : Stage) (t : Ticketed r.cells n i lo hi st) →
      (st' ≡ held → ⊥)
      → (words' : List ℕ) (homes' : Homes fits bins)
      → get_or words' (2 * n + 1) 0 ≡ get_or s.words (2 * n + 1) 0
      → get_or words' (2 * n) 0 + missing (piece lo hi st) ≡ get_or s.words (2 * n) 0 + missing (piece lo hi st')
      → ((j : ℕ) → j ≢ i → j < 8 → get_elem? homes' (8 * n + j) ≡ get_elem? s.homes (8 * n + j))
      → SlotOk fits bins homes' (8 * n + i) lo hi st'
      → IsReachable (position_of (set t.pieces i (piece lo hi st')))
      → IsGoing fits bins words' homes' n t.low t.top t.above (set t.pieces i (piece lo hi st'))
  going_set s r n i lo hi st st' t out words' homes' code_same number_same slots_same slot reachable =
      let ps = t.pieces in let p : Piece = piece lo hi st in let q : Piece = piece lo hi st' in
      let g : IsGoing fits bins s.words s.homes n t.low t.top t.above ps =
      r.each_node n (going t.low t.top t.above ps) t.cell_is in
      let long : length (set ps i q) ≡ length ps = length-set ps i q in
      record {
        number_is =
            (let a : total missing (set ps i q) + missing p ≡ total missing ps + missing q =
            total_set missing ps i p q t.piece_is in
            let x : ℕ = get_or words' (2 * n) 0 in let y : ℕ = get_or s.words (2 * n) 0 in
            let u : ℕ = total missing (set ps i q) in let u' : ℕ = total missing ps in let mp : ℕ = missing p in
            let mq : ℕ = missing q in
            let b : y ≡ u' = g.number_is in let c : x + mp ≡ y + mq = number_same in let a' : u + mp ≡ u' + mq = a in
            let z : x ≡ u = omega arith in z);
        code_is = code_same ∙ g.code_is;
        above_is = g.above_is;
        tiled = tiled_set t.low t.top ps i lo hi st st' t.piece_is g.tiled;
        few = subst (λ (k : ℕ). k ≤ 8) (sym long) g.few;
        own_only = λ j x e is. ⊎_elim (λ (y : (j ≡ i) × (q ≡ x)). absurd (out (ap (λ (z : Piece). z.stage) y.1 ∙ is)))
            (λ (y : (j ≢ i) × (get_elem? ps j ≡ some x)). g.own_only j x y.1 is) (at_set ps i j q x e);
        each_slot = λ j x e. ⊎_elim (λ (y : (j ≡ i) × (q ≡ x)). subst
            (λ (z : ℕ × Piece). SlotOk fits bins homes' (8 * n + z.0) z.1.lo z.1.hi z.1.stage)
            (λ k. (sym y.0 k, y.1 k)) slot)
            (λ (y : (j ≢ i) × (get_elem? ps j ≡ some x)). slot_frame fits bins s.homes homes'
            (8 * n + j) x.lo x.hi x.stage
            (slots_same j y.0 (let w = within ps j x y.1 in let f = g.few in omega arith)) (g.each_slot j x y.1))
            (at_set ps i j q x e);
        others = λ j far near. let far' : length ps ≤ j = subst (λ (k : ℕ). k ≤ j) long far in
            slots_same j (λ e. let w = within ps i p t.piece_is in absurd (omega arith)) near ∙ g.others j far' near;
        reachable = reachable;
      }

  pub restaged : (s : St fits bins) (r : Rule s) (n i lo hi : ℕ) (st st' : Stage) (t : Ticketed r.cells n i lo hi st) →
      (st' ≡ held → ⊥)
      → (id : ℕ) (v w : List Right) → get_elem? s.views id ≡ some v
      → (words' : List ℕ) (homes' : Homes fits bins) → length words' ≡ length s.words → length homes' ≡ length s.homes
      → ((m : ℕ) → m ≢ n → Alike fits bins s.words words' s.homes homes' m)
      → get_or words' (2 * n + 1) 0 ≡ get_or s.words (2 * n + 1) 0
      → get_or words' (2 * n) 0 + missing (piece lo hi st) ≡ get_or s.words (2 * n) 0 + missing (piece lo hi st')
      → ((j : ℕ) → j ≢ i → j < 8 → get_elem? homes' (8 * n + j) ≡ get_elem? s.homes (8 * n + j))
      → SlotOk fits bins homes' (8 * n + i) lo hi st'
      → IsReachable (position_of (set t.pieces i (piece lo hi st')))
      → ((h : Right → ℕ) → total h w + right_of h n t.above (length t.pieces) i lo hi st
      ≤ total h v + right_of h n t.above
      (length t.pieces) i lo hi st')
      → Rule record { words = words'; homes = homes'; views = set s.views id w }
  restaged s r n i lo hi st st' t out id v w at words' homes' words_long homes_long others code_same number_same
      slots_same slot reachable balance =
      let ps = t.pieces in let p : Piece = piece lo hi st in let q : Piece = piece lo hi st' in
      moved fits bins s r n (going t.low t.top t.above ps)
      (going t.low t.top t.above (set ps i q)) t.cell_is id v w at words' homes' words_long homes_long others
      (going_set s r n i lo hi st st' t out words' homes' code_same number_same slots_same slot reachable)
      (λ h. let a = given_out_set h n t.low t.top t.above ps i p q t.piece_is in
      let x : ℕ = given_out h n (going t.low t.top t.above (set ps i q)) in
      let y : ℕ = given_out h n (going t.low t.top t.above ps) in
      let rp : ℕ = right_of h n t.above (length ps) i lo hi st in
      let rq : ℕ = right_of h n t.above (length ps) i lo hi st' in
      let a' : x + rp ≡ y + rq = a in
      let tw : ℕ = total h w in let tv : ℕ = total h v in let k : ℕ = total h t.above in
      let b : tw + rp ≤ tv + rq = balance h in
      let z : tw + k + y ≤ tv + k + x = omega arith in z)

  pub elsewhere : (homes : Homes fits bins) (n i m : ℕ) (x : maybe.Option (Option (Partial P))) → i < 8 → m ≢ n →
      (j : ℕ) → j < 8
      → get_elem? (set homes (8 * n + i) x) (8 * m + j) ≡ get_elem? homes (8 * m + j)
  elsewhere homes n i m x small apart j near = set_else homes (8 * n + i) (8 * m + j) x (λ e. apart (omega arith))

  pub beside : (homes : Homes fits bins) (n i : ℕ) (x : maybe.Option (Option (Partial P))) → (j : ℕ) → j ≢ i
      → get_elem? (set homes (8 * n + i) x) (8 * n + j) ≡ get_elem? homes (8 * n + j)
  beside homes n i x j apart = set_else homes (8 * n + i) (8 * n + j) x (λ e. apart (omega arith))

  pub few_of : (s : St fits bins) (r : Rule s) (n i lo hi : ℕ) (st : Stage) (t : Ticketed r.cells n i lo hi st) → i < 8
  few_of s r n i lo hi st t = let g : IsGoing fits bins s.words s.homes n t.low t.top t.above t.pieces =
      r.each_node n (going t.low t.top t.above t.pieces) t.cell_is in
      let w = within t.pieces i (piece lo hi st) t.piece_is in let f = g.few in omega arith

  same_words : (s : St fits bins) (k : ℕ) (homes' : Homes fits bins) (views' : List (List Right))
      → Rule record { words = s.words; homes = homes'; views = views' }
      → Rule record { words = set s.words k (get_or s.words k 0); homes = homes'; views = views' }
  same_words s k homes' views' = subst (λ (ws : List ℕ). Rule record { words = ws; homes = homes'; views = views' })
      (sym (set_get s.words k))

  places_step : (slots id : ℕ) (car : List (ℕ × Option (Partial P))) (n i lo hi fk : ℕ) (up : List Above)
      → let me : Knowledge P = (Waits n i lo hi fk up ∷ [], car) in
      Allows Rule slots id me (2 * n + 1) (λ x. x) (Takes me)
  places_step slots id car n i lo hi fk up s r wide at _ =
      let v : List Right = Waits n i lo hi fk up ∷ [] in
      let f = has_waiting fits bins s r id v n i lo hi fk up at (one_right (Waits n i lo hi fk up)) in let t = f.0 in
      let ps = t.pieces in
      let g : IsGoing fits bins s.words s.homes n t.low t.top t.above ps =
      r.each_node n (going t.low t.top t.above ps) t.cell_is in
      let x : ℕ = get_or s.words (2 * n + 1) 0 in
      let k : ℕ = 8 * n + i in let w : List Right = Fills n i lo hi fk x up ∷ [] in
      let small = few_of s r n i lo hi waits t in
      let homes' : Homes fits bins = set s.homes k none in (
        w,
        takes k None,
        g.each_slot i (piece lo hi waits) t.piece_is,
        same_words s (2 * n + 1) homes' (set s.views id w)
            (restaged s r n i lo hi waits fills t (λ e. not_held e) id v w at s.words homes' refl
            (length-set s.homes k none)
            (λ m apart. (refl, refl, elsewhere s.homes n i m none small apart)) refl refl
            (λ j apart _. beside s.homes n i none j apart) tt
            (subst IsReachable (sym (position_same ps i (piece lo hi waits) (piece lo hi fills) t.piece_is refl refl))
            g.reachable)
            (λ h. let a : ℕ = h (Fills n i lo hi fk x up) in
            let b : ℕ = h (Fills n i lo hi (known_forks i (length ps)) (code t.above) (path_of t.above)) in
            let c : ℕ = h (Waits n i lo hi fk up) in
            let d : ℕ = h (Waits n i lo hi (known_forks i (length ps)) (path_of t.above)) in
            let e : a ≡ b = λ z. h (Fills n i lo hi (f.1 z) (g.code_is z) (f.2 z)) in
            let e' : c ≡ d = λ z. h (Waits n i lo hi (f.1 z) (f.2 z)) in
            let z : a + 0 + d ≤ c + 0 + b = omega arith in z)),
        refl,
      )

  pub takes_slot : (slots id : ℕ) (me : Knowledge P) (n i lo hi fk : ℕ) (up : List Above)
      (car : List (ℕ × Option (Partial P)))
      → me ≡ (Waits n i lo hi fk up ∷ [], car) → Allows Rule slots id me (2 * n + 1) (λ x. x) (Takes me)
  takes_slot slots id me n i lo hi fk up car is =
      subst (λ (m : Knowledge P). Allows Rule slots id m (2 * n + 1) (λ x. x) (Takes m)) (sym is)
      (places_step slots id car n i lo hi fk up)

  owns_step : (slots id : ℕ) (car : List (ℕ × Option (Partial P))) (n lo hi k : ℕ) (up : List Above) (rs : List Right)
      → let me : Knowledge P = (Opened n lo hi k up ∷ rs, car) in Allows Rule slots id me (2 * n) (λ x. x) (Owns me)
  owns_step slots id car n lo hi k up rs s r wide at _ =
      let v : List Right = Opened n lo hi k up ∷ rs in
      let f = has_opened fits bins s r id v n lo hi k up at (first_right (Opened n lo hi k up) rs) in let t0 = f.1 in
      let g0 : IsGoing fits bins s.words s.homes n t0.low t0.top t0.above t0.pieces =
      r.each_node n (going t0.low t0.top t0.above t0.pieces) t0.cell_is in
      let first : f.0 ≡ 0 = g0.own_only f.0 (piece lo hi held) t0.piece_is refl in let ps = t0.pieces in
      let here : get_elem? ps 0 ≡ some (piece lo hi held) =
      subst (λ (z : ℕ). get_elem? ps z ≡ some (piece lo hi held)) first t0.piece_is in
      let t : Ticketed r.cells n 0 lo hi held =
      record { low = t0.low; top = t0.top; above = t0.above; pieces = ps; cell_is = t0.cell_is; piece_is = here } in
      let w : List Right = Waits n 0 lo hi (k - 1) up ∷ [] in let was : has_given ps ≡ false =
      given_at ps (piece lo hi held) here in
      let now : position_of (set ps 0 (piece lo hi waits)) ≡ after (position_of ps) own =
      position_owned ps (piece lo hi held) (piece lo hi waits) here refl refl in (
        w,
        keeps,
        tt,
        same_words s (2 * n) s.homes (set s.views id w)
            (restaged s r n 0 lo hi held waits t (λ e. not_held' e) id v w at s.words s.homes refl refl
            (λ m apart. (refl, refl, (λ j near. refl))) refl refl (λ j apart _. refl)
            (g0.each_slot 0 (piece lo hi held) here)
            (subst IsReachable (sym now) (reachable_more (position_of ps) own g0.reachable was))
            (λ h. let a : ℕ = h (Waits n 0 lo hi (k - 1) up) in
            let a' : ℕ = h (Waits n 0 lo hi (length ps - 1) (path_of t.above)) in
            let b : ℕ = h (Opened n lo hi (length ps) (path_of t.above)) in let c : ℕ = h (Opened n lo hi k up) in
            let d : ℕ = total h rs in
            let e : c ≡ b = λ z. h (Opened n lo hi (f.2 z) (f.3 z)) in
            let e' : a ≡ a' = λ z. h (Waits n 0 lo hi (f.2 z - 1) (f.3 z)) in
            let z : a + 0 + b ≤ c + d + a' = omega arith in z)),
        (refl, (position_of ps, g0.reachable, was, (numbers ps ∙ sym g0.number_is, tickets ps k f.2))),
      )

  pub gives_own : (slots id : ℕ) (me : Knowledge P) (n lo hi k : ℕ) (up : List Above) (rs : List Right)
      (car : List (ℕ × Option (Partial P)))
      → me ≡ (Opened n lo hi k up ∷ rs, car) → Allows Rule slots id me (2 * n) (λ x. x) (Owns me)
  gives_own slots id me n lo hi k up rs car is =
      subst (λ (m : Knowledge P). Allows Rule slots id m (2 * n) (λ x. x) (Owns m)) (sym is)
      (owns_step slots id car n lo hi k up rs)
