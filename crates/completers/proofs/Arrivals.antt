-- An arrival keeps the rule, and the last one takes all slots.
use Rattle.std.proofs.Common.{◌≡◌, ℕ, zero, suc, ◌+◌, ◌-◌, ◌*◌, ◌%◌, ◌^◌, ◌<◌, ◌≤◌, ◌≢◌, List, [], ◌∷◌}
use Rattle.std.proofs.Common.{length, get_or}
use Rattle.std.proofs.Common.{set, sym, refl, ap, ◌∙◌, subst, ⊎_elim}
use Rattle.std.proofs.Common.{arith, length-set, get_or-set_other, get_or-set_same}
use mathlib.Core.Logic.{dite}
use native.Mathlib.Decide.{ℕ_discrete, dec_le}
use mathlib.Core.Option.{none, some}
use mathlib.Core.Option as maybe
use lib.ListN.{get_elem?}
use Rattle.std.specs.Prelude.{Option, Some, None}
use Rattle.atomic_table.specs.Table.{takes, gives, chain, homes_after, Allows}
use Rattle.atomic_table.proofs.Lists.{set_here, set_else, at_map}
use Rattle.completers.proofs.Weights.{total_at, indexed_same, same}
use Rattle.completers.proofs.Cells.{within, reachable_more, Ticketed, St, Homes, Alike, moved, has_filling}
use Rattle.completers.proofs.Cells.{keeps_waiting}
use Rattle.completers.proofs.Moves.{one_right, elsewhere, beside, few_of, restaged, going_set, given_out_set}
use Rattle.completers.proofs.Moves.{position_arrived, numbers, tickets}
use Rattle.completers.proofs.Moves.{arrived_not_held, given_at, Rule}
use Rattle.completers.proofs.Parting.{takes_up, carried_up, up_frame, up_long, up_valid, all_parts}
use Rattle.completers.specs.Game.{arrive, number, IsNext, IsReachable, IsPossible}
use Rattle.completers.specs.Rights.{code, path_of, IsTicketAbove, node_in}
use Rattle.completers.specs.Parts.{AreParts, IsPart, present, stack}
use Rattle.completers.specs.Rule.{known_forks, total, indexed, Stage, held, waits, fills, arrived, has_arrived, Piece}
use Rattle.completers.specs.Rule.{piece, going, over, missing}
use Rattle.completers.specs.Rule.{position_of, right_of, given_out, AreTiles, SlotOk, IsGoing}
use Rattle.completers.specs.Steps.{Knowledge, Arrives}
use Rattle.completers.specs.declared.relation.Partial.{Partial}
use Rattle.completers.specs.declared.rule.Above.{Above}
use Rattle.completers.specs.declared.rule.Right.{Right}
use Rattle.completers.specs.declared.rule.Right.TheVariants.{Waits, Fills, Counted}

stage_arrived : (lo hi : ℕ) (st : Stage) → missing record { lo = lo; hi = hi; stage = st } ≡ 0 → st ≡ arrived
stage_arrived lo hi held e = absurd (omega arith)
stage_arrived lo hi waits e = absurd (omega arith)
stage_arrived lo hi fills e = absurd (omega arith)
stage_arrived lo hi arrived e = refl

none_missing : (p : Piece) → missing p ≡ 0 → p.stage ≡ arrived
none_missing p e = stage_arrived p.lo p.hi p.stage e

all_arrived : (ps : List Piece) → total missing ps ≡ 0 → (j : ℕ) (p : Piece) → get_elem? ps j ≡ some p →
    p.stage ≡ arrived
all_arrived ps z j p e = let m : missing p ≤ total missing ps = total_at missing ps j p e in let n : ℕ = missing p in
    let t : ℕ = total missing ps in let m' : n ≤ t = m in let z' : t ≡ 0 = z in
    none_missing p (let g : n ≡ 0 = omega arith in g)

less_one : (x : ℕ) → 0 < x → x < 2 ^ 64 → (x + (2 ^ 64 - 1)) % 2 ^ 64 + 1 ≡ x
less_one x pos small = let g : (x + (18446744073709551616 - 1)) % 18446744073709551616 + 1 ≡ x = omega arith in g

present_at : {A : Type 0} (l : List A) (i : ℕ) → ¬ (length l ≤ i) → (a : A) × (get_elem? l i ≡ some a)
present_at [] i close = absurd (close (omega arith))
present_at (x ∷ xs) zero close = (x, refl)
present_at (x ∷ xs) (suc i) close = present_at xs i (λ h. close (omega arith))

first_piece : (lo top : ℕ) (ps : List Piece) → AreTiles lo top ps →
    (p : Piece) × (get_elem? ps 0 ≡ some p) × (p.lo ≡ lo)
first_piece lo top [] t = absurd t
first_piece lo top (p ∷ ps) t = (p, refl, t.0)

module _ {P : Type 0} where
  abbrev read : maybe.Option (maybe.Option (Option (Partial P))) → Option (Partial P)
  read none = None
  read (some none) = None
  read (some (some y)) = y

module _ {P : Type 0} (fits : ℕ → ℕ → P → Type 0) (bins : ℕ) where
  -- the number of the node with the ticket, and one ticket less
  counted : (s : St fits bins) (r : Rule fits bins s) (n i lo hi : ℕ) (st : Stage) (t : Ticketed r.cells n i lo hi st)
      → missing (piece lo hi st) ≡ 1 → (2 * n < length s.words) × (0 < get_or s.words (2 * n) 0)
  counted s r n i lo hi st t one = let g : IsGoing fits bins s.words s.homes n t.low t.top t.above t.pieces =
      r.each_node n (going t.low t.top t.above t.pieces) t.cell_is in
      let a : missing (piece lo hi st) ≤ total missing t.pieces =
      total_at missing t.pieces i (piece lo hi st) t.piece_is in
      let w = within r.cells n (going t.low t.top t.above t.pieces) t.cell_is in let wide = r.words_wide in
      let m : ℕ = missing (piece lo hi st) in let u : ℕ = total missing t.pieces in let a' : m ≤ u = a in
      let o : m ≡ 1 = one in
      let c : get_or s.words (2 * n) 0 ≡ u = g.number_is in let l : ℕ = length r.cells in let w' : n < l = w in
      let k : ℕ = length s.words in let wide' : k ≡ 2 * l = wide in
      let x : ℕ = get_or s.words (2 * n) 0 in let c' : x ≡ u = c in
      ((let q : 2 * n < k = omega arith in q), (let q : 0 < x = omega arith in q))

  above_in : (s : St fits bins) (r : Rule fits bins s) (slots : ℕ) → length s.homes ≡ slots
      → (n low top : ℕ) (above : List Right) (ps : List Piece) → get_elem? r.cells n ≡ some (going low top above ps)
      → IsTicketAbove bins low top above
      → above ≢ [] → 8 * node_in above + 8 ≤ slots
  above_in s r slots wide n low top above ps at is there = ⊎_elim (λ none_is. absurd (there none_is.0))
      (λ one. let x : Right = Waits one.0 one.1 low top one.2 one.3 in let self = one_right x in
      let q : 0 < total (same x) above = subst (λ (l : List Right). 0 < total (same x) l) (sym one.5) self in
      let t = keeps_waiting fits bins s r n (going low top above ps) one.0 one.1 low top one.2 one.3 at q in
      let w : one.0 < length r.cells = within r.cells one.0 (going t.low t.top t.above t.pieces) t.cell_is in
      let l : ℕ = length r.cells in let w' : one.0 < l = w in let h : ℕ = length s.homes in
      let e : h ≡ 8 * l = r.homes_wide in
      let e' : h ≡ slots = wide in
      subst (λ (rs : List Right). 8 * node_in rs + 8 ≤ slots) (sym one.5) (let z : 8 * one.0 + 8 ≤ slots =
      omega arith in z)) is

  plays : (s : St fits bins) (r : Rule fits bins s) (n i lo hi : ℕ) (t : Ticketed r.cells n i lo hi fills)
      → IsNext (position_of t.pieces) (arrive i)
  plays s r n i lo hi t = (
    at_map (λ (p : Piece). has_arrived p.stage) t.pieces i (piece lo hi fills) t.piece_is,
    (λ z. given_at t.pieces (piece lo hi fills)
        (subst (λ (k : ℕ). get_elem? t.pieces k ≡ some (piece lo hi fills)) z t.piece_is)),
  )

  module _ (slots id : ℕ) (n i lo hi fk d : ℕ) (up : List Above) (xp : Partial P) (part : IsPart fits lo hi xp) where
    abbrev me : Knowledge P
    me = (Fills n i lo hi fk d up ∷ [], (8 * n + i, Some xp) ∷ [])

    arrives_step : Allows (Rule fits bins) slots id me (2 * n) (λ x. (x + (2 ^ 64 - 1)) % 2 ^ 64)
        (Arrives fits bins slots me)
    arrives_step s r wide at small =
        let car : List (ℕ × Option (Partial P)) = [] in let v : List Right = Fills n i lo hi fk d up ∷ [] in
        let f = has_filling fits bins s r id v n i lo hi fk d up at (one_right (Fills n i lo hi fk d up)) in
        let t : Ticketed r.cells n i lo hi fills = f.0 in let ps = t.pieces in
        let g : IsGoing fits bins s.words s.homes n t.low t.top t.above ps =
        r.each_node n (going t.low t.top t.above ps) t.cell_is in
        let x : ℕ = get_or s.words (2 * n) 0 in
        let room = counted s r n i lo hi fills t refl in let y : ℕ = (x + (2 ^ 64 - 1)) % 2 ^ 64 in
        let less : y + 1 ≡ x = less_one x room.1 small in
        let k : ℕ = 8 * n + i in let near : i < 8 = few_of fits bins s r n i lo hi fills t in
        let homes' : Homes fits bins = set s.homes k (some (Some xp)) in let words' : List ℕ = set s.words (2 * n) y in
        let now : get_or words' (2 * n) 0 ≡ y = get_or-set_same s.words (2 * n) y 0 room.0 in
        let in_row : k < length s.homes =
        (let w = within r.cells n (going t.low t.top t.above ps) t.cell_is in let l : ℕ = length r.cells in
        let w' : n < l = w in
        let h : ℕ = length s.homes in let wide' : h ≡ 8 * l = r.homes_wide in let q : k < h = omega arith in q) in
        let slot : SlotOk fits bins homes' k lo hi arrived = (xp, set_here s.homes k (some (Some xp)) in_row, part) in
        let code_same : get_or words' (2 * n + 1) 0 ≡ get_or s.words (2 * n + 1) 0 =
        get_or-set_other s.words (2 * n) (2 * n + 1) y 0 (λ e. omega arith) in
        let number_same : get_or words' (2 * n) 0 + 1 ≡ x + 0 =
        (let a : ℕ = get_or words' (2 * n) 0 in let a' : a ≡ y = now in let q : a + 1 ≡ x + 0 = omega arith in q) in
        let allowed = plays s r n i lo hi t in
        let played' : IsReachable (position_of (set ps i (piece lo hi arrived))) =
        subst IsReachable (sym (position_arrived ps i (piece lo hi fills) (piece lo hi arrived) t.piece_is refl refl))
        (reachable_more (position_of ps) (arrive i) g.reachable allowed) in
        let told : IsPossible (arrive i) (λ p. (number p ≡ x) × (i ≡ 0 → length p.arrived ≡ fk + 1)) = (
          position_of ps,
          g.reachable,
          allowed,
          (
            numbers ps ∙ sym g.number_is,
            (λ own_is. let l : ℕ = length ps in
                let some_ticket : i < l = within ps i (piece lo hi fills) t.piece_is in
                let e : fk ≡ l - 1 = subst (λ (z : ℕ). fk ≡ known_forks z (length ps)) own_is f.1 in
                tickets ps (fk + 1) (let q : fk + 1 ≡ l = omega arith in q)),
          ),
        ) in
        let others : (m : ℕ) → m ≢ n → Alike fits bins s.words words' s.homes homes' m = λ m apart. (
          get_or-set_other s.words (2 * n) (2 * m) y 0 (λ e. apart (omega arith)),
          get_or-set_other s.words (2 * n) (2 * m + 1) y 0 (λ e. omega arith),
          elsewhere fits bins s.homes n i m (some (Some xp)) near apart,
        ) in
        dite (ℕ_discrete x 1)
        (λ one. let qs : List Piece = set ps i (piece lo hi arrived) in
        let g' : IsGoing fits bins words' homes' n t.low t.top t.above qs =
        going_set fits bins s r n i lo hi fills arrived t (λ e. arrived_not_held e) words' homes' code_same number_same
        (λ j apart _. beside fits bins s.homes n i (some (Some xp)) j apart) slot played' in
        let done : total missing qs ≡ 0 = (let a : get_or words' (2 * n) 0 ≡ total missing qs = g'.number_is in
        let b : ℕ = total missing qs in let c : ℕ = get_or words' (2 * n) 0 in let a' : c ≡ b = a in
        let c' : c ≡ y = now in
        let o : x ≡ 1 = one in let q : b ≡ 0 = omega arith in q) in
        let all = all_arrived qs done in let value : ℕ → Option (Partial P) =
        λ j. read (get_elem? homes' (8 * n + j)) in
        let shows : (j : ℕ) (p : Piece) → get_elem? qs j ≡ some p →
        (z : Partial P) × (get_elem? homes' (8 * n + j) ≡ some (some (Some z)))
        × IsPart fits p.lo p.hi z =
        λ j p e. subst (λ (st : Stage). SlotOk fits bins homes' (8 * n + j) p.lo p.hi st) (all j p e)
        (g'.each_slot j p e) in
        let there : (j : ℕ) → j < 8 → get_elem? homes' (8 * n + j) ≡ some (some (value j)) =
        λ j low. dite (dec_le (length qs) j)
        (λ far. let e = g'.others j far low in e ∙ ap (λ (o : Option (Partial P)). some (some o)) (sym (ap read e)))
        (λ close. let p = present_at qs j close in let z = shows j p.0 p.1 in
        z.1 ∙ ap (λ (o : Option (Partial P)). some (some o)) (sym (ap read z.1))) in
        let parts : AreParts fits t.low t.top (present (value 0 ∷ stack value 7)) =
        all_parts fits value t.low t.top qs g'.tiled g'.few (λ j p e. let z = shows j p e in (z.0, ap read z.1, z.2))
        (λ j far low. ap read (g'.others j far low)) in
        let w : List Right = t.above in let hs : Homes fits bins = homes_after homes' car (takes_up n value 7) in
        let first : get_elem? hs (8 * n) ≡ some (some (value 0)) =
        (let z : 8 * n + 0 ≡ 8 * n = omega arith in
        up_frame n value 7 (8 * n) homes' car (λ j l e. omega arith)
        ∙ subst (λ (m : ℕ). get_elem? homes' m ≡ some (some (value 0))) z (there 0 (omega arith))) in (
          w,
          chain gives (chain (takes_up n value 7) (takes (8 * n) (value 0))),
          (tt, (up_valid n value 7 homes' car (omega arith) there, first)),
          moved fits bins s r n (going t.low t.top t.above ps) (over qs) t.cell_is id v w at words' (set hs (8 * n) none)
              (length-set s.words (2 * n) y) (length-set hs (8 * n) none
              ∙ (up_long n value 7 homes' car ∙ length-set s.homes k (some (Some xp))))
              (λ m apart. let o = others m apart in (
                o.0,
                o.1,
                (λ j low. set_else hs (8 * n) (8 * m + j) none (λ e. apart (omega arith))
                    ∙ (up_frame n value 7 (8 * m + j) homes' car (λ u l e. apart (omega arith)) ∙ o.2 j low)),
              ))
              tt
              (λ h. let a = given_out_set h n t.low t.top t.above ps i (piece lo hi fills)
              (piece lo hi arrived) t.piece_is in
              let z : given_out h n (going t.low t.top t.above qs) ≡ given_out h n (over qs) =
              indexed_same (λ (j : ℕ) (p : Piece). right_of h n t.above (length qs) j p.lo p.hi p.stage)
              (λ (j : ℕ) (p : Piece). h (Counted n j)) 0 qs
              (λ j p e. ap (λ (st : Stage). right_of h n t.above (length qs) (0 + j) p.lo p.hi st) (all j p e)) in
              let u : ℕ = given_out h n (going t.low t.top t.above qs) in
              let u' : ℕ = given_out h n (going t.low t.top t.above ps) in
              let c : ℕ = h (Fills n i lo hi (known_forks i (length ps)) (code t.above) (path_of t.above)) in
              let c' : ℕ = h (Fills n i lo hi fk d up) in let x' : ℕ = h (Counted n i) in
              let o : ℕ = given_out h n (over qs) in let a' : u + c ≡ u' + x' = a in let z' : u ≡ o = z in
              let e : c' ≡ c = λ k. h (Fills n i lo hi (f.1 k) (f.2 k) (f.3 k)) in let b : ℕ = total h t.above in
              let q : b + 0 + u' ≤ c' + 0 + b + o = omega arith in q),
          (
            told,
            (λ _. record {
              lo = t.low;
              hi = t.top;
              held = value;
              all_slots = ap (λ (l : List (ℕ × Option (Partial P))). (8 * n, value 0) ∷ l) (carried_up n value 7 car);
              mine = ap read (set_here s.homes k (some (Some xp)) in_row);
              parts = parts;
              first = (let o = first_piece t.low t.top qs g'.tiled in let z = shows 0 o.0 o.1 in
                  (z.0, ap read z.1, z.2.0 ∙ o.2));
              above = g.above_is;
              coded = sym f.2;
              path = sym f.3;
              inside = λ there. above_in s r slots wide n t.low t.top t.above ps t.cell_is g.above_is there;
            }),
            (λ more. absurd (more one)),
          ),
        ))
        (λ more. let w : List Right = Counted n i ∷ [] in (
          w,
          gives,
          tt,
          restaged fits bins s r n i lo hi fills arrived t (λ e. arrived_not_held e) id v w at words' homes'
              (length-set s.words (2 * n) y) (length-set s.homes k (some (Some xp))) others code_same number_same
              (λ j apart _. beside fits bins s.homes n i (some (Some xp)) j apart) slot played'
              (λ h. let c : ℕ = h (Fills n i lo hi (known_forks i (length ps)) (code t.above) (path_of t.above)) in
              let c' : ℕ = h (Fills n i lo hi fk d up) in
              let e : c' ≡ c = λ k. h (Fills n i lo hi (f.1 k) (f.2 k) (f.3 k)) in
              let x' : ℕ = h (Counted n i) in let q : x' + 0 + c ≤ c' + 0 + x' = omega arith in q),
          (told, (λ one. absurd (more one)), (λ _. refl)),
        ))

  pub arrives : (slots id : ℕ) (found : Knowledge P) (n i lo hi fk d : ℕ) (up : List Above) (xp : Partial P)
      → found ≡ (Fills n i lo hi fk d up ∷ [], (8 * n + i, Some xp) ∷ []) → IsPart fits lo hi xp
      → Allows (Rule fits bins) slots id found (2 * n) (λ x. (x + (2 ^ 64 - 1)) % 2 ^ 64)
      (Arrives fits bins slots found)
  arrives slots id found n i lo hi fk d up xp is part =
      subst (λ (m : Knowledge P). Allows (Rule fits bins) slots id m (2 * n) (λ x. (x + (2 ^ 64 - 1)) % 2 ^ 64)
      (Arrives fits bins slots m))
      (sym is) (arrives_step slots id n i lo hi fk d up xp part)
