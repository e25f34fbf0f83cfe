use Rattle.std.proofs.Common.{rules, ◌≡◌, ◌∙◌, ◌<◌, [], ◌∷◌, ap, sym, refl}
use Rattle.std.specs.Coded.{Coded-set}
use denote.Struct.Props.{props}
use Rattle.atomic_table.specs.Table.{rest}
use Rattle.atomic_table.specs.Lent.{seat_with}
use Rattle.atomic_table.specs.Seated.{table_id_coded}
use Rattle.lock_table.specs.Places.{word_of}
use Rattle.lock_table.specs.Taken.{taken, places}
use Rattle.atomic_table.specs.declared.shared.Seat.{Seat}
use Rattle.lock_table.specs.declared.held.SlotGuard.{SlotGuard}
use Rattle.lock_table.specs.declared.terms.Terms.{Terms}
use Rattle.lock_table.proofs.Steps.{one_taken}
use Rattle.lock_table.proofs.held.SlotGuard.value.Goals as goal

same_held : {X A T : Type 0} (h : SlotGuard X A T) (seat : Seat X (Terms T)) (a b : h.at < h.rows.now.table.shared.table_id.slots)
    (c d : seat.table_id ≡ h.rows.now.table.shared.table_id) (e f : places seat.me.1 ≡ h.at ∷ [])
    (k l : h.word ≡ word_of h.rows.now.table.shared.key.stride h.at) (m n : h.word < h.rows.now.table.shared.table_id.words)
    → ◌≡◌ {A = SlotGuard X A T} (record
    { rows = h.rows; at = h.at; word = h.word; seat = seat; within = a; seated = c; holds = e; worded = k; below = m })
    (record { rows = h.rows; at = h.at; word = h.word; seat = seat; within = b; seated = d; holds = f; worded = l; below = n })
same_held h seat a b c d e f k l m n = let p : IsProp (h.at < h.rows.now.table.shared.table_id.slots) = hlevel props in
    let q : IsProp (seat.table_id ≡ h.rows.now.table.shared.table_id) = Coded-set table_id_coded _ _ in
    let r : IsProp (places seat.me.1 ≡ h.at ∷ []) = hlevel props in
    let s : IsProp (h.word ≡ word_of h.rows.now.table.shared.key.stride h.at) = hlevel props in
    let t : IsProp (h.word < h.rows.now.table.shared.table_id.words) = hlevel props in
    λ i. record {
      rows = h.rows;
      at = h.at;
      word = h.word;
      seat = seat;
      within = p a b i;
      seated = q c d i;
      holds = r e f i;
      worded = s k l i;
      below = t m n i;
    }

pub slot_mut-requires : goal.slot_mut-requires
slot_mut-requires g c = let t = one_taken _ _ c.args.self.now.holds in (search rules, (t.0, t.1 ∙ ap (λ l. (c.args.self.now.at, t.0) ∷ rest l) (sym t.1)))

pub returns : goal.returns
returns g c = (
  (refl, λ w. same_held c.args.self.now (seat_with c.args.self.now.seat c.args.self.now.at w) _ _ _ _ _ _ _ _ _ _),
  record { writes_back = tt; value = ap taken c.slot_mut.ensures.value },
)
