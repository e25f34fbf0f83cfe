-- In a legal list each key by itself is a cell.
use Rattle.std.proofs.Common.{◌≡◌, Bool, true, false, cond, Option, Decides, List, [], ◌∷◌, refl, ap, ◌∙◌}
use Rattle.bin_history.specs.Calls.{key_of}
use Rattle.bin_history.specs.Cells.{records_on, cell_after, IsCellHistory}
use Rattle.bin_history.specs.Plain.{step, run, IsLegal}
use Rattle.bin_history.specs.declared.call.Call.{Call}
use Rattle.bin_history.specs.Records.{RecordView}

module _ {K V F : Type 0} (same : K → K → Bool) (tells : (x y : K) → Decides (same x y) (x ≡ y)) where
  pub run-cell : (map : K → Option V) (rs : List (RecordView K V F)) (k : K) →
      run same map rs k ≡ cell_after (map k) (records_on same k rs)
  run-cell map [] k = refl
  run-cell map (r ∷ rs) k = run-cell (step same map r) rs k ∙ go (same (key_of r.call) k) where
    go : (b : Bool) → cell_after (cond b r.after (map k)) (records_on same k rs) ≡ cell_after (map k)
        (cond b (r ∷ records_on same k rs) (records_on same k rs))
    go true = refl
    go false = refl

  pub IsLegal-cell : (after : Call K V F → Option V → Option V) (map : K → Option V) (rs : List (RecordView K V F))
      (k : K) → IsLegal same after map rs
      → IsCellHistory after (map k) (records_on same k rs)
  IsLegal-cell after map [] k l = tt
  IsLegal-cell after map (r ∷ rs) k l = go (IsLegal-cell after (step same map r) rs k l.1)
      (same (key_of r.call) k) refl where
        go : IsCellHistory after (step same map r k) (records_on same k rs) → (b : Bool) → same (key_of r.call) k ≡ b
            → IsCellHistory after (map k) (cond b (r ∷ records_on same k rs) (records_on same k rs))
        go rest true s = (l.0.0 ∙ ap map ((tells (key_of r.call) k).0 s), l.0.1, rw s at rest)
        go rest false s = rw s at rest

  -- the rest of a cell's history after a record, whether it is on the cell's key or not
  cell_rest : (after : Call K V F → Option V → Option V) (r : RecordView K V F) (v : Option V)
      (rs : List (RecordView K V F)) (b : Bool)
      → IsCellHistory after v (cond b (r ∷ rs) rs) → IsCellHistory after (cond b r.after v) rs
  cell_rest after r v rs true h = h.2
  cell_rest after r v rs false h = h

  pub IsLegal-cells : (after : Call K V F → Option V → Option V) (map : K → Option V) (rs : List (RecordView K V F))
      → ((k : K) → IsCellHistory after (map k) (records_on same k rs)) → IsLegal same after map rs
  IsLegal-cells after map [] cells = tt
  IsLegal-cells after map (r ∷ rs) cells =
      let k = key_of r.call in
      let here = rw ((tells k k).1 refl) at (cells k) in (
        (here.0, here.1),
        IsLegal-cells after (step same map r) rs
            (λ q. cell_rest after r (map q) (records_on same q rs) (same k q) (cells q)),
      )
