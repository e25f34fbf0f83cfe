-- Runs of records.
use Rattle.std.proofs.Common.{◌≡◌, Bool, Option, Decides, List, [], ◌∷◌, ◌++◌, refl, ap, ◌∙◌, All}
use Rattle.std.proofs.lemmas.List.Elements.{All-head, All-tail}
use Rattle.bin_history.specs.Entries.{lookup, HasDistinctKeys, store, replay}
use Rattle.bin_history.specs.Calls.{key_of}
use Rattle.bin_history.specs.Plain.{step, run, IsLegal}
use Rattle.bin_history.specs.declared.call.Call.{Call}
use Rattle.bin_history.specs.Records.{RecordView}
use Rattle.bin_entries.proofs.Entries.{lookup-store, HasDistinctKeys-store, All-store}

module _ {K V F : Type 0} (same : K → K → Bool) (tells : (x y : K) → Decides (same x y) (x ≡ y)) where
  pub replay-append : (es : List (K × V)) (rs ss : List (RecordView K V F)) →
      replay same es (rs ++ ss) ≡ replay same (replay same es rs) ss
  replay-append es [] ss = refl
  replay-append es (r ∷ rs) ss = replay-append (store same es (key_of r.call) r.after) rs ss

  pub replay_push : (es : List (K × V)) (rs : List (RecordView K V F)) (r : RecordView K V F)
      → replay same es (rs ++ r ∷ []) ≡ store same (replay same es rs) (key_of r.call) r.after
  replay_push es rs r = replay-append es rs (r ∷ [])

  pub HasDistinctKeys-replay : (es : List (K × V)) (rs : List (RecordView K V F)) → HasDistinctKeys same es →
      HasDistinctKeys same (replay same es rs)
  HasDistinctKeys-replay es [] d = d
  HasDistinctKeys-replay es (r ∷ rs) d =
      HasDistinctKeys-replay (store same es (key_of r.call) r.after) rs
      (HasDistinctKeys-store same tells es (key_of r.call) r.after d)

  pub All-replay : (P : K → Type 0) (es : List (K × V)) (rs : List (RecordView K V F)) → All (λ e. P e.0) es →
      All (λ r. P (key_of r.call)) rs
      → All (λ e. P e.0) (replay same es rs)
  All-replay P es [] h p = h
  All-replay P es (r ∷ rs) h p =
      let Q : RecordView K V F → Type 0 = λ x. P (key_of x.call) in
      All-replay P (store same es (key_of r.call) r.after) rs
      (All-store same tells P es (key_of r.call) r.after h (All-head Q r rs p)) (All-tail Q r rs p)

  pub run-append : (m : K → Option V) (rs ss : List (RecordView K V F)) →
      run same m (rs ++ ss) ≡ run same (run same m rs) ss
  run-append m [] ss = refl
  run-append m (r ∷ rs) ss = run-append (step same m r) rs ss

  pub lookup-replay : (es : List (K × V)) (rs : List (RecordView K V F)) → HasDistinctKeys same es
      → lookup same (replay same es rs) ≡ run same (lookup same es) rs
  lookup-replay es [] d = refl
  lookup-replay es (r ∷ rs) d =
      let k = key_of r.call in
      let stepped : lookup same (store same es k r.after) ≡ step same (lookup same es) r =
      λ i q. lookup-store same tells es k r.after d q i in
      lookup-replay (store same es k r.after) rs (HasDistinctKeys-store same tells es k r.after d)
      ∙ ap (λ (m : K → Option V). run same m rs) stepped

  module _ (after : Call K V F → Option V → Option V) where
    pub IsLegal-append : (m : K → Option V) (rs ss : List (RecordView K V F)) → IsLegal same after m rs →
        IsLegal same after (run same m rs) ss
        → IsLegal same after m (rs ++ ss)
    IsLegal-append m [] ss a b = b
    IsLegal-append m (r ∷ rs) ss a b = (a.0, IsLegal-append (step same m r) rs ss a.1 b)

    pub IsLegal-front : (m : K → Option V) (rs ss : List (RecordView K V F)) → IsLegal same after m (rs ++ ss) →
        IsLegal same after m rs
    IsLegal-front m [] ss a = tt
    IsLegal-front m (r ∷ rs) ss a = (a.0, IsLegal-front (step same m r) rs ss a.1)

    pub IsLegal-rest : (m : K → Option V) (rs ss : List (RecordView K V F)) → IsLegal same after m (rs ++ ss) →
        IsLegal same after (run same m rs) ss
    IsLegal-rest m [] ss a = a
    IsLegal-rest m (r ∷ rs) ss a = IsLegal-rest (step same m r) rs ss a.1
