-- The part of a run is the run of the part.
use Rattle.std.proofs.Common.{◌≡◌, Bool, true, false, cond, Option, None, Decides, List, [], ◌∷◌, refl, sym, ap}
use Rattle.std.proofs.Common.{◌++◌, ◌∙◌, subst, arith}
use Rattle.std.proofs.lemmas.Grind.{common_steps}
use Rattle.bin_history.specs.Entries.{lookup, store, replay}
use Rattle.bin_history.specs.Calls.{key_of}
use Rattle.bin_history.specs.Plain.{step, run, IsLegal, IsLegalStep}
use Rattle.bin_history.specs.Part.{part_of_map, part_of_entries, part_of_records}
pub use Rattle.bin_entries.proofs.Parts.{lookup-part, part-store, HasDistinctKeys-part}
use Rattle.bin_history.proofs.Runs.{IsLegal-append}
use Rattle.bin_history.specs.declared.call.Call.{Call}
use Rattle.bin_history.specs.Records.{RecordView}

module _ {K V F : Type 0} (same : K → K → Bool) (tells : (x y : K) → Decides (same x y) (x ≡ y)) (test : K → Bool) where
  pub replay-part : (es : List (K × V)) (rs : List (RecordView K V F))
      → replay same (part_of_entries test es) (part_of_records test rs) ≡ part_of_entries test (replay same es rs)
  replay-part es [] = refl
  replay-part es (r ∷ rs) = let ih = replay-part (store same es (key_of r.call) r.after) rs in
      let a = part-store same tells test es (key_of r.call) r.after in
      grind (arith, common_steps)

  step-part : (m : K → Option V) (r : RecordView K V F) → test (key_of r.call) ≡ true → (q : K)
      → step same (part_of_map test m) r q ≡ part_of_map test (step same m r) q
  step-part m r p q = let a = tells (key_of r.call) q in grind (arith, common_steps)

  step_apart : (m : K → Option V) (r : RecordView K V F) → test (key_of r.call) ≡ false → (q : K) →
      part_of_map test m q ≡ part_of_map test (step same m r) q
  step_apart m r p q = let a = tells (key_of r.call) q in grind (arith, common_steps)

  -- the part of a run is the run of the part
  pub run-part : (m : K → Option V) (rs : List (RecordView K V F)) →
      run same (part_of_map test m) (part_of_records test rs) ≡ part_of_map test (run same m rs)
  run-part m [] = refl
  run-part m (r ∷ rs) = go (test (key_of r.call)) refl ∙ run-part (step same m r) rs where
    go : (b : Bool) → test (key_of r.call) ≡ b →
        run same (part_of_map test m) (cond b (r ∷ part_of_records test rs) (part_of_records test rs)) ≡ run same
        (part_of_map test (step same m r)) (part_of_records test rs)
    go true p = ap (λ (f : K → Option V). run same f (part_of_records test rs)) (λ i q. step-part m r p q i)
    go false p = ap (λ (f : K → Option V). run same f (part_of_records test rs)) (λ i q. step_apart m r p q i)

  pub IsLegal-part : (after : Call K V F → Option V → Option V) (m : K → Option V) (rs : List (RecordView K V F)) →
      IsLegal same after m rs
      → IsLegal same after (part_of_map test m) (part_of_records test rs)
  IsLegal-part after m [] l = tt
  IsLegal-part after m (r ∷ rs) l = go (IsLegal-part after (step same m r) rs l.1) (test (key_of r.call)) refl where
    go : IsLegal same after (part_of_map test (step same m r)) (part_of_records test rs) → (b : Bool) →
        test (key_of r.call) ≡ b
        → IsLegal same after (part_of_map test m) (cond b (r ∷ part_of_records test rs) (part_of_records test rs))
    go rest true p =
        let legal : (K → Option V) → Type 0 = λ f. IsLegal same after f (part_of_records test rs) in
        let known : part_of_map test m (key_of r.call) ≡ m (key_of r.call) = rw p refl in
        ((l.0.0 ∙ sym known, l.0.1), subst legal (λ i q. sym (step-part m r p q) i) rest)
    go rest false p =
        let legal : (K → Option V) → Type 0 = λ f. IsLegal same after f (part_of_records test rs) in
        subst legal (λ i q. sym (step_apart m r p q) i) rest

  -- at the keys of a part, calls leave what the part's calls make of the part of the map
  pub run_of_part : (opening : List (K × V)) (calls : List (RecordView K V F)) (k : K) → test k ≡ true
      → run same (lookup same (part_of_entries test opening)) (part_of_records test calls) k
      ≡ run same (lookup same opening) calls k
  run_of_part opening calls k on =
      ap (λ (m : K → Option V). run same m (part_of_records test calls) k)
      (λ i q. lookup-part same tells test opening q i)
      ∙ ap (λ (m : K → Option V). m k) (run-part (lookup same opening) calls)
      ∙ ap (λ (b : Bool). cond b (run same (lookup same opening) calls k) None) on

  -- a call on what the calls of a part leave is one on what all calls leave
  pub IsLegal-posted : (after : Call K V F → Option V → Option V) (opening pairs : List (K × V))
      (calls kept : List (RecordView K V F)) (r : RecordView K V F)
      → pairs ≡ part_of_entries test opening → part_of_records test calls ≡ kept → test (key_of r.call) ≡ true
      → IsLegalStep same after (run same (lookup same pairs) kept) r → IsLegal same after (lookup same opening) calls
      → IsLegal same after (lookup same opening) (calls ++ r ∷ [])
  IsLegal-posted after opening pairs calls kept r pairs_is kept_is on step legal =
      let found : r.before ≡ run same (lookup same opening) calls (key_of r.call) =
      step.0 ∙ (λ i. run same (lookup same (pairs_is i)) (sym kept_is i) (key_of r.call))
      ∙ run_of_part opening calls (key_of r.call) on in
      IsLegal-append same tells after (lookup same opening) calls (r ∷ []) legal ((found, step.1), tt)
