-- A call that was made on a bin, by the way it was made.
use Rattle.std.proofs.Common.{◌≡◌, ℕ, Bool, Option, Decides, List, [], ◌∷◌, ◌++◌, inl, inr, sym, ap, ◌∙◌, subst}
use Rattle.std.proofs.Common.{take, drop, append_assoc}
use Rattle.std.proofs.lemmas.List.{take-append-drop}
use Rattle.bin_history.specs.Calls.{key_of, after, reply}
use Rattle.bin_history.specs.Entries.{lookup, HasDistinctKeys, store, replay}
use Rattle.bin_history.specs.Histories.{GoesOn}
use Rattle.bin_history.specs.Lawful.{BinView}
use Rattle.bin_history.specs.Made.{IsMadeOn}
use Rattle.bin_history.specs.Plain.{run, IsLegal}
use Rattle.bin_history.specs.Readiness.{ReadyView, IsWorkedOut, KeepsOrFolds, record_of}
use Rattle.bin_history.specs.Records.{RecordView}
use Rattle.bin_history.specs.declared.call.Call.{Call}
use Rattle.bin_history.specs.declared.call.Reply.{Reply}
use Rattle.bin_history.proofs.Runs.{replay-append, lookup-replay, IsLegal-append, IsLegal-front}

module _ {K V F : Type 0} (same : K → K → Bool) (tells : (x y : K) → Decides (same x y) (x ≡ y)) (after' : Call K V F →
    Option V → Option V) where
  -- the oldest records folded, or not, before others come
  pub GoesOn-prepared : (b p c : BinView K V F) (more : List (RecordView K V F))
      → HasDistinctKeys same b.base → IsLegal same after' (lookup same b.base) b.records → KeepsOrFolds same b p
      → GoesOn same after' p more c → GoesOn same after' b more c
  GoesOn-prepared b p c more distinct legal (inl k) (gone, g) =
      let L : List (_ × _) → Type 0 = λ es. IsLegal same after' (lookup same es) gone in (
        gone,
        record {
          stored_is = ap (λ (rs : List (RecordView K V F)). rs ++ more) (sym k.records) ∙ g.stored_is;
          legal = subst L k.base g.legal;
          base_is = g.base_is ∙ ap (λ (es : List (K × V)). replay same es gone) k.base;
        },
      )
  GoesOn-prepared b p c more distinct legal (inr k) (gone, g) =
      let old = take 512 b.records in
      let whole : old ++ drop 512 b.records ≡ b.records = take-append-drop 512 b.records in
      let L : (K → Option V) → Type 0 = λ m. IsLegal same after' m gone in
      let first : IsLegal same after' (lookup same b.base) old =
      IsLegal-front same tells after' (lookup same b.base) old (drop 512 b.records) (rw whole legal) in
      let base : lookup same p.base ≡ run same (lookup same b.base) old =
      ap (lookup same) k.base ∙ lookup-replay same tells b.base old distinct in (
        old ++ gone,
        record {
          stored_is = ap (λ (rs : List (RecordView K V F)). rs ++ more) (sym whole)
              ∙ append_assoc old (drop 512 b.records) more
              ∙ ap (λ (rs : List (RecordView K V F)). old ++ (rs ++ more)) (sym k.records)
              ∙ ap (λ (rs : List (RecordView K V F)). old ++ rs) g.stored_is ∙ sym (append_assoc old gone c.records);
          legal = IsLegal-append same tells after' (lookup same b.base) old gone first (subst L base g.legal);
          base_is = g.base_is ∙ ap (λ (es : List (K × V)). replay same es gone) k.base
              ∙ sym (replay-append same tells b.base old gone);
        },
      )

module _ {K V F : Type 0} (same : K → K → Bool) (tells : (x y : K) → Decides (same x y) (x ≡ y)) (code : K → ℕ)
    (same_value : V → V → Bool)
    (remapped : F → K → Option V → Option V) (merged : F → V → V → Option V) where
  -- a call that was prepared, and then applied
  pub IsMadeOn-applied : (client ordinal : ℕ) (call : Call K V F) (b p c : BinView K V F) (ready : ReadyView K V F)
      (answer : Reply V) (r : RecordView K V F)
      → HasDistinctKeys same b.base → IsLegal same (after same_value remapped merged) (lookup same b.base) b.records →
      KeepsOrFolds same b p
      → p.entries ≡ b.entries → IsWorkedOut same same_value remapped merged ready p.entries → ready.call ≡ call →
      r ≡ record_of client ordinal ready
      → answer ≡ reply same_value ready.call ready.before ready.after →
      c.entries ≡ store same p.entries (key_of ready.call) ready.after
      → GoesOn same (after same_value remapped merged) p (record_of client ordinal ready ∷ []) c
      → IsMadeOn same same_value remapped merged client ordinal call b c answer r
  IsMadeOn-applied client ordinal call b p c ready answer r distinct legal folds kept w is_call is replied stored on =
      let r_before : r.before ≡ ready.before = ap (λ (x : RecordView K V F). x.before) is in
      let r_after : r.after ≡ ready.after = ap (λ (x : RecordView K V F). x.after) is in
      let On : RecordView K V F → Type 0 = λ x. GoesOn same (after same_value remapped merged) p (x ∷ []) c in
      record {
        client_is = ap (λ (x : RecordView K V F). x.client) is;
        ordinal_is = ap (λ (x : RecordView K V F). x.ordinal) is;
        call_is = ap (λ (x : RecordView K V F). x.call) is ∙ is_call;
        found = r_before ∙ w.before_is ∙ (λ i. lookup same (kept i) (key_of (is_call i)));
        left = r_after ∙ w.after_is ∙ (λ i. after same_value remapped merged (is_call i) (sym r_before i));
        replied = replied ∙ (λ i. reply same_value (is_call i) (sym r_before i) (sym r_after i));
        stored = stored ∙ (λ i. store same (kept i) (key_of (is_call i)) (sym r_after i));
        history = GoesOn-prepared same tells (after same_value remapped merged) b p c (r ∷ []) distinct legal folds
            (subst On (sym is) on);
      }
