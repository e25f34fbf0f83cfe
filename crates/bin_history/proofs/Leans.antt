-- A call on a lean bin.
use Rattle.std.proofs.Common.{◌≡◌, ℕ, Bool, Option, [], ◌∷◌, refl, sym, subst}
use Rattle.bin_history.specs.Entries.{lookup, store}
use Rattle.bin_history.specs.Calls.{key_of, after, reply}
use Rattle.bin_history.specs.Leans.{LeanView, as_bin}
use Rattle.bin_history.specs.Made.{IsMadeOn}
use Rattle.bin_history.specs.Records.{RecordView}
use Rattle.bin_history.specs.declared.call.Call.{Call}
use Rattle.bin_history.specs.declared.call.Reply.{Reply}

module _ {K V F : Type 0} (same : K → K → Bool) (same_value : V → V → Bool) (remapped : F → K → Option V → Option V)
    (merged : F → V → V → Option V) where
  -- a call that stored in a lean bin what it leaves
  pub IsMadeOn-lean : (client ordinal : ℕ) (call : Call K V F) (l m : LeanView K V) (v w : Option V) (answer : Reply V)
      (r : RecordView K V F)
      → v ≡ lookup same l.entries (key_of call) → w ≡ after same_value remapped merged call v
      → r.client ≡ client → r.ordinal ≡ ordinal → r.call ≡ call → r.before ≡ v → r.after ≡ w
      → answer ≡ reply same_value call v w → m.entries ≡ store same l.entries (key_of call) w
      → IsMadeOn same same_value remapped merged client ordinal call (as_bin l) (as_bin m) answer r
  IsMadeOn-lean client ordinal call l m v w answer r found left by next of before after_is replied stored =
      let x : RecordView K V F = record { client = client; ordinal = ordinal; call = call; before = v; after = w } in
      let is : r ≡ x = λ i. record {
        client = by i;
        ordinal = next i;
        call = of i;
        before = before i;
        after = after_is i;
      } in
      let made : IsMadeOn same same_value remapped merged client ordinal call (as_bin l) (as_bin m) answer x = record {
        client_is = refl;
        ordinal_is = refl;
        call_is = refl;
        found = found;
        left = left;
        replied = replied;
        stored = stored;
        history = (x ∷ [], record { stored_is = refl; legal = ((found, left), tt); base_is = stored });
      } in
      subst (IsMadeOn same same_value remapped merged client ordinal call (as_bin l) (as_bin m) answer) (sym is) made
