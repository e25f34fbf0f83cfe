-- Calls that a lean bin makes in the memory that it has.
use Rattle.std.proofs.Common.{◌≡◌, Bool, List, Result, Ok, Err, IfErr, refl, sym, subst, ◌∙◌}
use Rattle.std.proofs.lemmas.Bool.{false≢true}
use Rattle.std.specs.Result.{IsErrAnd}
use Rattle.bin_history.specs.Sure.{IsSpared}
use Rattle.bin_history.specs.declared.op.Op.{Op}
use Rattle.bin_history.specs.declared.op.Op.TheVariants as op
use Rattle.chm.specs.Sure.{IsMadeOrFull, NeedsNoMemory}
use Rattle.chm.specs.declared.fault.Fault.{Fault}
use Rattle.chm.specs.declared.fault.Fault.TheVariants.{PassFull}

-- what is so of an error that is passed on
pub IfErr-of : {T E : Type 0} (P : E → Type 0) (r : Result T E) (e : E) → IsErrAnd r (λ y. y ≡ e) → P e → IfErr r P
IfErr-of P (Ok _) e is p = tt
IfErr-of P (Err f) e is p = subst P (sym is) p

-- what is passed on is that the pass is full
pub IsMadeOrFull-of : {T : Type 0} (r : Result T Fault) (e : Fault) → IsErrAnd r (λ y. y ≡ e) → e ≡ PassFull →
    IsMadeOrFull r
IsMadeOrFull-of (Ok _) e is full = tt
IsMadeOrFull-of (Err f) e is full = is ∙ full

module _ {K V F : Type 0} (same : K → K → Bool) (copies : V → Type 0) (entries : List (K × V)) (k : K) where
  pub IsSpared-of : {kept : Type 0} (o : Op V F) → NeedsNoMemory copies o → IsSpared same kept copies entries k o
  IsSpared-of op.Get never = record { values = λ _. never; asks_none = refl; adds = λ _ adds. absurd (false≢true adds) }
  IsSpared-of op.Contains n = record { values = λ is. absurd cc; asks_none = refl; adds = λ _ adds. absurd (false≢true adds) }
  IsSpared-of (op.Put _) n = absurd n
  IsSpared-of (op.PutIfAbsent _) n = absurd n
  IsSpared-of op.Remove n = record { values = λ is. absurd cc; asks_none = refl; adds = λ _ adds. absurd (false≢true adds) }
  IsSpared-of (op.RemoveIf _) n = record { values = λ is. absurd cc; asks_none = refl; adds = λ _ adds. absurd (false≢true adds) }
  IsSpared-of (op.Replace _) n = record { values = λ is. absurd cc; asks_none = refl; adds = λ _ adds. absurd (false≢true adds) }
  IsSpared-of (op.ReplaceIf _ _) n = record { values = λ is. absurd cc; asks_none = refl; adds = λ _ adds. absurd (false≢true adds) }
  IsSpared-of (op.ComputeIfAbsent _) n = absurd n
  IsSpared-of (op.ComputeIfPresent _) n = absurd n
  IsSpared-of (op.Compute _) n = absurd n
  IsSpared-of (op.Merge _ _) n = absurd n
