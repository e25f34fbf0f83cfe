-- A change at a key's place is a store at the key.
use Rattle.std.proofs.Common.{◌≡◌, ℕ, zero, suc, ◌<◌, Bool, true, false, Option, Some, None, Decides, List, [], ◌∷◌}
use Rattle.std.proofs.Common.{◌++◌, length, refl, sym, ap, ◌∙◌, arith}
use Rattle.std.proofs.Common.{get_or, set}
use Rattle.std.proofs.lemmas.Bool.{true≢false}
use Rattle.std.proofs.lemmas.Grind.{common_steps}
use Rattle.std.proofs.lemmas.Option.{none-some}
use Rattle.std.specs.List.{remove as remove_at}
use Rattle.bin_history.specs.Entries.{lookup, put, remove, store}
use Rattle.bin_entries.proofs.Entries.{remove-absent, store_same}
use Rattle.bin_history.specs.Births.{is_birth, index_of}
use Rattle.bin_history.specs.Changes.{assign_at, entries_after, HasIndex, IsIndexOf, Fits, value_in, taken_from}
use Rattle.bin_history.specs.Changes.{taken_by, change_to, change_by, left_by}
use Rattle.bin_history.specs.Calls.{key_of, after}
use Rattle.bin_history.specs.Ops.{call_on, may_add, value_of}
use Rattle.bin_history.specs.declared.op.Op.{Op}
use Rattle.bin_history.specs.declared.op.Op.TheVariants.{Get, Contains, Put, PutIfAbsent, Remove, RemoveIf, Replace}
use Rattle.bin_history.specs.declared.op.Op.TheVariants.{ReplaceIf, ComputeIfAbsent}
use Rattle.bin_history.specs.declared.op.Op.TheVariants.{ComputeIfPresent, Compute, Merge}
use Rattle.bin_history.specs.declared.effect.Effect.{Effect}
use Rattle.bin_history.specs.declared.effect.Effect.TheVariants.{Keep, Give, Set}

pub set-assign : {K V : Type 0} (es : List (K × V)) (i : ℕ) (v : V) (d : K × V) → i < length es → d ≡ get_or es i d →
    set es i (d.0, v) ≡ assign_at es i v
set-assign [] i v d l e = absurd (omega arith)
set-assign (e ∷ es) zero v d l is = ap (λ (x : _ × _). (x.0, v) ∷ es) is
set-assign (e ∷ es) (suc i) v d l is = ap (λ (xs : List (_ × _)). e ∷ xs) (set-assign es i v d (omega arith) is)

-- what stands at a place
pub value_in-at : {K V : Type 0} (es : List (K × V)) (i : ℕ) (d : K × V) → i < length es → d ≡ get_or es i d →
    value_in es i ≡ Some d.1
value_in-at [] i d l e = absurd (omega arith)
value_in-at (e ∷ es) zero d l is = ap (λ (x : _ × _). Some x.1) (sym is)
value_in-at (e ∷ es) (suc i) d l is = value_in-at es i d (omega arith) is

module _ {K V : Type 0} (same : K → K → Bool) (tells : (x y : K) → Decides (same x y) (x ≡ y)) where
  pub lookup_at : (es : List (K × V)) (k : K) (i : ℕ) (d : K × V) → i ≡ index_of same es k → i < length es →
      lookup same es k ≡ Some (get_or es i d).1
  lookup_at [] k i d p l = absurd (omega arith)
  lookup_at (e ∷ es) k zero d p l = grind (arith, common_steps)
  lookup_at (e ∷ es) k (suc i) d p l = let ih = lookup_at es k i d in grind (arith, common_steps)

  pub lookup_absent : (es : List (K × V)) (k : K) → length es ≡ index_of same es k → lookup same es k ≡ None
  lookup_absent [] k p = refl
  lookup_absent (e ∷ es) k p = let ih = lookup_absent es k in grind (arith, common_steps)

  put_at : (es : List (K × V)) (k : K) (v : V) (i : ℕ) → i ≡ index_of same es k → i < length es →
      put same es k v ≡ assign_at es i v
  put_at [] k v i p l = absurd (omega arith)
  put_at (e ∷ es) k v zero p l = grind (arith, common_steps)
  put_at (e ∷ es) k v (suc i) p l = let ih = put_at es k v i in grind (arith, common_steps)

  put_absent : (es : List (K × V)) (k : K) (v : V) → length es ≡ index_of same es k →
      put same es k v ≡ es ++ (k, v) ∷ []
  put_absent [] k v p = refl
  put_absent (e ∷ es) k v p = let ih = put_absent es k v in grind (arith, common_steps)

  remove-at : (es : List (K × V)) (k : K) (i : ℕ) → i ≡ index_of same es k → i < length es →
      remove same es k ≡ remove_at es i
  remove-at [] k i p l = absurd (omega arith)
  remove-at (e ∷ es) k zero p l = grind (arith, common_steps)
  remove-at (e ∷ es) k (suc i) p l = let ih = remove-at es k i in grind (arith, common_steps)

  pub entries_after-to : (es : List (K × V)) (k : K) (found : Option ℕ) (w : Option V) → IsIndexOf same es k found
      → entries_after es (change_to found k w) ≡ store same es k w
  entries_after-to es k None None f = sym (remove-absent same es k (lookup_absent es k f))
  entries_after-to es k None (Some v) f = sym (put_absent es k v f)
  entries_after-to es k (Some i) None f = sym (remove-at es k i f.1 f.0)
  entries_after-to es k (Some i) (Some v) f = sym (put_at es k v i f.1 f.0)

  -- the change fits where there is room for a key that it makes present
  pub Fits-birth : (es : List (K × V)) (k : K) (found : Option ℕ) (w : Option V) (room : ℕ) → IsIndexOf same es k found
      → (is_birth (lookup same es k) w ≡ true → 0 < room) → Fits room (change_to found k w)
  Fits-birth es k None None room f has = tt
  Fits-birth es k None (Some v) room f has = has (ap (λ found. is_birth found (Some v)) (lookup_absent es k f))
  Fits-birth es k (Some i) None room f has = tt
  Fits-birth es k (Some i) (Some v) room f has = tt

  pub entries_after-by : {F : Type 0} (es : List (K × V)) (k : K) (found : Option ℕ) (op : Op V F) (effect : Effect V)
      (given : Option V)
      → (effect ≡ Give → given ≡ value_of op) → IsIndexOf same es k found
      → entries_after es (change_by found k effect given) ≡ store same es k (left_by op effect (lookup same es k))
  entries_after-by es k found op Keep given is f = sym (store_same same es k (lookup same es k) refl)
  entries_after-by es k found op Give given is f = entries_after-to es k found given f ∙ ap (store same es k) (is refl)
  entries_after-by es k found op (Set w) given is f = entries_after-to es k found w f

  value_in-index_of : (es : List (K × V)) (k : K) (i : ℕ) → i ≡ index_of same es k → i < length es →
      value_in es i ≡ lookup same es k
  value_in-index_of [] k i p l = absurd (omega arith)
  value_in-index_of (e ∷ es) k zero p l = grind (arith, common_steps)
  value_in-index_of (e ∷ es) k (suc i) p l = let ih = value_in-index_of es k i in grind (arith, common_steps)

  taken-to : (es : List (K × V)) (k : K) (found : Option ℕ) (w : Option V) → IsIndexOf same es k found →
      taken_from es (change_to found k w) ≡ lookup same es k
  taken-to es k None None f = sym (lookup_absent es k f)
  taken-to es k None (Some v) f = sym (lookup_absent es k f)
  taken-to es k (Some i) None f = value_in-index_of es k i f.1 f.0
  taken-to es k (Some i) (Some v) f = value_in-index_of es k i f.1 f.0

  -- the change takes away what the effect does
  pub taken-by : (es : List (K × V)) (k : K) (found : Option ℕ) (effect : Effect V) (given : Option V) →
      IsIndexOf same es k found
      → taken_from es (change_by found k effect given) ≡ taken_by effect (lookup same es k)
  taken-by es k found Keep given f = refl
  taken-by es k found Give given f = taken-to es k found given f
  taken-by es k found (Set w) given f = taken-to es k found w f

  HasIndex-change_to : (es : List (K × V)) (k : K) (found : Option ℕ) (w : Option V) → IsIndexOf same es k found →
      HasIndex es (change_to found k w)
  HasIndex-change_to es k None None f = tt
  HasIndex-change_to es k None (Some v) f = tt
  HasIndex-change_to es k (Some i) None f = f.0
  HasIndex-change_to es k (Some i) (Some v) f = f.0

  pub HasIndex-change_by : (es : List (K × V)) (k : K) (found : Option ℕ) (effect : Effect V) (given : Option V) →
      IsIndexOf same es k found
      → HasIndex es (change_by found k effect given)
  HasIndex-change_by es k found Keep given f = tt
  HasIndex-change_by es k found Give given f = HasIndex-change_to es k found given f
  HasIndex-change_by es k found (Set w) given f = HasIndex-change_to es k found w f

-- a change fits where there is room for each new key that the call may add
Fits-change_to : {K V : Type 0} (found : Option ℕ) (k : K) (w : Option V) (may : Bool) (room : ℕ)
    → (found ≡ None → may ≡ false → w ≡ None) → (found ≡ None → may ≡ true → 0 < room) → Fits room (change_to found k w)
Fits-change_to (Some i) k None may room keeps has = tt
Fits-change_to (Some i) k (Some v) may room keeps has = tt
Fits-change_to None k None may room keeps has = tt
Fits-change_to None k (Some v) true room keeps has = has refl refl
Fits-change_to None k (Some v) false room keeps has = absurd (none-some v (sym (keeps refl refl)))

pub Fits-change_by : {K V F : Type 0} (found : Option ℕ) (k : K) (op : Op V F) (e : Effect V) (given before : Option V)
    (may : Bool) (room : ℕ)
    → (e ≡ Give → given ≡ value_of op) → (found ≡ None → may ≡ false → left_by op e before ≡ None) →
    (found ≡ None → may ≡ true → 0 < room)
    → Fits room (change_by found k e given)
Fits-change_by found k op Keep given before may room is keeps has = tt
Fits-change_by found k op Give given before may room is keeps has =
    Fits-change_to found k given may room (λ none never. is refl ∙ keeps none never) has
Fits-change_by found k op (Set w) given before may room is keeps has = Fits-change_to found k w may room keeps has

-- a call that adds nothing leaves a key without a value as it is
pub after_of_none : {K V F : Type 0} (same_value : V → V → Bool) (remapped : F → K → Option V → Option V)
    (merged : F → V → V → Option V) (k : K) (op : Op V F)
    → may_add op ≡ false → after same_value remapped merged (call_on k op) None ≡ None
after_of_none same_value remapped merged k Get e = refl
after_of_none same_value remapped merged k Contains e = refl
after_of_none same_value remapped merged k (Put v) e = absurd (true≢false e)
after_of_none same_value remapped merged k (PutIfAbsent v) e = absurd (true≢false e)
after_of_none same_value remapped merged k Remove e = refl
after_of_none same_value remapped merged k (RemoveIf v) e = refl
after_of_none same_value remapped merged k (Replace v) e = refl
after_of_none same_value remapped merged k (ReplaceIf old new) e = refl
after_of_none same_value remapped merged k (ComputeIfAbsent f) e = absurd (true≢false e)
after_of_none same_value remapped merged k (ComputeIfPresent f) e = refl
after_of_none same_value remapped merged k (Compute f) e = absurd (true≢false e)
after_of_none same_value remapped merged k (Merge v f) e = absurd (true≢false e)

pub key-call_on : {K V F : Type 0} (k : K) (op : Op V F) → key_of (call_on k op) ≡ k
key-call_on k Get = refl
key-call_on k Contains = refl
key-call_on k (Put v) = refl
key-call_on k (PutIfAbsent v) = refl
key-call_on k Remove = refl
key-call_on k (RemoveIf v) = refl
key-call_on k (Replace v) = refl
key-call_on k (ReplaceIf old new) = refl
key-call_on k (ComputeIfAbsent f) = refl
key-call_on k (ComputeIfPresent f) = refl
key-call_on k (Compute f) = refl
key-call_on k (Merge v f) = refl
