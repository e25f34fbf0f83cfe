-- One change of a list of entries, at a known index.
use Rattle.std.specs.Prelude.{◌≡◌, ℕ, ◌<◌, suc, zero, Bool, Option, Some, None, List, [], ◌∷◌, ◌++◌, length}
use Rattle.std.specs.List.{remove as remove_at}
use Rattle.bin_history.specs.Births.{index_of}
use Rattle.bin_history.specs.Calls.{after, reply}
use Rattle.bin_history.specs.Ops.{call_on, value_of}
use Rattle.bin_history.specs.declared.call.Reply.{Reply}
use Rattle.bin_history.specs.declared.call.Reply.TheVariants.{Value}
use Rattle.bin_history.specs.declared.effect.Answer.{Answer}
use Rattle.bin_history.specs.declared.effect.Answer.TheVariants.{Known, Taken}
use Rattle.bin_history.specs.declared.effect.Effect.{Effect}
use Rattle.bin_history.specs.declared.effect.Effect.TheVariants.{Keep, Give, Set}
use Rattle.bin_history.specs.declared.op.Op.{Op}
use Rattle.bin_history.specs.declared.work.Work.{Work}
use Rattle.bin_history.specs.declared.change.Change.{Change}
use Rattle.bin_history.specs.declared.change.Change.TheVariants.{Stay, Assign, Add, Take}

-- the value that an effect of a call leaves
abbrev pub left_by : {V F : Type 0} → Op V F → Effect V → Option V → Option V
left_by op Keep before = before
left_by op Give before = value_of op
left_by op (Set value) before = value

-- the value that an effect takes away
abbrev pub taken_by : {V : Type 0} → Effect V → Option V → Option V
taken_by Keep before = None
taken_by Give before = before
taken_by (Set value) before = before

-- the reply, by the value that is taken away
abbrev pub reply_of : {V : Type 0} → Answer V → Option V → Reply V
reply_of (Known reply) taken = reply
reply_of Taken taken = Value taken

-- what the call on a key does and answers is worked out, by the value before it
pub record IsWork {K V F : Type 0} (same_value : V → V → Bool) (remapped : F → K → Option V → Option V)
    (merged : F → V → V → Option V) (k : K) (op : Op V F)
    (before : Option V) (work : Work V) : Type 0 where
  pub effect : left_by op work.effect before ≡ after same_value remapped merged (call_on k op) before
  pub answer : reply_of work.answer (taken_by work.effect before) ≡ reply same_value (call_on k op) before
      (left_by op work.effect before)

-- the value at an index
abbrev pub value_in : {K V : Type 0} → List (K × V) → ℕ → Option V
value_in [] i = None
value_in (e ∷ es) zero = Some e.1
value_in (e ∷ es) (suc i) = value_in es i

-- the entries with another value at an index
abbrev pub assign_at : {K V : Type 0} → List (K × V) → ℕ → V → List (K × V)
assign_at [] i v = []
assign_at (e ∷ es) zero v = (e.0, v) ∷ es
assign_at (e ∷ es) (suc i) v = e ∷ assign_at es i v

abbrev pub entries_after : {K V : Type 0} → List (K × V) → Change K V → List (K × V)
entries_after es Stay = es
entries_after es (Assign i v) = assign_at es i v
entries_after es (Add k v) = es ++ (k, v) ∷ []
entries_after es (Take i) = remove_at es i

-- the value that a change takes away
abbrev pub taken_from : {K V : Type 0} → List (K × V) → Change K V → Option V
taken_from es Stay = None
taken_from es (Assign i v) = value_in es i
taken_from es (Add k v) = None
taken_from es (Take i) = value_in es i

-- its index is there
abbrev pub HasIndex : {K V : Type 0} → List (K × V) → Change K V → Type 0
HasIndex es Stay = Unit {0}
HasIndex es (Assign i v) = i < length es
HasIndex es (Add k v) = Unit {0}
HasIndex es (Take i) = i < length es

-- there is room for as many more entries as it needs
abbrev pub Fits : {K V : Type 0} → ℕ → Change K V → Type 0
Fits room Stay = Unit {0}
Fits room (Assign i v) = Unit {0}
Fits room (Add k v) = 0 < room
Fits room (Take i) = Unit {0}

-- what a search for a key found
abbrev pub IsIndexOf : {K V : Type 0} → (K → K → Bool) → List (K × V) → K → Option ℕ → Type 0
IsIndexOf same_key es k None = length es ≡ index_of same_key es k
IsIndexOf same_key es k (Some i) = (i < length es) × (i ≡ index_of same_key es k)

-- the change by which the key at an index gets this value, or none
abbrev pub change_at : {K V : Type 0} → ℕ → Option V → Change K V
change_at i None = Take i
change_at i (Some v) = Assign i v

-- the change by which the found key gets this value, or none
abbrev pub change_to : {K V : Type 0} → Option ℕ → K → Option V → Change K V
change_to None k None = Stay
change_to None k (Some v) = Add k v
change_to (Some i) k value = change_at i value

-- the change that an effect on the found key makes, where the call's value is at hand
abbrev pub change_by : {K V : Type 0} → Option ℕ → K → Effect V → Option V → Change K V
change_by found k Keep given = Stay
change_by found k Give given = change_to found k given
change_by found k (Set value) given = change_to found k value
