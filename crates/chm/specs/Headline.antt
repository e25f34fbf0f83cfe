-- What is promised of a map, in one reading.
--
-- There is one order of all calls of all clients, and a pass knows a front of it: what its client has seen. A call stands
-- behind all that its client had seen, and answers what a map of one thread answers to it on what all calls before it
-- left (`IsAnswered`); so does a look-up, and a walk shows each bin at such a front. A moment is a front that one client
-- hands to another. When all clients are done the map is closed, and its bins, their roles and the passes fit together
-- (`IsQuiet`). Then there is one order of all calls, with each client's calls in that client's order: a map of one
-- thread gives these answers in it, and ends as the closed map (`IsOneOrder`); and in it each call stands behind those
-- that its client had seen (`IsToldInOrder`).
--
-- `same_key` and `same_value` are `==` on keys and on values, `code` is a key's code, `remapped` and `merged` are what
-- a function computes, and `after` is the value that a call leaves at its key, by the one that it finds there.
use Rattle.std.specs.Prelude.{◌≡◌, ℕ, ◌<◌, ◌≤◌, ◌↔◌, Bool, Option, List, [], ◌∷◌, ◌++◌, length, flat_map, All}
use Rattle.std.specs.Prelude.{Result, IfOk, IfErr, IsErrOf, OnErr}
use Rattle.hashkeys.specs.Classes.{IsTableSize}
use Rattle.bin_history.specs.Calls.{key_of, after, reply}
use Rattle.bin_history.specs.Cells.{records_on, cell_after, IsCellHistory}
use Rattle.bin_history.specs.Clients.{by_client}
use Rattle.bin_history.specs.Entries.{lookup}
use Rattle.bin_history.specs.Lawful.{BinView}
use Rattle.bin_history.specs.Plain.{run, IsLegal}
use Rattle.bin_history.specs.Records.{RecordView}
use Rattle.bin_history.specs.declared.call.Call.{Call}
use Rattle.bin_history.specs.declared.call.Reply.{Reply}
use Rattle.count_ledger.specs.Fronts.{BeginsWith, IsFront}
use Rattle.count_ledger.specs.Limits.{most_calls}
use Rattle.count_ledger.specs.Settled.{AreReconciled, IsOrder}
use Rattle.count_ledger.specs.Views.{LedgerView, PassView, RoleView}
use Rattle.bin_layout.specs.BinsWithRoles.{AreBinsWithRoles, classes_of_bins}
use Rattle.bin_layout.specs.Walks.{IsWalk}
use Rattle.chm.specs.Refusals.{IsOfCall}
use Rattle.chm.specs.Sizes.{most_bins_of}
use Rattle.chm.specs.Views.{bins_of}
use Rattle.chm.specs.declared.fault.Fault.{Fault}
use Rattle.chm.specs.declared.fault.Fault.TheVariants.{PassFull}

-- == A call ==

module _ {K V F : Type 0} (same_value : V → V → Bool) (remapped : F → K → Option V → Option V) (merged : F → V → V →
    Option V) where
  -- the pass made one call more, the given one, behind a front: it left what the call makes of the value that it found,
  -- and this is its reply
  pub record IsMade (call : Call K V F) (old new : PassView K V F) (answer : Reply V)
      (front : List (RecordView K V F)) (r : RecordView K V F) : Type 0 where
    pub pass : new ≡ record old { made = old.made ++ r ∷ []; seen = front ++ r ∷ [] }
    pub call_is : r.call ≡ call
    pub client : r.client ≡ old.client
    pub ordinal : r.ordinal ≡ length old.made
    pub left : r.after ≡ after same_value remapped merged call r.before
    pub reply_is : answer ≡ reply same_value call r.before r.after

module _ {K V F : Type 0} (same_key : K → K → Bool) (same_value : V → V → Bool) (remapped : F → K →
    Option V → Option V)
    (merged : F → V → V → Option V) where
  -- the pass made the call, which found the value that all calls before it left at the key
  abbrev pub IsCalled : LedgerView K V → Call K V F → PassView K V F → PassView K V F → Reply V → Type 0
  IsCalled ledger call old new answer =
      (front : List (RecordView K V F)) × (r : RecordView K V F)
      × IsFront same_key (after same_value remapped merged) ledger old front
      × IsMade same_value remapped merged call old new answer front r
      × (r.before ≡ run same_key (lookup same_key ledger.opening) front (key_of call))

module _ {K V F : Type 0} (same_key : K → K → Bool) (same_value : V → V → Bool) (remapped : F → K →
    Option V → Option V)
    (merged : F → V → V → Option V) where
  -- the pass made the call, whose reply the answer stands for, or the call was refused
  -- and the pass is as it was: because the pass is full, or for want of memory
  pub record IsAnsweredAs {T : Type 0} (reply : T → Reply V) (ledger : LedgerView K V) (call : Call K V F)
      (old new : PassView K V F)
      (result : Result T Fault) : Type 0 where
    pub called : IfOk result (λ answer. IsCalled same_key same_value remapped merged ledger call old new
        (reply answer))
    pub refused : OnErr result (new ≡ old)
    pub full : IsErrOf result PassFull ↔ (most_calls ledger.form ledger.clients ≤ length old.made)
    pub faults : IfErr result IsOfCall

  -- the same where the answer is the reply
  abbrev pub IsAnswered : LedgerView K V → Call K V F → PassView K V F → PassView K V F →
      Result (Reply V) Fault → Type 0
  IsAnswered ledger call old new result = IsAnsweredAs (λ reply. reply) ledger call old new result

-- == A closed map ==

-- its books, how many bins it opened with, its bins in walk order and, place by place, their roles, and the passes of
-- all its clients
pub record QuietView (K V F : Type 0) : Type 0 where
  pub ledger : LedgerView K V
  pub n : ℕ
  pub bins : List (BinView K V F)
  pub roles : List (RoleView K V F)
  pub passes : List (PassView K V F)

-- the pairs of the bins, bin by bin
abbrev pub entries_of : {K V F : Type 0} → List (BinView K V F) → List (K × V)
entries_of bins = flat_map (λ b. b.entries) bins

module _ {K V F : Type 0} (same_key : K → K → Bool) (code : K → ℕ) (after : Call K V F → Option V → Option V) where
  -- all that is known of a closed map: the bins stand in walk order, every hash is of one of them, and none is of a
  -- table smaller than the opening one or wider than its form has; each is lawful and agrees with its role; and the books
  -- of the roles and of the passes of all clients agree
  pub record IsQuiet (q : QuietView K V F) : Type 0 where
    pub size : IsTableSize q.n
    pub walk : IsWalk q.n (classes_of_bins q.bins)
    pub few : All (λ b. b.class.n ≤ most_bins_of q.ledger.form) q.bins
    pub with_roles : AreBinsWithRoles same_key code after
        (bins_of (record { ledger = q.ledger; n = q.n })) q.bins q.roles
    pub books : AreReconciled code q.ledger q.passes q.roles

-- == The one order ==

module _ {K V F : Type 0} (same_key : K → K → Bool) (code : K → ℕ) (after : Call K V F → Option V → Option V) where
  -- an order, by the books, in which the calls are those of a one-thread map on the opening map, and leave the closed
  -- one; it begins with what each pass has seen
  pub record IsOneOrder (q : QuietView K V F) (calls : List (RecordView K V F)) : Type 0 where
    pub books : IsOrder code q.ledger q.passes q.roles calls
    pub legal : IsLegal same_key after (lookup same_key q.ledger.opening) calls
    pub final : (k : K) → lookup same_key (entries_of q.bins) k
        ≡ run same_key (lookup same_key q.ledger.opening) calls k

module _ {K V F : Type 0} where
  -- a call stands behind each call that its client had seen: where the pass has seen `second` behind the calls `known`,
  -- and `first` was among these, the first stands before the second in this order
  abbrev pub IsToldInOrder : List (RecordView K V F) → PassView K V F → Type 0
  IsToldInOrder calls pass = (front known : List (RecordView K V F)) (first second : RecordView K V F)
      → BeginsWith pass.seen (known ++ second ∷ []) → BeginsWith known (front ++ first ∷ [])
      → (between rest : List (RecordView K V F)) × (calls ≡ front ++ first ∷ (between ++ second ∷ rest))

module _ {K V F : Type 0} (same_key : K → K → Bool) (after : Call K V F → Option V → Option V) where
  -- all calls on one key: of each client those that it made on the key, in its order;
  -- they are calls of one cell, from the opening value of the key to its closed one
  pub record IsHistoryOfKey (q : QuietView K V F) (k : K) (rs : List (RecordView K V F)) : Type 0 where
    pub clients : All (λ r. r.client < q.ledger.clients) rs
    pub own : All (λ p. by_client p.client rs ≡ records_on same_key k p.made) q.passes
    pub legal : IsCellHistory after (lookup same_key q.ledger.opening k) rs
    pub final : lookup same_key (entries_of q.bins) k ≡ cell_after (lookup same_key q.ledger.opening k) rs
