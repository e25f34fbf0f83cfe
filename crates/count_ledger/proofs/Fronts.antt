-- Fronts of the one order of all calls.
use Rattle.std.proofs.Common.{◌≡◌, Bool, Option, Decides, List, [], ◌∷◌, ◌++◌, sym, ap, ◌∙◌}
use Rattle.std.proofs.Common.{append_assoc, ℕ, ◌<◌, ◌==◌, All, subst, arith}
use Rattle.std.proofs.lemmas.Bool.{eq-eqb}
use Rattle.std.proofs.lemmas.List.Elements.{All-filter, All-push, filter-append, filter_passes}
use Rattle.hashkeys.specs.Classes.{ClassView, is_of}
use Rattle.std.proofs.lemmas.List.{append-nil, append_cancel_left}
use Rattle.bin_history.specs.Calls.{key_of}
use Rattle.bin_history.specs.Cells.{records_on}
use Rattle.bin_history.specs.Clients.{by_client}
use Rattle.bin_history.specs.Entries.{lookup}
use Rattle.bin_history.specs.Part.{part_of_records}
use Rattle.bin_history.specs.Plain.{run, IsLegal, IsLegalStep}
use Rattle.bin_history.specs.Records.{RecordView}
use Rattle.bin_history.specs.declared.call.Call.{Call}
use Rattle.bin_history.proofs.Cells.{IsLegal-cell}
use Rattle.bin_history.proofs.Parts.{lookup-part, IsLegal-part}
use Rattle.bin_history.proofs.Runs.{IsLegal-append}
use Rattle.count_ledger.specs.Fronts.{BeginsWith, IsFront, IsHistory, IsHistoryOn}
use Rattle.count_ledger.specs.Rule.{IsSoundPass, ledger_of}
use Rattle.count_ledger.specs.Terms.{TermsView, opening_of}
use Rattle.count_ledger.specs.Views.{LedgerId, LedgerView, PassView}
use Rattle.count_ledger.proofs.Filters.{filter_push_kept, filter_turn}

pub BeginsWith-all : {X : Type 0} (xs : List X) → BeginsWith xs xs
BeginsWith-all xs = ([], sym (append-nil xs))

pub BeginsWith-push : {X : Type 0} (xs front : List X) (x : X) → BeginsWith xs front → BeginsWith (xs ++ x ∷ []) front
BeginsWith-push {X} xs front x (rest, is) = (
  rest ++ x ∷ [],
  ap (λ (l : List X). l ++ x ∷ []) is ∙ append_assoc front rest (x ∷ []),
)

pub BeginsWith-more : {X : Type 0} (xs ys zs : List X) → BeginsWith xs ys → BeginsWith ys zs → BeginsWith xs zs
BeginsWith-more {X} xs ys zs (more, is) (rest, its) = (
  rest ++ more,
  is ∙ ap (λ (l : List X). l ++ more) its ∙ append_assoc zs rest more,
)

module _ {K V F : Type 0} (same : K → K → Bool) (after : Call K V F → Option V → Option V) where
  -- all calls so far are a front, for each pass
  pub IsFront-sound : (id : LedgerId) (t : TermsView K V) (calls : List (RecordView K V F))
      (p : PassView K V F) → IsSoundPass t calls p.client p.made p.seen
      → IsLegal same after (lookup same (opening_of t)) calls → All (λ r. r.client < t.clients) calls
      → IsFront same after (ledger_of id t) p calls
  IsFront-sound id t calls p s legal clients = record {
    client = s.client;
    seen = s.front;
    own = s.made_is;
    legal = legal;
    clients = clients;
  }

  -- whoever made a call behind a front has seen a front with its call
  pub IsFront-called : (tells : (x y : K) → Decides (same x y) (x ≡ y)) (ledger : LedgerView K V)
      (old new : PassView K V F) (r : RecordView K V F) (front : List (RecordView K V F))
      → IsFront same after ledger old front → r.client ≡ old.client
      → IsLegalStep same after (run same (lookup same ledger.opening) front) r
      → new ≡ record old { made = old.made ++ r ∷ []; seen = front ++ r ∷ [] }
      → IsFront same after ledger new new.seen
  IsFront-called tells ledger old new r front f by step is =
      subst (λ (p : PassView K V F). IsFront same after ledger p p.seen) (sym is) (record {
        client = f.client;
        seen = BeginsWith-all (front ++ r ∷ []);
        own = filter_push_kept (λ x. x.client == old.client) front r (eq-eqb _ _ by)
            ∙ ap (λ (l : List (RecordView K V F)). l ++ r ∷ []) f.own;
        legal = IsLegal-append same tells after (lookup same ledger.opening) front (r ∷ []) f.legal (step, tt);
        clients = All-push (λ (x : RecordView K V F). x.client < ledger.clients) front r f.clients
            (let low = f.client in omega arith);
      })

  -- the part of a front in a class
  pub IsHistory-front : (tells : (x y : K) → Decides (same x y) (x ≡ y)) (code : K → ℕ) (ledger : LedgerView K V)
      (pass : PassView K V F) (class : ClassView) (front : List (RecordView K V F))
      → IsFront same after ledger pass front
      → IsHistory same after code ledger pass class (part_of_records (is_of code ledger.salt class) front)
  IsHistory-front tells code ledger pass class front f =
      let test = is_of code ledger.salt class in
      let on : RecordView K V F → Bool = λ x. test (key_of x.call) in
      record {
        client = f.client;
        legal = subst (λ (m : K → Option V). IsLegal same after m (part_of_records test front))
            (λ i q. sym (lookup-part same tells test ledger.opening q) i)
            (IsLegal-part same tells test after (lookup same ledger.opening) front f.legal);
        clients = All-filter on (λ (x : RecordView K V F). x.client < ledger.clients) front f.clients;
        of_class = filter_passes on front;
        own = filter_turn (λ (x : RecordView K V F). x.client == pass.client) on front
            ∙ ap (part_of_records test) f.own;
      }

  -- the calls of a front on one key
  pub IsHistoryOn-front : (tells : (x y : K) → Decides (same x y) (x ≡ y)) (ledger : LedgerView K V)
      (pass : PassView K V F) (front : List (RecordView K V F)) (key : K)
      → IsFront same after ledger pass front
      → IsHistoryOn same after ledger pass key (records_on same key front)
  IsHistoryOn-front tells ledger pass front key f =
      let on : RecordView K V F → Bool = λ x. same (key_of x.call) key in
      record {
        client = f.client;
        legal = IsLegal-cell same tells after (lookup same ledger.opening) front key f.legal;
        clients = All-filter on (λ (x : RecordView K V F). x.client < ledger.clients) front f.clients;
        own = filter_turn (λ (x : RecordView K V F). x.client == pass.client) on front ∙ ap (records_on same key) f.own;
      }

  -- what a front has behind all that a client had seen is by others
  pub others_behind : (ledger : LedgerView K V) (pass : PassView K V F) (front rest : List (RecordView K V F))
      → IsFront same after ledger pass front → by_client pass.client pass.seen ≡ pass.made → front ≡ pass.seen ++ rest
      → by_client pass.client rest ≡ []
  others_behind ledger pass front rest f own is =
      append_cancel_left pass.made (by_client pass.client rest) []
      (ap (λ (l : List (RecordView K V F)). l ++ by_client pass.client rest) (sym own)
      ∙ sym (filter-append (λ (x : RecordView K V F). x.client == pass.client) pass.seen rest)
      ∙ ap (by_client pass.client) (sym is) ∙ f.own ∙ sym (append-nil pass.made))
