-- What the books of a pass and of the role of a bin tell of the bin.
use Rattle.std.proofs.Common.{◌≡◌, ℕ, Bool, true, Option, Decides, List, length, sym}
use Rattle.std.proofs.Common.{◌∙◌}
use Rattle.hashkeys.specs.Classes.{is_of}
use Rattle.bin_history.specs.Calls.{key_of, after}
use Rattle.bin_history.specs.Entries.{lookup, replay}
use Rattle.bin_history.specs.Lawful.{BinView, IsLawful}
use Rattle.bin_history.specs.Made.{IsMadeOn}
use Rattle.bin_history.specs.Part.{part_of_entries, part_of_records}
use Rattle.bin_history.specs.Plain.{run}
use Rattle.bin_history.specs.declared.call.Call.{Call}
use Rattle.bin_history.specs.Records.{RecordView}
use Rattle.bin_history.specs.declared.call.Reply.{Reply}
use Rattle.bin_history.proofs.Parts.{replay-part, run_of_part}
use Rattle.count_ledger.specs.Agreement.{BinAgrees}
use Rattle.count_ledger.specs.Books.{IsRoleOf}
use Rattle.count_ledger.specs.Fronts.{IsPosted}
use Rattle.count_ledger.specs.Views.{LedgerView, PassView, RoleView}
use Rattle.count_ledger.proofs.Agreements.{BinAgrees-replay, BinAgrees-map}
use Rattle.chm.specs.Headline.{IsCalled}
use Rattle.chm.specs.Histories.{IsCalledOn, IsMet}

module _ {K V F : Type 0} (same : K → K → Bool) (tells : (x y : K) → Decides (same x y) (x ≡ y)) (code : K → ℕ)
    (after : Call K V F → Option V → Option V) (b : BinView K V F) (r : RoleView K V F)
    (agree : BinAgrees same after b r) (lawful : IsLawful same code after b)
    (replayed : b.entries ≡ replay same b.base b.records) where
  -- the entries are what the role's records made of its opening pairs
  entries_by_role : b.entries ≡ replay same r.opening r.kept
  entries_by_role = (BinAgrees-replay same tells code after b r agree lawful replayed).1

  map_by_role : lookup same b.entries ≡ run same (lookup same r.opening) r.kept
  map_by_role = BinAgrees-map same tells code after b r agree lawful replayed

  module _ (ledger : LedgerView K V) (role : IsRoleOf code ledger r) (front : List (RecordView K V F))
      (kept : r.kept ≡ part_of_records (is_of code r.salt r.class) front) where
    pub IsMet-front : IsMet same code ledger front b
    IsMet-front = record {
      entries = entries_by_role
          ∙ (λ i. replay same (role.opening i) (kept i))
          ∙ replay-part same tells (is_of code r.salt r.class) ledger.opening front
          ∙ (λ i. part_of_entries (is_of code (role.salt i) (sym agree.class i)) (replay same ledger.opening front));
      same_map = λ k on.
          (λ i. map_by_role i k)
          ∙ (λ i. run same (lookup same (role.opening i)) (kept i) k)
          ∙ run_of_part same tells (is_of code r.salt r.class) ledger.opening front k
          ((λ i. is_of code (role.salt i) (sym agree.class i) k) ∙ on);
    }

module _ {K V F : Type 0} (same : K → K → Bool) (code : K → ℕ) (same_value : V → V → Bool) (remapped : F → K →
    Option V → Option V)
    (merged : F → V → V → Option V) where
  -- a call that was made on a bin and posted
  pub IsCalledOn-posted : (ledger : LedgerView K V) (call : Call K V F) (old new : PassView K V F) (answer : Reply V)
      (b c : BinView K V F) (role : RoleView K V F)
      (r : RecordView K V F) (client ordinal : ℕ) (front : List (RecordView K V F))
      → IsMadeOn same same_value remapped merged client ordinal call b c answer r → client ≡ old.client →
      ordinal ≡ length old.made
      → IsPosted same (after same_value remapped merged) code ledger old new role r front
      → IsMet same code ledger front b
      → IsCalledOn same code same_value remapped merged ledger b c call old new answer
  IsCalledOn-posted ledger call old new answer b c role r client ordinal front m by next posted met = (
    front,
    r,
    posted.front,
    record {
      pass = posted.pass;
      call_is = m.call_is;
      client = m.client_is ∙ by;
      ordinal = m.ordinal_is ∙ next;
      left = m.left;
      reply_is = m.replied;
    },
    met,
    m.found,
    m.stored,
  )

  -- the same of a bin that agreed with the role
  pub IsCalledOn-agreed : (tells : (x y : K) → Decides (same x y) (x ≡ y)) (ledger : LedgerView K V)
      (call : Call K V F) (old new : PassView K V F) (answer : Reply V) (b c : BinView K V F) (role : RoleView K V F)
      (r : RecordView K V F) (client ordinal : ℕ) (front : List (RecordView K V F))
      → BinAgrees same (after same_value remapped merged) b role
      → IsLawful same code (after same_value remapped merged) b → b.entries ≡ replay same b.base b.records
      → IsRoleOf code ledger role
      → IsMadeOn same same_value remapped merged client ordinal call b c answer r → client ≡ old.client →
      ordinal ≡ length old.made
      → IsPosted same (after same_value remapped merged) code ledger old new role r front
      → IsCalledOn same code same_value remapped merged ledger b c call old new answer
  IsCalledOn-agreed tells ledger call old new answer b c role r client ordinal front agree lawful replayed of m by
      next posted =
      IsCalledOn-posted ledger call old new answer b c role r client ordinal front m by next posted
      (IsMet-front same tells code (after same_value remapped merged) b role agree lawful replayed ledger of front
      posted.kept)

  -- such a call found what all calls before it left at the key
  pub IsCalled-met : (ledger : LedgerView K V) (call : Call K V F) (old new : PassView K V F) (answer : Reply V)
      (b c : BinView K V F)
      → IsCalledOn same code same_value remapped merged ledger b c call old new answer
      → is_of code ledger.salt b.class (key_of call) ≡ true
      → IsCalled same same_value remapped merged ledger call old new answer
  IsCalled-met ledger call old new answer b c (front, r, is_front, made, met, before, stored) on =
      (front, r, is_front, made, before ∙ met.same_map (key_of call) on)
