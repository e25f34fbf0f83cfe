-- What walks and clears tell of each class by itself.
use Rattle.std.proofs.Common.{◌≡◌, ℕ, ◌<◌, ◌≤◌, Bool, Option, Decides, List, [], ◌∷◌, All, sym, ap, subst, ◌∙◌}
use Rattle.std.proofs.lemmas.List.Elements.{All-nil, All-cons}
use Rattle.hashkeys.specs.Classes.{ClassView, covering, is_of}
use Rattle.bin_history.specs.Clients.{by_client}
use Rattle.bin_history.specs.Entries.{replay}
use Rattle.bin_history.specs.Part.{part_of_entries, part_of_records}
use Rattle.bin_history.specs.declared.call.Call.{Call}
use Rattle.bin_history.proofs.Parts.{replay-part}
use Rattle.count_ledger.specs.Fronts.{IsFront}
use Rattle.count_ledger.specs.Views.{LedgerView, PassView}
use Rattle.count_ledger.proofs.Fronts.{IsHistory-front}
use Rattle.chm.specs.ByClass.{AreOfHistory}
use Rattle.chm.specs.Cleared.{AreCleared}
use Rattle.chm.specs.Visits.{AreVisited, VisitView}
use Rattle.chm.proofs.Clearing.{IsFront-seen, kept-part, without_first}
use Rattle.chm.proofs.Visiting.{AreVisited-seen}

module _ {K V F : Type 0} (same : K → K → Bool) (tells : (x y : K) → Decides (same x y) (x ≡ y)) (code : K → ℕ)
    (after : Call K V F → Option V → Option V) (ledger : LedgerView K V) where
  -- the part of a front in a class made what the front left there; it is a history for each later pass of the client
  -- that has made no more on keys of the class
  of_front : (pass new : PassView K V F) (class : ClassView) (entries : List (K × V))
      → IsFront same after ledger pass pass.seen
      → entries ≡ part_of_entries (is_of code ledger.salt class) (replay same ledger.opening pass.seen)
      → new.client ≡ pass.client
      → part_of_records (is_of code ledger.salt class) new.made ≡ part_of_records (is_of code ledger.salt class) pass.made
      → AreOfHistory same code after ledger new class entries
  of_front pass new class entries front are client made =
      let test = is_of code ledger.salt class in
      let h = IsHistory-front same after tells code ledger pass class pass.seen front in (
        part_of_records test pass.seen,
        record {
          client = subst (λ (c : ℕ). c < ledger.clients) (sym client) h.client;
          legal = h.legal;
          clients = h.clients;
          of_class = h.of_class;
          own = (λ i. by_client (client i) (part_of_records test pass.seen)) ∙ h.own ∙ sym made;
        },
        are ∙ sym (replay-part same tells test ledger.opening pass.seen),
      )

  pub visited : (old new : PassView K V F) (vs : List (VisitView K V)) → AreVisited same code after ledger old vs new
      → All (λ v. AreOfHistory same code after ledger new v.class v.entries) vs
  visited old new [] are = All-nil (λ (v : VisitView K V). AreOfHistory same code after ledger new v.class v.entries)
  visited old new (v ∷ vs) (m, s, i, rest) =
      let more = AreVisited-seen same after ledger tells code m new vs rest in
      let front = IsFront-seen same after ledger old m s in
      All-cons (λ (w : VisitView K V). AreOfHistory same code after ledger new w.class w.entries) v vs
      (of_front m new v.class v.entries front i.entries (ap (λ (p : PassView K V F). p.client) more.pass)
      (ap (λ (p : PassView K V F). part_of_records (is_of code ledger.salt v.class) p.made) more.pass))
      (visited m new vs rest)

  client-cleared : (old new : PassView K V F) (cs : List ClassView) → AreCleared same code after ledger old cs new
      → new.client ≡ old.client
  client-cleared old new [] are = ap (λ (p : PassView K V F). p.client) are
  client-cleared old new (c ∷ cs) (m, (rs, each, of, is), e, rest) =
      client-cleared m new cs rest ∙ ap (λ (p : PassView K V F). p.client) is.pass

  pub cleared : (old new : PassView K V F) (cs : List ClassView) → ((hash : ℕ) → covering cs hash ≤ 1)
      → AreCleared same code after ledger old cs new
      → All (λ c. AreOfHistory same code after ledger new c []) cs
  cleared old new [] once are = All-nil (λ (c : ClassView). AreOfHistory same code after ledger new c [])
  cleared old new (c ∷ cs) once (m, r, e, rest) =
      All-cons (λ (d : ClassView). AreOfHistory same code after ledger new d []) c cs
      (of_front m new c [] e.front (sym e.empty) (client-cleared m new cs rest)
      (kept-part same after ledger code m new c cs once rest))
      (cleared m new cs (λ hash. without_first c cs hash (once hash)) rest)
