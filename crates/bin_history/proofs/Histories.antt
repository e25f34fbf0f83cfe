-- A bin keeps its history through each step.
use Rattle.std.proofs.Common.{◌≡◌, ℕ, Bool, Option, Decides, List, [], ◌∷◌, ◌++◌, inl, inr, refl, sym, ap, ◌∙◌, subst}
use Rattle.std.proofs.Common.{take, drop, append_assoc}
use Rattle.std.proofs.lemmas.List.{take-append-drop}
use Rattle.std.proofs.lemmas.List.Elements.{filter-append}
use Rattle.hashkeys.specs.Classes.{is_of}
use Rattle.bin_history.specs.BinPart.{IsPartOf}
use Rattle.bin_history.specs.Calls.{key_of}
use Rattle.bin_history.specs.Entries.{lookup, HasDistinctKeys, replay}
use Rattle.bin_history.specs.Histories.{HasHistory, GoesOn}
use Rattle.bin_history.specs.Lawful.{BinView}
use Rattle.bin_history.specs.Part.{part_of_map, part_of_entries, part_of_records}
use Rattle.bin_history.specs.Plain.{run, IsLegal}
use Rattle.bin_history.specs.Readiness.{KeepsOrFolds}
use Rattle.bin_history.specs.declared.call.Call.{Call}
use Rattle.bin_history.specs.Records.{RecordView}
use Rattle.bin_history.proofs.Parts.{lookup-part, replay-part, IsLegal-part, HasDistinctKeys-part}
use Rattle.bin_history.proofs.Runs.{replay-append, lookup-replay, IsLegal-append, IsLegal-front}

module _ {K V F : Type 0} (same : K → K → Bool) (tells : (x y : K) → Decides (same x y) (x ≡ y)) (code : K → ℕ)
    (after : Call K V F → Option V → Option V) where
  pub HasHistory-new : (b : BinView K V F) → HasDistinctKeys same b.base → b.records ≡ [] →
      HasHistory same after b.base [] b
  HasHistory-new b d e = ([], record { distinct = d; kept_is = sym e; legal = tt; base_is = refl })

  -- some of the stored and new records went into the base, and the others are stored
  pub HasHistory-gone_on : (opening : List (K × V)) (kept : List (RecordView K V F)) (b c : BinView K V F)
      (more : List (RecordView K V F))
      → HasHistory same after opening kept b → GoesOn same after b more c
      → HasHistory same after opening (kept ++ more) c
  HasHistory-gone_on opening kept b c more (front, h) (gone, g) =
      let base : lookup same b.base ≡ run same (lookup same opening) front = ap (lookup same) h.base_is
      ∙ lookup-replay same tells opening front h.distinct in
      let L : (K → Option V) → Type 0 = λ m. IsLegal same after m gone in (
        front ++ gone,
        record {
          distinct = h.distinct;
          kept_is = ap (λ (ks : List (RecordView K V F)). ks ++ more) h.kept_is ∙ append_assoc front b.records more
              ∙ ap (λ (rs : List (RecordView K V F)). front ++ rs) g.stored_is
              ∙ sym (append_assoc front gone c.records);
          legal = IsLegal-append same tells after (lookup same opening) front gone h.legal (subst L base g.legal);
          base_is = g.base_is ∙ ap (λ (es : List (K × V)). replay same es gone) h.base_is
              ∙ sym (replay-append same tells opening front gone);
        },
      )

  -- a bin that got a record more went on by it
  pub GoesOn-called : (b c : BinView K V F) (r : RecordView K V F) → c.base ≡ b.base → c.records ≡ b.records ++ r ∷ []
      → GoesOn same after b (r ∷ []) c
  GoesOn-called b c r base records = ([], record { stored_is = sym records; legal = tt; base_is = base })

  -- the oldest records folded, or not
  pub HasHistory-prepared : (opening : List (K × V)) (kept : List (RecordView K V F)) (b c : BinView K V F)
      → HasHistory same after opening kept b → IsLegal same after (lookup same b.base) b.records → KeepsOrFolds same b c
      → HasHistory same after opening kept c
  HasHistory-prepared opening kept b c (front, h) legal (inl k) = (
    front,
    record {
      distinct = h.distinct;
      kept_is = h.kept_is ∙ ap (λ (rs : List (RecordView K V F)). front ++ rs) (sym k.records);
      legal = h.legal;
      base_is = k.base ∙ h.base_is;
    },
  )
  HasHistory-prepared opening kept b c (front, h) legal (inr k) =
      let old = take 512 b.records in
      let whole : old ++ drop 512 b.records ≡ b.records = take-append-drop 512 b.records in
      let base : lookup same b.base ≡ run same (lookup same opening) front = ap (lookup same) h.base_is
      ∙ lookup-replay same tells opening front h.distinct in
      let L : (K → Option V) → Type 0 = λ m. IsLegal same after m old in
      let first : IsLegal same after (lookup same b.base) old =
      IsLegal-front same tells after (lookup same b.base) old (drop 512 b.records) (rw whole legal) in (
        front ++ old,
        record {
          distinct = h.distinct;
          kept_is = h.kept_is ∙ ap (λ (rs : List (RecordView K V F)). front ++ rs)
              (sym whole ∙ ap (λ (rs : List (RecordView K V F)). old ++ rs) (sym k.records))
              ∙ sym (append_assoc front old c.records);
          legal = IsLegal-append same tells after (lookup same opening) front old h.legal (subst L base first);
          base_is = k.base ∙ ap (λ (es : List (K × V)). replay same es old) h.base_is
              ∙ sym (replay-append same tells opening front old);
        },
      )

  -- the part of a bin in a class
  pub HasHistory-part : (opening : List (K × V)) (kept : List (RecordView K V F)) (b c : BinView K V F)
      → HasHistory same after opening kept b → IsPartOf code b c
      → HasHistory same after (part_of_entries (is_of code b.salt c.class) opening)
      (part_of_records (is_of code b.salt c.class) kept) c
  HasHistory-part opening kept b c (front, h) p =
      let test : K → Bool = is_of code b.salt c.class in
      let part : lookup same (part_of_entries test opening) ≡ part_of_map test (lookup same opening) =
      λ i q. lookup-part same tells test opening q i in
      let L : (K → Option V) → Type 0 = λ m. IsLegal same after m (part_of_records test front) in (
        part_of_records test front,
        record {
          distinct = HasDistinctKeys-part same tells test opening h.distinct;
          kept_is = ap (part_of_records test) h.kept_is ∙ filter-append (λ (r : RecordView K V F). test (key_of r.call))
              front b.records
              ∙ ap (λ (rs : List (RecordView K V F)). part_of_records test front ++ rs) (sym p.records);
          legal = subst L (sym part) (IsLegal-part same tells test after (lookup same opening) front h.legal);
          base_is = p.base ∙ ap (part_of_entries test) h.base_is ∙ sym (replay-part same tells test opening front);
        },
      )

  -- the kept records are legal on the opening map, and the bin's entries are their replay
  pub HasHistory-replay : (opening : List (K × V)) (kept : List (RecordView K V F)) (b : BinView K V F)
      → HasHistory same after opening kept b → IsLegal same after (lookup same b.base) b.records →
      b.entries ≡ replay same b.base b.records
      → IsLegal same after (lookup same opening) kept × (b.entries ≡ replay same opening kept)
  HasHistory-replay opening kept b (front, h) legal replayed =
      let base : lookup same b.base ≡ run same (lookup same opening) front = ap (lookup same) h.base_is
      ∙ lookup-replay same tells opening front h.distinct in
      let L : (K → Option V) → Type 0 = λ m. IsLegal same after m b.records in (
        rw h.kept_is (IsLegal-append same tells after (lookup same opening) front b.records h.legal
            (subst L base legal)),
        replayed ∙ ap (λ (es : List (K × V)). replay same es b.records) h.base_is
            ∙ sym (replay-append same tells opening front b.records)
            ∙ ap (replay same opening) (sym h.kept_is),
      )
