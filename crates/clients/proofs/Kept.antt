-- What comes back of a map that was not closed is what there was.
use Rattle.std.proofs.Common.{◌≡◌, ◌⊎◌, inl, inr, ◌<◌, ℕ, Option, None, Some, List, length, ap, subst, ◌∙◌, arith}
use Rattle.std.proofs.Common.{IfSome, IsSomeAnd, Result, Ok, Err, IfErr}
use Rattle.count_ledger.specs.Views.{MomentView, PassView, RosterView}
use Rattle.chm.specs.Closing.{IsNotClosed, IsNotClosedFor, IsNotClosedWith, NotClosedView, NotClosedWithView}
use Rattle.chm.specs.Views.{MapView}
use Rattle.chm.specs.declared.fault.Fault.{Fault}
use Rattle.chm.specs.declared.fault.Fault.TheVariants.{NoMemory, BinMissing}
use Rattle.clients.specs.PassPools.{IsKept, UnsharedView}
use Rattle.clients.specs.Teams.{TeamView}

-- what could not be closed came back as it was, or bins were missing
abbrev pub IsBack : {T : Type 0} → Fault → Option T → T → Type 0
IsBack fault back it = ((fault ≡ BinMissing) × (back ≡ None)) ⊎ ((fault ≡ NoMemory) × IsSomeAnd back (λ b. b ≡ it))

module _ {K V F : Type 0} where
  -- no pass was missing, so either bins were, or there was no memory
  memory-or-bins : (taken : ℕ) (map : MapView K V) (passes : List (PassView K V F)) (e : NotClosedView K V F) →
      IsNotClosedFor taken map passes e → length passes ≡ taken →
      ((e.fault ≡ BinMissing) × (e.map ≡ None)) ⊎ ((e.fault ≡ NoMemory) × (e.map ≡ Some map))
  memory-or-bins taken map passes e is all = elim is.kept [
    | inl gone ↦ inl gone
    | inr there ↦ inr (
      elim is.faults [
        | inl memory ↦ memory
        | inr other ↦ elim other [
          | inl missing ↦ let fewer : length passes < taken = is.missing.0 missing in absurd (omega arith)
          | inr bins ↦ absurd (there.0 bins)
        ]
      ],
      there.1,
    )
  ]

  team-as-was : (t : TeamView K V F) (map : MapView K V) (qs passes : List (PassView K V F)) → t.map ≡ map →
      t.passes ≡ qs → qs ≡ passes → t ≡ record { map = map; passes = passes }
  team-as-was t map qs passes is one two =
      let of_map : MapView K V → TeamView K V F = λ m. record { map = m; passes = t.passes } in
      let of_passes : List (PassView K V F) → TeamView K V F = λ ps. record { map = map; passes = ps } in
      ap of_map is ∙ ap of_passes (one ∙ two)

  team-back : (map : MapView K V) (passes : List (PassView K V F)) (e : NotClosedView K V F)
      (team : Option (TeamView K V F)) → e.passes ≡ passes →
      IsSomeAnd team (λ t. (t.map ≡ map) × (t.passes ≡ e.passes)) →
      IsSomeAnd team (λ t. t ≡ record { map = map; passes = passes })
  team-back map passes e None same is = is
  team-back map passes e (Some t) same is = team-as-was t map e.passes passes is.0 is.1 same

  -- a team that could not be closed
  pub kept-team : (map : MapView K V) (passes : List (PassView K V F)) (e : NotClosedView K V F)
      (team : Option (TeamView K V F)) → IsNotClosed map passes e → length passes ≡ map.ledger.clients →
      IfSome e.map (λ m. IsSomeAnd team (λ t. (t.map ≡ m) × (t.passes ≡ e.passes))) → (e.map ≡ None → team ≡ None) →
      IsBack e.fault team (record { map = map; passes = passes })
  kept-team map passes e team is all some none = elim (memory-or-bins map.ledger.clients map passes e is all) [
    | inl gone ↦ inl (gone.0, none gone.1)
    | inr back ↦ inr (
      back.0,
      team-back map passes e team is.passes_are
          (subst (λ (o : Option (MapView K V)).
          IfSome o (λ m. IsSomeAnd team (λ t. (t.map ≡ m) × (t.passes ≡ e.passes)))) back.1 some),
    )
  ]

  unshared-as-was : (u : UnsharedView K V F) (map : MapView K V) (qs passes : List (PassView K V F))
      (s roster : RosterView) → u.map ≡ map → u.passes ≡ qs → qs ≡ passes → u.roster ≡ s → s ≡ roster →
      u ≡ record { map = map; passes = passes; roster = roster }
  unshared-as-was u map qs passes s roster is one two three four =
      let of_map : MapView K V → UnsharedView K V F = λ m. record { map = m; passes = u.passes; roster = u.roster } in
      let of_passes : List (PassView K V F) → UnsharedView K V F = λ ps.
      record { map = map; passes = ps; roster = u.roster } in
      let of_roster : RosterView → UnsharedView K V F = λ r. record { map = map; passes = passes; roster = r } in
      ap of_map is ∙ ap of_passes (one ∙ two) ∙ ap of_roster (three ∙ four)

  unshared-back : (map : MapView K V) (roster : RosterView) (passes : List (PassView K V F)) (e : NotClosedWithView K V F)
      (u : Option (UnsharedView K V F)) → e.passes ≡ passes → e.roster ≡ roster →
      IsSomeAnd u (λ u. (u.map ≡ map) × (u.passes ≡ e.passes) × (u.roster ≡ e.roster)) →
      IsSomeAnd u (λ u. u ≡ record { map = map; passes = passes; roster = roster })
  unshared-back map roster passes e None same rostered is = is
  unshared-back map roster passes e (Some u) same rostered is = unshared-as-was u map e.passes passes e.roster roster
      is.0 is.1 same is.2 rostered

  -- an unshared map that could not be closed
  pub kept-unshared : (map : MapView K V) (roster : RosterView) (known : Option (MomentView K V F))
      (passes : List (PassView K V F)) (e : NotClosedWithView K V F) (u : Option (UnsharedView K V F)) →
      IsNotClosedWith map roster known passes e → length passes ≡ roster.next →
      IfSome e.map (λ m. IsSomeAnd u (λ u. (u.map ≡ m) × (u.passes ≡ e.passes) × (u.roster ≡ e.roster))) →
      (e.map ≡ None → u ≡ None) →
      IsBack e.fault u (record { map = map; passes = passes; roster = roster })
  kept-unshared map roster known passes e u is taken some none =
      elim (memory-or-bins roster.next map passes (record { fault = e.fault; map = e.map; passes = e.passes })
      is.refused taken) [
        | inl gone ↦ inl (gone.0, none gone.1)
        | inr back ↦ inr (
          back.0,
          unshared-back map roster passes e u is.refused.passes_are is.roster_is
              (subst (λ (o : Option (MapView K V)).
              IfSome o (λ m. IsSomeAnd u (λ u. (u.map ≡ m) × (u.passes ≡ e.passes) × (u.roster ≡ e.roster)))) back.1 some),
        )
      ]

  unshared-of : (u : Option (UnsharedView K V F)) (it : UnsharedView K V F) (map : MapView K V) → it.map ≡ map →
      IsSomeAnd u (λ b. b ≡ it) → IsSomeAnd u (λ b. b.map ≡ map)
  unshared-of None it map same is = is
  unshared-of (Some b) it map same is = ap (λ (v : UnsharedView K V F). v.map) is ∙ same

  -- a map that was shared no more, and could not be closed, is what the shared map was
  pub kept-shared : {Q E : Type 0} (fault : E → Fault) (shared : E → Option (MapView K V))
      (unshared : E → Option (UnsharedView K V F)) (map : MapView K V) (it : UnsharedView K V F) (r : Result Q E) →
      it.map ≡ map → IfErr r (λ e. IsBack (fault e) (unshared e) it) → IfErr r (λ e. shared e ≡ None) →
      IfErr r (λ e. IsKept map (fault e) (shared e) (unshared e))
  kept-shared fault shared unshared map it (Ok q) same back none = tt
  kept-shared fault shared unshared map it (Err e) same back none = elim back [
    | inl gone ↦ inr (inr (gone.0, none, gone.1))
    | inr there ↦ inr (inl (there.0, none, unshared-of (unshared e) it map same there.1))
  ]
