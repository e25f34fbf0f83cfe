-- Parts that are joined one after the other.
use Rattle.std.proofs.Common.{◌≡◌, ◌⊎◌, inl, inr, List, [], ◌∷◌, ◌++◌, length, flat_map, refl, sym, ap, subst, ◌∙◌}
use Rattle.std.proofs.Common.{arith, append_assoc}
use Rattle.std.specs.List.{AllZip}
use Rattle.std.proofs.lemmas.Grind.{flat_map-append}
use Rattle.std.proofs.lemmas.List.{append-nil}
use Rattle.part_walks.specs.Joined.{HasEnd}

module _ {E T : Type 0} (reached : List E → T → Type 0) where
  -- of lists whose parts are joined some are done, and others are of the parts that are left
  pub record IsJoined (ess : List (List E)) (left : List T) (joined : T) : Type 0 where
    pub done : List (List E)
    pub todo : List (List E)
    pub whole : done ++ todo ≡ ess
    pub zip : AllZip reached todo left
    pub so_far : reached (flat_map (λ es. es) done) joined

  pub begun : (ess : List (List E)) (parts : List T) (first : T) → reached [] first → AllZip reached ess parts →
      IsJoined ess parts first
  begun ess parts first none zip = record { done = []; todo = ess; whole = refl; zip = zip; so_far = none }

  head : (todo : List (List E)) (t : T) (rest : List T) → AllZip reached todo (t ∷ rest) →
      (es : List E) × (more : List (List E)) × (todo ≡ es ∷ more) × reached es t × AllZip reached more rest
  head [] t rest zip = absurd zip
  head (es ∷ more) t rest (r, zip) = (es, more, refl, r, zip)

  pub both_reached : (ess : List (List E)) (left rest : List T) (t joined : T) → left ≡ t ∷ rest →
      IsJoined ess left joined → (es : List E) × (fs : List E) × reached es joined × reached fs t
  both_reached ess left rest t joined is i =
      let (es, more, todo_is, r, zip) = head i.todo t rest (subst (λ (ts : List T). AllZip reached i.todo ts) is i.zip) in
      (flat_map (λ es. es) i.done, es, i.so_far, r)

  pub one_more : (ess : List (List E)) (left rest : List T) (t joined more : T) → left ≡ t ∷ rest →
      ((es fs : List E) → reached es joined → reached fs t → reached (es ++ fs) more) →
      IsJoined ess left joined → IsJoined ess rest more
  one_more ess left rest t joined more is step i =
      let (es, others, todo_is, r, zip) = head i.todo t rest (subst (λ (ts : List T). AllZip reached i.todo ts) is i.zip) in
      let flat : flat_map (λ es. es) i.done ++ es ≡ flat_map (λ es. es) (i.done ++ es ∷ []) =
      sym (flat_map-append (λ (x : List E). x) i.done (es ∷ [])
      ∙ ap (λ (l : List E). flat_map (λ es. es) i.done ++ l) (append-nil es)) in
      record {
        done = i.done ++ es ∷ [];
        todo = others;
        whole = append_assoc i.done (es ∷ []) others ∙ ap (λ (l : List (List E)). i.done ++ l) (sym todo_is) ∙ i.whole;
        zip = zip;
        so_far = subst (λ (l : List E). reached l more) flat (step (flat_map (λ es. es) i.done) es i.so_far r);
      }

  none_todo : (todo : List (List E)) (left : List T) → length left ≡ 0 → AllZip reached todo left → todo ≡ []
  none_todo [] [] none zip = refl
  none_todo (es ∷ ess) [] none zip = absurd zip
  none_todo todo (t ∷ ts) none zip = absurd (omega (arith, none))

  pub all_joined : (ess : List (List E)) (left : List T) (joined : T) → length left ≡ 0 → IsJoined ess left joined →
      reached (flat_map (λ es. es) ess) joined
  all_joined ess left joined none i =
      let no = none_todo i.todo left none i.zip in
      let is : i.done ≡ ess = sym (append-nil i.done) ∙ ap (λ (l : List (List E)). i.done ++ l) (sym no) ∙ i.whole in
      subst (λ (l : List (List E)). reached (flat_map (λ es. es) l) joined) is i.so_far

module _ {T : Type 0} (ends : T → Type 0) where
  pub ended_more : (left rest : List T) (t joined more : T) → left ≡ t ∷ rest → (ends joined → ends more) →
      (ends t → ends more) → HasEnd ends left ⊎ ends joined → HasEnd ends rest ⊎ ends more
  ended_more left rest t joined more is from to (inr e) = inr (from e)
  ended_more left rest t joined more is from to (inl h) =
      let either : ends t ⊎ HasEnd ends rest = subst (λ (ts : List T). HasEnd ends ts) is h in
      elim either [ inl e ↦ inr (to e) | inr r ↦ inl r ]

  pub ended_all : (left : List T) (joined : T) → length left ≡ 0 → HasEnd ends left ⊎ ends joined → ends joined
  ended_all left joined none (inr e) = e
  ended_all [] joined none (inl h) = absurd h
  ended_all (t ∷ ts) joined none (inl h) = absurd (omega (arith, none))
