-- What clients have seen before and after an operation.
use Rattle.std.proofs.Common.{◌≡◌, List, [], ◌∷◌, length, refl, subst, sym, ◌∙◌, arith}
use Rattle.std.specs.List.{AllZip}
use Rattle.count_ledger.specs.Fronts.{HasSeenMore}
use Rattle.count_ledger.specs.Views.{PassView}
use Rattle.count_ledger.proofs.Fronts.{BeginsWith-all}
use Rattle.chm.specs.Shares.{AreSameClients}
use Rattle.chm.proofs.Visiting.{HasSeenMore-more}

-- one operation after another
pub seen-later : {K V F : Type 0} (olds mids news : List (PassView K V F)) → AllZip HasSeenMore olds mids →
    AllZip HasSeenMore mids news → AllZip HasSeenMore olds news
seen-later [] [] [] a b = tt
seen-later [] [] (new ∷ news) a b = absurd b
seen-later [] (mid ∷ mids) news a b = absurd a
seen-later (old ∷ olds) [] news a b = absurd a
seen-later (old ∷ olds) (mid ∷ mids) [] a b = absurd b
seen-later (old ∷ olds) (mid ∷ mids) (new ∷ news) (first, others) (then, rest) =
    (HasSeenMore-more old mid new first then, seen-later olds mids news others rest)

pub clients-later : {K V F : Type 0} (olds mids news : List (PassView K V F)) → length mids ≡ length olds →
    AreSameClients olds mids → AreSameClients mids news → AreSameClients olds news
clients-later olds mids news len a b = λ i p lt. b i p (omega arith) ∙ a i p lt

-- passes that are as they were
none-seen : {K V F : Type 0} (olds : List (PassView K V F)) → AllZip HasSeenMore olds olds
none-seen [] = tt
none-seen (old ∷ olds) = (record { seen = BeginsWith-all old.seen; pass = refl }, none-seen olds)

pub seen-as-before : {K V F : Type 0} (olds news : List (PassView K V F)) → news ≡ olds → AllZip HasSeenMore olds news
seen-as-before {K} {V} {F} olds news is =
    subst (λ (ps : List (PassView K V F)). AllZip HasSeenMore olds ps) (sym is) (none-seen olds)

-- no pass after a first step, so there was none before it
pub none-later : {X : Type 0} (old mid : List X) → length mid ≡ length old → mid ≡ [] → old ≡ []
none-later [] mid len none = refl
none-later (x ∷ old) [] len none = absurd cc
none-later (x ∷ old) (y ∷ mid) len none = absurd cc
