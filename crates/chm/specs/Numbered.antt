-- A walk whose cursor is a number.
use Rattle.std.specs.Prelude.{◌≡◌, ℕ, ◌+◌, ◌*◌, ◌/◌, ◌%◌, ◌^◌, ◌<◌, ◌≤◌, ◌⊎◌}
use Rattle.std.specs.Prelude.{Option, Some, None, List, [], ◌∷◌, ◌++◌}
use Rattle.hashkeys.specs.Classes.{ClassView}
use Rattle.hashkeys.specs.Limits.{most_bins, most_exponent}
use Rattle.chm.specs.Cursors.{HasCome}
use Rattle.chm.specs.Visits.{VisitView}

-- the number of the end
abbrev pub end_of_walk : ℕ
end_of_walk = 18446744073709551615

-- from here on a number is of no bucket: 28 times 2^26
abbrev pub first_end : ℕ
first_end = 1879048192

-- the number of a place in a walk over a table of 2^e bins: the first hash of the class that is next, and above it e + 1;
-- or the number of the end
abbrev pub IsNumberOf : ℕ → Option ClassView → ℕ → Type 0
IsNumberOf e None number = number ≡ end_of_walk
IsNumberOf e (Some next) number = (next.index < most_bins) × (number ≡ (e + 1) * most_bins + next.index)

-- the hash at which the place of a number begins
abbrev pub hash_at : ℕ → ℕ
hash_at number = number % most_bins

-- these visits have been shown, and a walk goes on at the number: at 0 none has been shown yet, and at a number that names
-- a table the walk goes over that table
abbrev pub HasComeAt : {K V : Type 0} → ℕ → List (VisitView K V) → Type 0
HasComeAt number shown = ((number ≡ 0) × (shown ≡ []))
    ⊎ ((e : ℕ) × (next : Option ClassView) × (e ≤ most_exponent) × IsNumberOf e next number
    × HasCome (record { n = 2 ^ e; next = next }) shown)

-- the table of 2^e is the one that the number names, if it names one
abbrev pub IsOfTable : ℕ → ℕ → Type 0
IsOfTable e number = (number < most_bins) ⊎ (number / most_bins ≡ e + 1)

-- whatever the number, a step showed what comes behind all that lies before its hash, in a walk over one table; and the walk
-- goes on behind that
abbrev pub GoesOnAt : {K V : Type 0} → ℕ → VisitView K V → ℕ → Type 0
GoesOnAt {K} {V} number v then = (e : ℕ) × (e ≤ most_exponent) × IsOfTable e number
    × ((shown : List (VisitView K V)) →
    HasCome (record { n = 2 ^ e; next = Some (record { n = 2 ^ e; index = hash_at number }) }) shown →
    HasComeAt then (shown ++ v ∷ []))

-- from the first end on a number is of no bucket, and a walk is at its end
abbrev pub IsEnd : ℕ → ℕ → Type 0
IsEnd number then = (first_end ≤ number) × (then ≡ end_of_walk)
