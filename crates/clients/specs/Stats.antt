-- How long a map's bins are.
use Rattle.std.specs.Prelude.{◌≡◌, ℕ, ◌<◌, ◌-◌, ◌^◌, ◌==◌, Bool, Option, List, [], ◌∷◌, length, map, max, min, sum, get_or}
use Rattle.std.specs.List.{count_by}
use Rattle.bin_history.specs.declared.call.Call.{Call}
use Rattle.count_ledger.specs.Views.{PassView}
use Rattle.chm.specs.Views.{MapView}
use Rattle.chm.specs.Visits.{VisitView}
use Rattle.clients.specs.Folds.{AreWhole}
use Rattle.clients.specs.declared.stats.Stats.{Stats}

-- the number, or the greatest of 64 bits
abbrev pub capped : ℕ → ℕ
capped n = min n (2 ^ 64 - 1)

abbrev pub greatest : List ℕ → ℕ
greatest [] = 0
greatest (n ∷ ns) = max n (greatest ns)

-- the number of bins, of entries in all, of entries in the longest, and of bins with none, one, and so on up to 7, and with 8
-- or more, of bins that have so many entries each
pub record IsStats (lengths : List ℕ) (stats : Stats) : Type 0 where
  pub buckets : stats.buckets ≡ capped (length lengths)
  pub entries : stats.entries ≡ capped (sum lengths)
  pub longest : stats.longest ≡ capped (greatest lengths)
  pub each : (k : ℕ) → k < 9 → get_or stats.lengths k 0 ≡ capped (count_by (λ n. min n 8 == k) lengths)

-- how many entries each visit shows
abbrev pub lengths_of : {K V : Type 0} → List (VisitView K V) → List ℕ
lengths_of visits = map (λ v. length v.entries) visits

module _ {K V F : Type 0} (same_key : K → K → Bool) (code : K → ℕ) (after : Call K V F → Option V → Option V) where
  -- these are of visits of a whole table
  abbrev pub ShowsStats : MapView K V → PassView K V F → PassView K V F → Stats → Type 0
  ShowsStats map old new stats = (visits : List (VisitView K V)) × AreWhole same_key code after map old new visits
      × IsStats (lengths_of visits) stats
