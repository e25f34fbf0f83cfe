-- What a limiter counts.
use Rattle.std.specs.Prelude.{ℕ, ◌+◌, ◌==◌, nat_lt, if◌then◌else◌}
use Rattle.example_tour.specs.declared.limiter.Used.{Used}

-- how many requests of a user were let through in this second
abbrev pub requests_in : ℕ → Used → ℕ
requests_in second used = if used.second == second then used.requests else 0

-- a user's second after a request in this second, of which at most fifty are let through
abbrev pub asked : ℕ → Used → Used
asked second used = record {
  second = second;
  requests = if nat_lt (requests_in second used) 50 then requests_in second used + 1 else requests_in second used;
}
