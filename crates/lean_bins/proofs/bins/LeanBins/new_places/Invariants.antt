use Rattle.std.proofs.Common.{◌≡◌, ◌≤◌, vec_len, vec_capacity}
use Rattle.lean_bins.proofs.bins.LeanBins.new_places.Given as goal

abbrev pub invariant-loop-blank : goal.invariant-loop-blank
invariant-loop-blank g l = record { len : vec_len l.blanks ≡ l._blank; room : l.count ≤ vec_capacity l.blanks }
