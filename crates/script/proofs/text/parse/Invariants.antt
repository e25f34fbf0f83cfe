use Rattle.std.proofs.Common.{◌+◌, ◌≤◌, length}
use Rattle.script.specs.Reading.{start, Verdict, HasVerdictFrom}
use Rattle.script.specs.Drafts.{section_of}
use Rattle.script.proofs.text.parse.Given as goal

-- what the text that is left is, from here, the whole text is
abbrev pub invariant-lines : goal.invariant-lines
invariant-lines g l = record {
  so_far : (v : Verdict) → HasVerdictFrom (section_of l.draft) l.number l.rest v → HasVerdictFrom start 1 l.text v;
  counted : l.number + length l.rest ≤ length l.text + 1;
}

abbrev pub decreases-lines : goal.decreases-lines
decreases-lines g l = length l.rest
