-- What one more line comes to.
use Rattle.std.proofs.Common.{◌≡◌, ◌≢◌, ℕ, ◌+◌, ◌≤◌, ◌==◌, true, false, inr, List, [], ◌∷◌, ◌++◌, length, Vec, map, All}
use Rattle.std.proofs.Common.{refl, sym, ap, ◌∙◌, subst, arith}
use Rattle.std.proofs.Common.{length-append}
use Rattle.std.proofs.lemmas.Bool.Decides.{nat_tests}
use Rattle.std.proofs.lemmas.List.{map-append}
use Rattle.script.specs.Lines.{Word, BeginsWith, words}
use Rattle.script.specs.Grammar.{ScriptCall, Line, Reads}
use Rattle.script.specs.Reading.{Section, start, calls, queries, forms_at, Leads, IsLine, Verdict, whole, faulty}
use Rattle.script.specs.Reading.{HasVerdictFrom, good, bad, cut, ended}
use Rattle.script.specs.Reading.{missing}
use Rattle.script.specs.Verdicts.{HasVerdict, IsJust, IsTold}
use Rattle.script.specs.Drafts.{section_of, IsRefused, IsMisread, IsRefusedAtLimit, error_at}
use Rattle.script.specs.declared.draft.Draft.{Draft}
use Rattle.script.specs.declared.draft.Draft.TheVariants as drafts
use Rattle.script.specs.declared.script.Query.{Query}
use Rattle.script.specs.declared.fault.Kind.TheVariants as kinds
use Rattle.script.specs.declared.fault.LineError.{LineError}
use Rattle.script.specs.declared.fault.LineError.TheVariants.{NoMemory, Bad}
use Rattle.script.proofs.Readings.{HasVerdictFrom-same}
use Rattle.script.proofs.Written.{Reads-printable, Reads-spaced}

-- the words of a line that were read
module _ (p : Section) (l : List ℕ) (ws : List Word) (words_are : words l ≡ ws) where
  pub Reads-words : (line : Line) → Reads (forms_at p) ws line → Reads (forms_at p) (words l) line
  Reads-words line reads = subst (λ (vs : List Word). Reads (forms_at p) vs line) (sym words_are) reads

  pub IsMisread-at_limit : (line : Line) (e : LineError) → Reads (forms_at p) ws line → IsRefusedAtLimit p line e →
      IsMisread p l e
  IsMisread-at_limit line NoMemory reads h = tt
  IsMisread-at_limit line (Bad kind) reads h = inr (line, Reads-words line reads, h.0, h.1)

pub IsLine-from_reads : (p : Section) (l : List ℕ) (line : Line) → Reads (forms_at p) (words l) line → IsLine p l line
IsLine-from_reads p l line reads =
    record { printable = Reads-printable p l line reads; spaced = Reads-spaced p l line reads; reads = reads }

-- one more block
pub blocks_pushed : {X A : Type 0} (old new : List (Vec X A)) (b : Vec X A) → new ≡ old ++ b ∷ []
    → map (λ v. v.items) new ≡ map (λ v. v.items) old ++ b.items ∷ []
blocks_pushed {X} {A} old new b e = ap (map (λ (v : Vec X A). v.items)) e
    ∙ map-append (λ (v : Vec X A). v.items) old (b ∷ [])

-- a place that is spelled otherwise
pub Leads-to_calls : (p : Section) (line : Line) (bs cs : List (List ScriptCall)) (b c : List ScriptCall) → cs ≡ bs →
    c ≡ b → Leads p line (calls bs b)
    → Leads p line (calls cs c)
Leads-to_calls p line bs cs b c e d h = subst (λ (q : Section). Leads p line q) (λ i. calls (sym e i) (sym d i)) h

pub Leads-to_queries : (p : Section) (line : Line) (bs cs : List (List ScriptCall)) (qs rs : List Query) → cs ≡ bs →
    rs ≡ qs → Leads p line (queries bs qs)
    → Leads p line (queries cs rs)
Leads-to_queries p line bs cs qs rs e d h = subst (λ (q : Section). Leads p line q) (λ i. queries (sym e i) (sym d i)) h

-- what follows a line is shorter
pub BeginsWith-shorter : (text l more : List ℕ) → BeginsWith text l more → length more + 1 ≤ length text
BeginsWith-shorter text l more h = omega (arith, simp length-append at (ap length h.parts))

pub some_left : (xs : List ℕ) → (length xs == 0) ≡ false → xs ≢ []
some_left [] h e = cc
some_left (x ∷ xs) h e = cc

pub none_left : (xs : List ℕ) → (length xs == 0) ≡ true → xs ≡ []
none_left [] h = refl
none_left (x ∷ xs) h = absurd (grind (arith, nat_tests))

-- what holds of a text holds of it alone
pub IsJust-from : (text : List ℕ) (v : Verdict) → HasVerdict text v → IsJust text v
IsJust-from text v h = record { holds = h; only = λ u g. HasVerdictFrom-same start 1 text u v g h }

module _ {A : Type 0} (text : List ℕ) (d : Draft A) (n : ℕ) (rest : List ℕ)
    (so_far : (v : Verdict) → HasVerdictFrom (section_of d) n rest v → HasVerdict text v) where
  -- after a good line
  pub so_far-more : (next : Draft A) (l more : List ℕ) (line : Line) → BeginsWith rest l more →
      IsLine (section_of d) l line
      → Leads (section_of d) line (section_of next) → (v : Verdict) → HasVerdictFrom (section_of next) (n + 1) more v →
      HasVerdict text v
  so_far-more next l more line begins is leads v h =
      so_far v (good (section_of d) (section_of next) n rest l more line v begins is leads h)

  -- at a bad line
  pub told-bad : (l more : List ℕ) (e : LineError) → BeginsWith rest l more → IsRefused (section_of d) l e →
      IsTold text (error_at n e)
  told-bad l more NoMemory begins h = tt
  told-bad l more (Bad kind) begins h =
      IsJust-from text (faulty n kind) (so_far (faulty n kind) (bad (section_of d) n rest l more kind begins h))

  -- at a line that is not ended
  pub told-cut : rest ≢ [] → All (λ b. b ≢ 10) rest → IsJust text (faulty n kinds.Cut)
  told-cut some none =
      IsJust-from text (faulty n kinds.Cut) (so_far (faulty n kinds.Cut) (cut (section_of d) n rest some none))

  -- at the end of a text that is no script
  pub told-missing : rest ≡ [] →
      ((blocks : List (List ScriptCall)) (asked : List Query) → section_of d ≢ queries blocks asked)
      → IsJust text (faulty n kinds.Missing)
  told-missing e none =
      let here = subst (λ (r : List ℕ). HasVerdictFrom (section_of d) n r (faulty n kinds.Missing)) (sym e)
      (missing (section_of d) n none) in
      IsJust-from text (faulty n kinds.Missing) (so_far (faulty n kinds.Missing) here)

  -- at the end of a script
  pub told-whole : (blocks : List (List ScriptCall)) (asked : List Query) → rest ≡ [] →
      section_of d ≡ queries blocks asked → IsJust text (whole blocks asked)
  told-whole blocks asked e at =
      let here = subst (λ (r : List ℕ). HasVerdictFrom (queries blocks asked) n r (whole blocks asked)) (sym e)
      (ended blocks asked n) in
      let there = subst (λ (p : Section). HasVerdictFrom p n rest (whole blocks asked)) (sym at) here in
      IsJust-from text (whole blocks asked) (so_far (whole blocks asked) there)

-- places that are not among the queries
module _ {A : Type 0} (d : Draft A) where
  pub not_queries-start : d ≡ drafts.Start → (blocks : List (List ScriptCall)) (asked : List Query) →
      section_of d ≢ queries blocks asked
  not_queries-start e blocks asked at = cc

  pub not_queries-calls : (bs : _) (b : _) → d ≡ drafts.Calls bs b →
      (blocks : List (List ScriptCall)) (asked : List Query)
      → section_of d ≢ queries blocks asked
  not_queries-calls bs b e blocks asked at = cc
