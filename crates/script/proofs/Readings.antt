-- A text has one verdict, and a script is within the limits.
use Rattle.std.proofs.Common.{◌≡◌, ◌≢◌, ℕ, ◌+◌, ◌≤◌, ◌⊎◌, inl, inr, List, [], ◌∷◌, ◌++◌, length, All, refl, sym, ap}
use Rattle.std.proofs.Common.{◌∙◌, subst, arith}
use Rattle.std.proofs.lemmas.List.Elements.{All-head, All-tail, All-nil, All-push}
use Rattle.std.proofs.lemmas.List.{length_push}
use Rattle.script.specs.Lines.{BeginsWith, words, IsPrintable, IsSpaced}
use Rattle.script.specs.Grammar.{ScriptCall, Line, Reads}
use Rattle.script.specs.Faults.{AreWrong}
use Rattle.script.specs.Reading.{Section, start, calls, queries, forms_at, IsTooMany, Leads, first_client, next_client}
use Rattle.script.specs.Reading.{next_call, first_query, next_query}
use Rattle.script.specs.Reading.{IsLine, FirstFails, IsBeyond, IsBad, Verdict, whole, faulty, HasVerdictFrom, good, bad}
use Rattle.script.specs.Reading.{cut, ended, missing}
use Rattle.script.specs.Verdicts.{IsWithinLimits}
use Rattle.script.specs.declared.fault.Kind.{Kind}
use Rattle.script.specs.declared.fault.Kind.TheVariants as kinds
use Rattle.script.proofs.Saying.{Reads-same, Reads-fits, AreWrong-same}

abbrev IsOther : ℕ → Type 0
IsOther b = b ≢ 10

-- a text has one first line
same_line : (l k more rest : List ℕ) → l ++ 10 ∷ more ≡ k ++ 10 ∷ rest → All IsOther l → All IsOther k →
    (l ≡ k) × (more ≡ rest)
same_line [] [] more rest e h g = (refl, cc)
same_line [] (y ∷ k) more rest e h g = absurd (All-head IsOther y k g (cc))
same_line (x ∷ l) [] more rest e h g = absurd (All-head IsOther x l h (cc))
same_line (x ∷ l) (y ∷ k) more rest e h g =
    let others = same_line l k more rest (cc) (All-tail IsOther x l h) (All-tail IsOther y k g) in (cc, others.1)

BeginsWith-same : (text l k more rest : List ℕ) → BeginsWith text l more → BeginsWith text k rest →
    (l ≡ k) × (more ≡ rest)
BeginsWith-same text l k more rest h g = same_line l k more rest (sym h.parts ∙ g.parts) h.no_line_feed g.no_line_feed

not_cut : (l more : List ℕ) → All IsOther (l ++ 10 ∷ more) → ⊥
not_cut [] more h = All-head IsOther 10 more h refl
not_cut (x ∷ l) more h = not_cut l more (All-tail IsOther x (l ++ 10 ∷ more) h)

BeginsWith-not_cut : (text l more : List ℕ) → BeginsWith text l more → All IsOther text → ⊥
BeginsWith-not_cut text l more h g = not_cut l more (subst (All IsOther) h.parts g)

not_empty : (l more : List ℕ) → [] ≡ l ++ 10 ∷ more → ⊥
not_empty [] more e = cc
not_empty (x ∷ l) more e = cc

BeginsWith-not_empty : (l more : List ℕ) → BeginsWith [] l more → ⊥
BeginsWith-not_empty l more h = not_empty l more h.parts

-- tests in order give one kind
FirstFails-same : (T : Type 0) (k : Kind) (rest : Kind → Type 0) → ((i j : Kind) → rest i → rest j → i ≡ j) →
    (i j : Kind) → FirstFails T k rest i
    → FirstFails T k rest j → i ≡ j
FirstFails-same T k rest same i j (inl h) (inl g) = h.1 ∙ sym g.1
FirstFails-same T k rest same i j (inl h) (inr g) = absurd (h.0 g.0)
FirstFails-same T k rest same i j (inr h) (inl g) = absurd (g.0 h.0)
FirstFails-same T k rest same i j (inr h) (inr g) = same i j h.1 g.1

misread_same : (p : Section) (l : List ℕ) (i j : Kind) → AreWrong (forms_at p) (words l) i ⊎ IsBeyond p l i →
    AreWrong (forms_at p) (words l) j ⊎ IsBeyond p l j
    → i ≡ j
misread_same p l i j (inl h) (inl g) = AreWrong-same (forms_at p) (words l) i j h g
misread_same p l i j (inl h) (inr (line, reads, full, e)) = absurd (Reads-fits (forms_at p) (words l) line i reads h)
misread_same p l i j (inr (line, reads, full, e)) (inl g) = absurd (Reads-fits (forms_at p) (words l) line j reads g)
misread_same p l i j (inr (line, reads, full, e)) (inr (other, reads', full', e')) = e ∙ sym e'

IsBad-same : (p : Section) (l : List ℕ) (i j : Kind) → IsBad p l i → IsBad p l j → i ≡ j
IsBad-same p l =
    FirstFails-same (IsPrintable l) kinds.Bytes _ (FirstFails-same (IsSpaced l) kinds.Spaces _ (misread_same p l))

-- a line that leads on is not too many, and leads to one place
Leads-fits : (p q : Section) (line : Line) → Leads p line q → IsTooMany p line → ⊥
Leads-fits _ _ _ first_client h = h
Leads-fits _ _ _ (next_client blocks block few) h = omega arith
Leads-fits _ _ _ (next_call blocks block c few) h = omega arith
Leads-fits _ _ _ (first_query blocks block) h = h
Leads-fits _ _ _ (next_query blocks asked q) h = h

Leads-same : (p q r : Section) (line : Line) → Leads p line q → Leads p line r → q ≡ r
Leads-same _ _ _ _ first_client first_client = refl
Leads-same _ _ _ _ (next_client blocks block few) (next_client _ _ g) = refl
Leads-same _ _ _ _ (next_call blocks block c few) (next_call _ _ _ g) = refl
Leads-same _ _ _ _ (first_query blocks block) (first_query _ _) = refl
Leads-same _ _ _ _ (next_query blocks asked q) (next_query _ _ _) = refl

-- a good line is not bad
IsLine-not_bad : (p q : Section) (l : List ℕ) (line : Line) (kind : Kind) → IsLine p l line → Leads p line q →
    IsBad p l kind → ⊥
IsLine-not_bad p q l line kind is leads (inl h) = h.0 is.printable
IsLine-not_bad p q l line kind is leads (inr (_, inl h)) = h.0 is.spaced
IsLine-not_bad p q l line kind is leads (inr (_, inr (_, inl h))) =
    Reads-fits (forms_at p) (words l) line kind is.reads h
IsLine-not_bad p q l line kind is leads (inr (_, inr (_, inr (other, reads, full, e)))) =
    Leads-fits p q line leads (subst (IsTooMany p) (Reads-same (forms_at p) (words l) other line reads is.reads) full)

-- what the text from a place on is, is one verdict
pub HasVerdictFrom-same : (p : Section) (n : ℕ) (text : List ℕ) (u v : Verdict) → HasVerdictFrom p n text u →
    HasVerdictFrom p n text v → u ≡ v
HasVerdictFrom-same p n text u v (good _ q _ _ l more line _ begins is leads reads)
    (good _ r _ _ k rest other _ starts says goes on) =
    let same = BeginsWith-same text l k more rest begins starts in
    let lines = Reads-same (forms_at p) (words l) line other is.reads
    (subst (λ (m : List ℕ). Reads (forms_at p) (words m) other) (sym same.0) says.reads) in
    let places = Leads-same p r q other goes (subst (λ (x : Line). Leads p x q) lines leads) in
    HasVerdictFrom-same q (n + 1) more u v reads
    (subst (λ (m : List ℕ). HasVerdictFrom q (n + 1) m v) (sym same.1)
    (subst (λ (x : Section). HasVerdictFrom x (n + 1) rest v) places on))
HasVerdictFrom-same p n text u _ (good _ q _ _ l more line _ begins is leads reads)
    (bad _ _ _ k rest kind starts worse) =
    let same = BeginsWith-same text l k more rest begins starts in
    absurd (IsLine-not_bad p q l line kind is leads (subst (λ (m : List ℕ). IsBad p m kind) (sym same.0) worse))
HasVerdictFrom-same p n text u _ (good _ q _ _ l more line _ begins is leads reads) (cut _ _ _ some none) =
    absurd (BeginsWith-not_cut text l more begins none)
HasVerdictFrom-same p n _ u _ (good _ q _ _ l more line _ begins is leads reads) (ended _ _ _) =
    absurd (BeginsWith-not_empty l more begins)
HasVerdictFrom-same p n _ u _ (good _ q _ _ l more line _ begins is leads reads) (missing _ _ _) =
    absurd (BeginsWith-not_empty l more begins)
HasVerdictFrom-same p n text _ v (bad _ _ _ k rest kind starts worse)
    (good _ q _ _ l more line _ begins is leads reads) =
    let same = BeginsWith-same text l k more rest begins starts in
    absurd (IsLine-not_bad p q l line kind is leads (subst (λ (m : List ℕ). IsBad p m kind) (sym same.0) worse))
HasVerdictFrom-same p n text _ _ (bad _ _ _ l more kind begins worse) (bad _ _ _ k rest other starts worst) =
    let same = BeginsWith-same text l k more rest begins starts in
    ap (faulty n) (IsBad-same p l kind other worse (subst (λ (m : List ℕ). IsBad p m other) (sym same.0) worst))
HasVerdictFrom-same p n text _ _ (bad _ _ _ l more kind begins worse) (cut _ _ _ some none) =
    absurd (BeginsWith-not_cut text l more begins none)
HasVerdictFrom-same p n _ _ _ (bad _ _ _ l more kind begins worse) (ended _ _ _) =
    absurd (BeginsWith-not_empty l more begins)
HasVerdictFrom-same p n _ _ _ (bad _ _ _ l more kind begins worse) (missing _ _ _) =
    absurd (BeginsWith-not_empty l more begins)
HasVerdictFrom-same p n text _ v (cut _ _ _ some none) (good _ q _ _ l more line _ begins is leads reads) =
    absurd (BeginsWith-not_cut text l more begins none)
HasVerdictFrom-same p n text _ _ (cut _ _ _ some none) (bad _ _ _ l more kind begins worse) =
    absurd (BeginsWith-not_cut text l more begins none)
HasVerdictFrom-same p n text _ _ (cut _ _ _ some none) (cut _ _ _ _ _) = refl
HasVerdictFrom-same p n _ _ _ (cut _ _ _ some none) (ended _ _ _) = absurd (some refl)
HasVerdictFrom-same p n _ _ _ (cut _ _ _ some none) (missing _ _ _) = absurd (some refl)
HasVerdictFrom-same _ n _ _ v (ended _ _ _) (good _ q _ _ l more line _ begins is leads reads) =
    absurd (BeginsWith-not_empty l more begins)
HasVerdictFrom-same _ n _ _ _ (ended _ _ _) (bad _ _ _ l more kind begins worse) =
    absurd (BeginsWith-not_empty l more begins)
HasVerdictFrom-same _ n _ _ _ (ended _ _ _) (cut _ _ _ some none) = absurd (some refl)
HasVerdictFrom-same _ n _ _ _ (ended _ _ _) (ended _ _ _) = refl
HasVerdictFrom-same _ n _ _ _ (ended blocks asked _) (missing _ _ none) = absurd (none blocks asked refl)
HasVerdictFrom-same p n _ _ v (missing _ _ none) (good _ q _ _ l more line _ begins is leads reads) =
    absurd (BeginsWith-not_empty l more begins)
HasVerdictFrom-same p n _ _ _ (missing _ _ none) (bad _ _ _ l more kind begins worse) =
    absurd (BeginsWith-not_empty l more begins)
HasVerdictFrom-same p n _ _ _ (missing _ _ none) (cut _ _ _ some _) = absurd (some refl)
HasVerdictFrom-same _ n _ _ _ (missing _ _ none) (ended blocks asked _) = absurd (none blocks asked refl)
HasVerdictFrom-same p n _ _ _ (missing _ _ none) (missing _ _ _) = refl

-- what was read before a place is within the limits
abbrev Within : Section → Type 0
Within start = Unit {0}
Within (calls blocks block) = (length blocks + 1 ≤ 32) × All (λ b. length b ≤ 1000000) blocks × (length block ≤ 1000000)
Within (queries blocks asked) = IsWithinLimits blocks

abbrev AreWithin : Verdict → Type 0
AreWithin (whole blocks asked) = IsWithinLimits blocks
AreWithin (faulty n kind) = Unit {0}

Leads-within : (p q : Section) (line : Line) → Leads p line q → Within p → Within q
Leads-within _ _ _ first_client h = (omega arith, All-nil (λ (b : List ScriptCall). length b ≤ 1000000), omega arith)
Leads-within _ _ _ (next_client blocks block few) h = (
  omega (arith, length_push blocks block),
  All-push (λ (b : List ScriptCall). length b ≤ 1000000) blocks block h.1
      h.2,
  omega arith,
)
Leads-within _ _ _ (next_call blocks block c few) h = (h.0, h.1, omega (arith, length_push block c))
Leads-within _ _ _ (first_query blocks block) h =
    record {
      some = omega (arith, length_push blocks block);
      few = omega (arith, length_push blocks block);
      short = All-push (λ (b : List ScriptCall). length b ≤ 1000000) blocks block h.1 h.2;
    }
Leads-within _ _ _ (next_query blocks asked q) h = h

pub HasVerdictFrom-within : (p : Section) (n : ℕ) (text : List ℕ) (v : Verdict) → HasVerdictFrom p n text v →
    Within p → AreWithin v
HasVerdictFrom-within p n text v (good _ q _ _ l more line _ begins is leads reads) h =
    HasVerdictFrom-within q (n + 1) more v reads (Leads-within p q line leads h)
HasVerdictFrom-within p n text _ (bad _ _ _ l more kind begins worse) h = tt
HasVerdictFrom-within p n text _ (cut _ _ _ some none) h = tt
HasVerdictFrom-within _ n _ _ (ended _ _ _) h = h
HasVerdictFrom-within p n _ _ (missing _ _ none) h = tt
