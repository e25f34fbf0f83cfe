use Rattle.std.proofs.Common.{◌≡◌, ◌∙◌, List, [], ◌∷◌, true, false, map, inl, inr, sym, refl, ap, subst}
use Rattle.clap.specs.Words.{App, HasKind, Kinds, Text, app_of, fault_of, found_of, is_simple, is_simple_and_free, kind_of}
use Rattle.clap.specs.Words.{matches_of, rows_of, takes}
use Rattle.mapcli_core.specs.CommandLine.{program, AreWhole}
use Rattle.mapcli_core.specs.Statuses.{EndsInHelp, IsRequest, is_help}
use Rattle.mapcli_core.specs.declared.fault.Fault.{Fault}
use Rattle.mapcli_core.proofs.command.read_words.Goals as goal

pub returns-in-Ok-clause-taken : goal.returns-in-Ok-clause-taken
returns-in-Ok-clause-taken c = λ taken whole.
    let line : List Text = map (λ s. s.now) c.args.line.now in
    let is : app_of c.in_ok-command.field-0 ≡ program = c.in_ok-command.ensures in
    let simple : is_simple program ≡ true = refl in
    let has = c.in-Ok.ensures.matches (ap (λ (a : App). is_simple a) is ∙ simple) in
    let rows : rows_of (found_of c.in-Ok.matches) ≡ matches_of program line =
    has.0 ∙ ap (λ (a : App). matches_of a line) is in
    c.read_matches.ensures.whole (subst AreWhole (sym rows) whole)

pub returns-in-Err-clause-taken : goal.returns-in-Err-clause-taken
returns-in-Err-clause-taken c = λ taken whole.
    let line : List Text = map (λ s. s.now) c.args.line.now in
    let is : app_of c.in_ok-command.field-0 ≡ program = c.in_ok-command.ensures in
    c.refusal.ensures.memory (c.in-Err.ensures.passes (ap (λ (a : App). takes a line) is ∙ taken))

pub returns-in-Ok-clause-asked : goal.returns-in-Ok-clause-asked
returns-in-Ok-clause-asked c = λ kind wanted asked.
    let line : List Text = map (λ s. s.now) c.args.line.now in
    let is : app_of c.in_ok-command.field-0 ≡ program = c.in_ok-command.ensures in
    let free : is_simple_and_free program ≡ true = refl in
    let kinds = c.in-Ok.ensures.kinds (ap (λ (a : App). is_simple_and_free a) is ∙ free) in
    let none : kind ∷ [] ≡ [] = sym asked ∙ ap (λ (a : App). fault_of a line) (sym is) ∙ kinds in
    absurd cc

pub returns-in-Err-clause-asked : goal.returns-in-Err-clause-asked
returns-in-Err-clause-asked c = λ kind wanted asked.
    let line : List Text = map (λ s. s.now) c.args.line.now in
    let is : app_of c.in_ok-command.field-0 ≡ program = c.in_ok-command.ensures in
    let free : is_simple_and_free program ≡ true = refl in
    let kinds = c.in-Err.ensures.kinds (ap (λ (a : App). is_simple_and_free a) is ∙ free) in
    let one : HasKind (kind ∷ []) c.in-Err.error =
    subst (λ (k : Kinds). HasKind k c.in-Err.error) (ap (λ (a : App). fault_of a line) is ∙ asked) kinds in
    elim one [
      | inl memory ↦ subst EndsInHelp (sym (c.refusal.ensures.memory memory)) tt
      | inr among ↦ elim among [
        | inl is ↦ c.refusal.ensures.asked (subst IsRequest (sym is) wanted)
        | inr none ↦ elim none [ ]
      ]
    ]

pub returns-in-Err-clause-help : goal.returns-in-Err-clause-help
returns-in-Err-clause-help c = λ asked.
    let line : List Text = map (λ s. s.now) c.args.line.now in
    let is : app_of c.in_ok-command.field-0 ≡ program = c.in_ok-command.ensures in
    let free : is_simple_and_free program ≡ true = refl in
    let kinds = c.in-Err.ensures.kinds (ap (λ (a : App). is_simple_and_free a) is ∙ free) in
    let its : HasKind (fault_of program line) c.in-Err.error =
    subst (λ (k : Kinds). HasKind k c.in-Err.error) (ap (λ (a : App). fault_of a line) is) kinds in
    elim its [
      | inl memory ↦ let none : false ≡ true =
          sym (ap (λ (f : Fault). is_help f) (c.refusal.ensures.memory memory)) ∙ asked in
          absurd cc
      | inr among ↦ (kind_of c.in-Err.error, c.refusal.ensures.help asked, among)
    ]
