use Rattle.std.proofs.Common.{◌≡◌, ℕ, List, [], ◌∷◌, ◌++◌, map, codes, decimal, OnOk, OnErr, Bor, sym, ap, ap₂, ◌∙◌, subst}
use Rattle.std.proofs.Common.{append_assoc}
use Rattle.std.proofs.lemmas.List.Folds.{flat_map-map}
use Rattle.std.specs.Io.KnownBytes.{Appends}
use Rattle.std.specs.List.{flat_map}
use Rattle.script.specs.Kinds.{text_of}
use Rattle.script.specs.declared.fault.Kind.{Kind}
use Rattle.mapcli_core.specs.Devices.{AppendsFront}
use Rattle.mapcli_core.specs.Statuses.{line_of}
use Rattle.mapcli_core.specs.declared.fault.Fault.TheVariants.{ScriptFault}
use Rattle.mapcli_core.proofs.telling.write_script_fault.Goals as goal

abbrev bytes : Bor (List ℕ) → List ℕ
bytes p = p.now

abbrev pieces : List ℕ → List ℕ → List (List ℕ)
pieces number text = codes "mapcli: line " ∷ number ∷ codes ": " ∷ text ∷ codes "\n" ∷ []

-- the pieces, put together, are the line
is_line : (line : ℕ) (kind : Kind) (number text : List ℕ) (ps : List (Bor (List ℕ))) → number ≡ decimal line
    → text ≡ text_of kind → map bytes ps ≡ pieces number text → flat_map bytes ps ≡ line_of (ScriptFault line kind)
is_line line kind number text ps of_line of_kind are =
    let itself : List ℕ → List ℕ = λ t. t in
    let digits = decimal line in
    let word = text_of kind in
    let apart : digits ++ codes ": " ++ word ++ codes "\n" ≡ digits ++ (codes ": " ++ (word ++ codes "\n")) =
    append_assoc (digits ++ codes ": ") word (codes "\n") ∙ append_assoc digits (codes ": ") (word ++ codes "\n") in
    sym (flat_map-map itself bytes ps) ∙ ap (flat_map itself) (are ∙ ap₂ pieces of_line of_kind)
    ∙ ap (λ (t : List ℕ). codes "mapcli: line " ++ t) (sym apart)

pub returns-clause-ok : goal.returns-clause-ok
returns-clause-ok g c =
    let before = g.E.Output.contents c.args.errors.now in
    let after = g.E.Output.contents c.write_pieces.new.output in
    let is = is_line c.args.line c.args.kind _ _ _ c.format-number.ensures.text c.text.ensures c.five-pieces.ensures in
    subst (λ (bs : List ℕ). OnOk c.write_pieces.result (Appends before after bs)) is c.write_pieces.ensures.ok

pub returns-clause-err : goal.returns-clause-err
returns-clause-err g c =
    let before = g.E.Output.contents c.args.errors.now in
    let after = g.E.Output.contents c.write_pieces.new.output in
    let is = is_line c.args.line c.args.kind _ _ _ c.format-number.ensures.text c.text.ensures c.five-pieces.ensures in
    subst (λ (bs : List ℕ). OnErr c.write_pieces.result (AppendsFront before after bs)) is
    c.write_pieces.ensures.err
