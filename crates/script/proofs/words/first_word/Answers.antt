use Rattle.std.proofs.Common.{[], ◌∷◌, sym, ap, ◌∙◌}
use Rattle.std.specs.Option.{option_map_or}
use Rattle.script.specs.Lines.{Word, words}
use Rattle.script.proofs.Parts.{words_at}
use Rattle.script.proofs.words.first_word.Goals as goal

pub returns : goal.returns
returns c =
    words_at c.args.line.now c.split-word.result.0 c.split-word.result.1 c.split-word.ensures.before
    c.split-word.ensures.parts
    ∙ ap (λ (w : Word). w ∷ option_map_or words c.split-word.result.1 []) (sym c.bytes.ensures)
