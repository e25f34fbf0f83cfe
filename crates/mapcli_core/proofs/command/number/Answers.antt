use Rattle.std.proofs.Common.{Option, IfSome, sym, subst}
use Rattle.std.specs.Str.Parse.{ParsesUnsigned, ExplainsUnsignedError, HasUnsignedDigitsIfOk}
use Rattle.clap.specs.Words.{Text, found_of, one_text}
use Rattle.clap.proofs.WalkLemmas.{one_text-rows}
use Rattle.mapcli_core.specs.CommandLine.{SaysNumber}
use Rattle.mapcli_core.proofs.Said.{says_number, number_read}
use Rattle.mapcli_core.proofs.command.number.Goals as goal

pub returns-clause-says : goal.returns-clause-says
returns-clause-says c =
    subst (λ (o : Option Text). IfSome c.get_one.result (SaysNumber o))
    (one_text-rows (found_of c.args.matches.now) c.args.id.now)
    (says_number 32 (λ bs r. ParsesUnsigned 32 10 bs r × ExplainsUnsignedError 10 bs r × HasUnsignedDigitsIfOk bs r)
    (λ t r g. g.0)
    (one_text (found_of c.args.matches.now) c.args.id.now) c.get_one.result c.get_one.ensures.none
    c.get_one.ensures.value)

pub returns-clause-found : goal.returns-clause-found
returns-clause-found c = λ n says fits.
    number_read 32 (λ bs r. ParsesUnsigned 32 10 bs r × ExplainsUnsignedError 10 bs r × HasUnsignedDigitsIfOk bs r)
    (λ t r g. g.0)
    (one_text (found_of c.args.matches.now) c.args.id.now) c.get_one.result n c.get_one.ensures.value
    (subst (λ (o : Option Text). SaysNumber o n)
    (sym (one_text-rows (found_of c.args.matches.now) c.args.id.now)) says) fits
