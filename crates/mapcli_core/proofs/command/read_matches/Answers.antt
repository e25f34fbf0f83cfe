use Rattle.std.proofs.Common.{◌≡◌, ◌∙◌, None, Some, codes, ap, sym, subst}
use Rattle.clap.specs.Words.{found_of, one_of, rows_of}
use Rattle.clap.proofs.WalkLemmas.{first_value-rows}
use Rattle.mapcli_core.specs.Options.{OptionsView}
use Rattle.mapcli_core.specs.CommandLine.{SaysNumber}
use Rattle.mapcli_core.proofs.command.read_matches.Goals as goal

pub returns-in_ok-from_str-in-Ok-clause-said : goal.returns-in_ok-from_str-in-Ok-clause-said
returns-in_ok-from_str-in-Ok-clause-said c =
    let rows = rows_of (found_of c.args.matches.now) in
    let options = c.in-Ok.ensures.options in
    record {
      workers = subst (SaysNumber (one_of (codes "workers") rows)) (sym (ap (λ (o : OptionsView). o.workers) options))
          c.in-Some.ensures.says;
      capacity = subst (SaysNumber (one_of (codes "capacity") rows))
          (sym (ap (λ (o : OptionsView). o.capacity) options)) c.in-Some-number.ensures.says;
      salt = subst (SaysNumber (one_of (codes "salt") rows)) (sym (ap (λ (o : OptionsView). o.salt.0) options))
          c.in-Some-number-2.ensures.says;
      file = sym (first_value-rows (found_of c.args.matches.now) (codes "FILE")) ∙ sym c.in-Some-get_str.ensures
          ∙ ap Some (sym c.in_ok-from_str-in-Ok.ensures.ok);
    }

pub returns-in_default-get_str-clause-whole : goal.returns-in_default-get_str-clause-whole
returns-in_default-get_str-clause-whole c = λ whole.
    let none : None ≡ Some whole.path = c.in_default-get_str.ensures
    ∙ first_value-rows (found_of c.args.matches.now) (codes "FILE") ∙ whole.read.file in
    absurd cc
