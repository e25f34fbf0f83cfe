use Rattle.std.proofs.Common.{ap, true, false}
use Rattle.bin_history.specs.declared.call.Reply.TheVariants.{Value}
use Rattle.sets.proofs.Answers.{stands_for}
use Rattle.sets.specs.Sets.{no_value, same_value, value_unless}
use Rattle.sets.proofs.set_client.SetClient.insert.Goals as goal

pub returns-in-Ok-None-clause-answered : goal.returns-in-Ok-None-clause-answered
returns-in-Ok-None-clause-answered g c =
    stands_for g.K.PartialEq.eq same_value no_value no_value (λ v. Value v) (λ new. Value (value_unless new)) _ _ _ _
    c.in-Ok-None.field-0 true (ap (λ v. Value v) c.in-Ok-None.field-0-is) c.in-Ok-None.ensures.answered

pub returns-in-Ok-Some-clause-answered : goal.returns-in-Ok-Some-clause-answered
returns-in-Ok-Some-clause-answered g c =
    stands_for g.K.PartialEq.eq same_value no_value no_value (λ v. Value v) (λ new. Value (value_unless new)) _ _ _ _
    c.in-Ok-Some.field-0 false (ap (λ v. Value v) c.in-Ok-Some.field-0-is) c.in-Ok-Some.ensures.answered
