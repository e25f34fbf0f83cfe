use Rattle.std.proofs.Common.{[], sym, ◌∙◌}
use Rattle.test_chm.proofs.live_examples.show_part.Goals as goal

pub show_part-sum-requires-clause-more : goal.show_part-sum-requires-clause-more
show_part-sum-requires-clause-more g c = sym c.is_at_end.ensures.value ∙ c.if-is_at_end.false

pub show_part-sum-requires-clause-part : goal.show_part-sum-requires-clause-part
show_part-sum-requires-clause-part g c = ([], tt)
