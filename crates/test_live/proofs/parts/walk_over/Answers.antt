use Rattle.std.proofs.Common.{[], sym, ◌∙◌}
use Rattle.test_live.proofs.parts.walk_over.Goals as goal

pub show_part-part-requires-clause-more : goal.show_part-part-requires-clause-more
show_part-part-requires-clause-more g c = sym c.is_at_end.ensures.value ∙ c.if-is_at_end.false

pub show_part-part-requires-clause-part : goal.show_part-part-requires-clause-part
show_part-part-requires-clause-part g c = ([], tt)
