use Rattle.completers.proofs.tree.Tree.arrive.Given as goal

abbrev pub ghosts-count_down : goal.ghosts-count_down
ghosts-count_down g a = record {
  fits = g.B.Relation.relates a.words.now.key.relation.value;
  bins =
      a.words.now.key.bins;
}
