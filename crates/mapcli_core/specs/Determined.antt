-- Scripts whose output text is determined.
use Rattle.std.specs.Prelude.{List, [], ◌∷◌}
use Rattle.script.specs.declared.script.Query.{Query}
use Rattle.script.specs.declared.script.Query.TheVariants.{Count, ReduceSum, ReduceMax, SearchAbove, List as Listing}

-- no query leaves a choice: none is a search
abbrev pub HasNoSearch : List Query → Type 0
HasNoSearch [] = Unit {0}
HasNoSearch (Count ∷ qs) = HasNoSearch qs
HasNoSearch (ReduceSum t ∷ qs) = HasNoSearch qs
HasNoSearch (ReduceMax t ∷ qs) = HasNoSearch qs
HasNoSearch (SearchAbove v t ∷ qs) = ⊥
HasNoSearch (Listing t ∷ qs) = HasNoSearch qs
