-- The output text of a script and an outcome.
use Rattle.std.specs.Prelude.{◌≡◌, ℕ, ℤ, pos, ◌+◌, ◌+ℤ◌, ◌≤ℤ◌, ◌<ℤ◌, true, false, Option, Some, None, MatchOption, List}
use Rattle.std.specs.Prelude.{[], ◌∷◌, ◌++◌, length, All, Contains}
use Rattle.std.specs.Prelude.{IsPermutation, IsSortedByKey, map, codes, decimal}
use Rattle.std.specs.List.{flat_map}
use Rattle.std.specs.Ordering.{nat_cmp}
use Rattle.std.specs.Fmt.{signed_decimal}
use Rattle.std.specs.Cmp.Lexicographic.{slice_cmp}
use Rattle.bin_history.specs.declared.call.Reply.{Reply}
use Rattle.bin_history.specs.declared.call.Reply.TheVariants.{Value, Truth}
use Rattle.script.specs.Lines.{line_feed}
use Rattle.script.specs.declared.script.Query.{Query}
use Rattle.script.specs.declared.script.Query.TheVariants.{Count, ReduceSum, ReduceMax, SearchAbove, List as Listing}
use Rattle.mapcli_core.specs.Outcomes.{Outcome}

-- a line of the output
abbrev pub output_line : List ℕ → List ℕ
output_line l = l ++ line_feed ∷ []

abbrev pub option_text : Option ℤ → List ℕ
option_text None = codes "none"
option_text (Some v) = codes "some " ++ signed_decimal v

abbrev pub reply_text : Reply ℤ → List ℕ
reply_text (Value v) = option_text v
reply_text (Truth true) = codes "true"
reply_text (Truth false) = codes "false"

-- a client's line, and then those of its replies
abbrev pub client_text : ℕ → List (Reply ℤ) → List ℕ
client_text i replies = output_line (codes "client " ++ decimal i) ++ flat_map (λ r. output_line (reply_text r)) replies

-- the lines of the clients from a number on
abbrev pub clients_text : ℕ → List (List (Reply ℤ)) → List ℕ
clients_text i [] = []
clients_text i (replies ∷ rest) = client_text i replies ++ clients_text (i + 1) rest

abbrev pub sum_of : List ℤ → ℤ
sum_of [] = pos 0
sum_of (v ∷ vs) = v +ℤ sum_of vs

-- none of no values, else one of them that none exceeds
abbrev pub IsGreatest : List ℤ → Option ℤ → Type 0
IsGreatest vs best = MatchOption best (vs ≡ []) (λ v. Contains vs v × All (λ x. x ≤ℤ v) vs)

-- one of the values above a bound, or none where there is none
abbrev pub IsAbove : ℤ → List ℤ → Option ℤ → Type 0
IsAbove bound vs found = MatchOption found (All (λ x. x ≤ℤ bound) vs) (λ v. Contains vs v × (bound <ℤ v))

abbrev pub pair_text : List ℕ × ℤ → List ℕ
pair_text e = e.0 ++ codes " " ++ signed_decimal e.1

-- the lines that answer a query of a map with these pairs
abbrev pub Answers : List (List ℕ × ℤ) → Query → List ℕ → Type 0
Answers pairs Count text = text ≡ output_line (decimal (length pairs))
Answers pairs (ReduceSum t) text = text ≡ output_line (signed_decimal (sum_of (map (λ e. e.1) pairs)))
Answers pairs (ReduceMax t) text = (best : Option ℤ) × IsGreatest (map (λ e. e.1) pairs) best
    × (text ≡ output_line (option_text best))
Answers pairs (SearchAbove v t) text = (found : Option ℤ) × IsAbove v (map (λ e. e.1) pairs) found
    × (text ≡ output_line (option_text found))
Answers pairs (Listing t) text = (sorted : List (List ℕ × ℤ)) × IsPermutation pairs sorted
    × IsSortedByKey (λ e. e.0) (slice_cmp nat_cmp) sorted
    × (text ≡ flat_map (λ e. output_line (pair_text e)) sorted)

-- the lines that answer the queries, in their order
abbrev pub AnswersAll : List (List ℕ × ℤ) → List Query → List ℕ → Type 0
AnswersAll pairs [] text = text ≡ []
AnswersAll pairs (q ∷ qs) text = (first rest : List ℕ) × Answers pairs q first × AnswersAll pairs qs rest
    × (text ≡ first ++ rest)

-- the output text: the clients with their replies, and then the answers
abbrev pub IsOutput : List Query → Outcome → List ℕ → Type 0
IsOutput queries o text = (answers : List ℕ) × AnswersAll o.pairs queries answers
    × (text ≡ clients_text 0 o.replies ++ answers)
