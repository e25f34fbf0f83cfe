-- In one order of all calls the books of a pass and of a role agree.
use Rattle.std.proofs.Common.{◌≡◌, ℕ, ◌==◌, Bool, List, sym, ap, ◌∙◌}
use Rattle.bin_history.specs.Calls.{key_of}
use Rattle.bin_history.specs.Part.{part_of_records}
use Rattle.bin_history.specs.Records.{RecordView}
use Rattle.bin_history.specs.Clients.{by_client}
use Rattle.count_ledger.specs.Books.{AgreeOn}
use Rattle.count_ledger.proofs.Filters.{filter_turn}

-- where a pass made, and a role kept, what is theirs of all calls, their books agree
pub agree_by : {K V F : Type 0} (passes : K → Bool) (c : ℕ) (calls made kept : List (RecordView K V F)) →
    by_client c calls ≡ made
    → part_of_records passes calls ≡ kept → AgreeOn passes c made kept
agree_by passes c calls made kept made_is kept_is = ap (by_client c) (sym kept_is) ∙ filter_turn (λ x. x.client == c)
    (λ x. passes (key_of x.call)) calls
    ∙ ap (part_of_records passes) made_is
