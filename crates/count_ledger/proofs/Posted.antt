-- A pass after a post.
use Rattle.std.proofs.Common.{◌≡◌, ℕ, ◌+◌, ◌/◌, ◌%◌, ◌^◌, ◌<◌, ◌≤◌, ◌==◌}
use Rattle.std.proofs.Common.{List, [], ◌∷◌, ◌++◌, length, refl, sym, ap}
use Rattle.std.proofs.Common.{subst, ◌∙◌, arith, div-le_self}
use Rattle.std.proofs.lemmas.List.{length_push}
use Rattle.std.proofs.lemmas.Bool.{eq-eqb}
use Rattle.atomic_table.specs.Table.{Me}
use Rattle.bin_history.specs.Clients.{by_client}
use Rattle.bin_history.specs.Deltas.{delta}
use Rattle.bin_history.specs.Records.{RecordView}
use Rattle.bin_history.specs.declared.form.Form.{Form}
use Rattle.bin_history.specs.declared.form.Form.TheVariants.{Recorded, Lean}
use Rattle.count_ledger.specs.declared.books.Book.{Book}
use Rattle.count_ledger.specs.declared.books.Book.TheVariants.{Pass}
use Rattle.count_ledger.specs.Limits.{most_calls}
use Rattle.count_ledger.specs.Tokens.{IsPass, made_of_pass}
use Rattle.count_ledger.specs.Words.{word_of}
use Rattle.count_ledger.proofs.Filters.{filter_push_kept}
use Rattle.count_ledger.proofs.Lanes.{summed_push}

pub most_calls_le : (form : Form) (clients : ℕ) → most_calls form clients ≤ 4611686018427387904
most_calls_le Recorded clients = omega arith
most_calls_le Lean clients = div-le_self 4611686018427387904 clients

pub IsPass-posted : {K V F : Type 0} (client calls sum more : ℕ) (me new : Me (Unit {0}) (List (Book K V F)))
    (r : RecordView K V F) (front : List (RecordView K V F))
    → IsPass client calls sum me
    → new ≡ (Pass client (made_of_pass me.0 ++ r ∷ []) (front ++ r ∷ []) ∷ [], [])
    → r.client ≡ client → by_client client front ≡ made_of_pass me.0
    → calls < 4611686018427387904 → more ≡ word_of (delta r)
    → IsPass client (calls + 1) ((sum + more) % 2 ^ 64) new
IsPass-posted {K} {V} {F} client calls sum more me new r front p is by made room more_is =
    subst (IsPass client (calls + 1) ((sum + more) % 2 ^ 64)) (sym is)
    (record {
      book = refl;
      own = filter_push_kept (λ (x : RecordView K V F). x.client == client) front r (eq-eqb _ _ by)
          ∙ ap (λ (l : List (RecordView K V F)). l ++ r ∷ []) made;
      counted = (let c = p.counted in let l = length_push (made_of_pass me.0) r in omega arith);
      at_most = omega arith;
      summed = summed_push (made_of_pass me.0) r sum more p.summed more_is;
      few = p.few;
    })
