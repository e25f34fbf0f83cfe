-- The calls that a pass made, one further.
use Rattle.std.proofs.Common.{◌≡◌, ℕ, ℤ, ◌+◌, ◌++◌, List, [], ◌∷◌, length, refl, sym, ap, ◌∙◌, arith}
use Rattle.std.proofs.lemmas.List.{map-append, length_push}
use Rattle.std.specs.List.{zip}
use Rattle.bin_history.specs.declared.call.Reply.{Reply}
use Rattle.script.specs.Grammar.{ScriptCall}
use Rattle.mapcli_core.specs.Outcomes.{call_and_reply}
use Rattle.mapcli_core.specs.Played.{ScriptRecord, HasMade}

zip-push : {X Y : Type 0} (xs : List X) (ys : List Y) (x : X) (y : Y) → length ys ≡ length xs →
    zip (xs ++ x ∷ []) (ys ++ y ∷ []) ≡ zip xs ys ++ (x, y) ∷ []
zip-push [] [] x y e = refl
zip-push [] (z ∷ ys) x y e = absurd (omega arith)
zip-push (w ∷ xs) [] x y e = absurd (omega arith)
zip-push (w ∷ xs) (z ∷ ys) x y e = ap (λ (l : List (_ × _)). (w, z) ∷ l) (zip-push xs ys x y (omega arith))

pub HasMade-push : (calls : List ScriptCall) (replies : List (Reply ℤ)) (made : List ScriptRecord) (call : ScriptCall)
    (reply : Reply ℤ) (r : ScriptRecord)
    → HasMade calls replies made → call_and_reply r ≡ (call, reply) →
    HasMade (calls ++ call ∷ []) (replies ++ reply ∷ []) (made ++ r ∷ [])
HasMade-push calls replies made call reply r (records, answered) tells = (
  map-append call_and_reply made (r ∷ [])
      ∙ ap (λ (l : List (ScriptCall × Reply ℤ)). l ++ call_and_reply r ∷ []) records
      ∙ ap (λ (m : ScriptCall × Reply ℤ). zip calls replies ++ m ∷ []) tells
      ∙ sym (zip-push calls replies call reply answered),
  length_push replies reply ∙ ap (λ (n : ℕ). n + 1) answered ∙ sym (length_push calls call),
)
