-- The roles and bases that opening places are made of, one by one.
use Rattle.std.proofs.Common.{◌≡◌, ℕ, suc, ◌+◌, ◌-◌, ◌<◌, true, List, [], ◌∷◌, length, get_or, drop, map, All, sym, ap}
use Rattle.std.proofs.Common.{subst, refl, ◌∙◌, add-one, drop-cons}
use Rattle.std.proofs.Common.{arith, Result, Ok, Err, IfOk}
use Rattle.std.specs.List.{range_with_len}
use Rattle.std.specs.declared.vec.Vec.{Vec}
use Rattle.std.proofs.lemmas.List.{get_or-map, length-map}
use Rattle.std.proofs.lemmas.List.FromFn.{get_or-map-range_with_len, length-range_with_len}
use Rattle.hashkeys.specs.Classes.{ClassView, is_of}
use Rattle.hashkeys.specs.declared.hashing.Salt.{Salt}
use Rattle.bin_history.specs.declared.form.Form.{Form}
use Rattle.bin_history.specs.declared.form.Form.TheVariants.{Recorded, Lean}
use Rattle.count_ledger.specs.Opening.{AreOfTheirClasses, base_at, class_at, lists_of, new_role, new_roles}
use Rattle.count_ledger.specs.Views.{LedgerId, RoleView}
use Rattle.count_ledger.proofs.Openings.{range_next}
use Rattle.bin_layout.specs.Names.{form_number, form_numbered}

-- the first of what f gives from i on, and the others
pub first_of_range : {X : Type 0} (f : ℕ → X) (i n : ℕ) (x : X) (xs all : List X) → i < n →
    all ≡ map f (range_with_len i (n - i)) → all ≡ x ∷ xs
    → (x ≡ f i) × (xs ≡ map f (range_with_len (i + 1) (n - (i + 1))))
first_of_range f i n x xs all lt is split =
    let e : x ∷ xs ≡ f i ∷ map f (range_with_len (i + 1) (n - (i + 1))) =
    sym split ∙ is ∙ ap (map f) (range_next i n lt) in
    (ap (λ l. get_or l 0 x) e, ap (drop 1) e)

-- the first of a list from i on, and the others
pub first_of_rest : {X : Type 0} (whole : List X) (i : ℕ) (x : X) (xs all : List X) → i < length whole →
    all ≡ drop i whole → all ≡ x ∷ xs
    → (x ≡ get_or whole i x) × (xs ≡ drop (i + 1) whole)
first_of_rest whole i x xs all lt is split =
    let e : x ∷ xs ≡ get_or whole i x ∷ drop (suc i) whole = sym split ∙ is ∙ drop-cons whole i x lt in
    (ap (λ l. get_or l 0 x) e, ap (drop 1) e ∙ ap (λ j. drop j whole) (sym (add-one i)))

module _ {K V Z Y : Type 0} (code : K → ℕ) (salt : Salt) (bases : Vec (Vec (K × V) Z) Y)
    (own : AreOfTheirClasses code salt (lists_of bases)) (i : ℕ)
    (lt : i < length bases.items) (base : Vec (K × V) Z) (is : base ≡ get_or bases.items i base) (class : ClassView)
    (class_is : class ≡ record { n = length bases.items; index = i }) where
  pub base_items : base.items ≡ base_at (lists_of bases) i
  base_items = ap (λ (b : Vec (K × V) Z). b.items) is
      ∙ sym (get_or-map (λ (b : Vec (K × V) Z). b.items) bases.items i base [] lt)

  pub class_of_base : class ≡ class_at (lists_of bases) i
  class_of_base = class_is ∙ ap (λ (n : ℕ). record { n = n; index = i })
      (sym (length-map bases.items (λ (b : Vec (K × V) Z). b.items)))

  pub base_of_class : All (λ e. is_of code salt class e.0 ≡ true) base.items
  base_of_class =
      let some : i < length (lists_of bases) = omega (arith, length-map bases.items (λ (b : Vec (K × V) Z). b.items)) in
      subst (λ (k : ClassView). All (λ e. is_of code salt k e.0 ≡ true) base.items) (sym class_of_base)
      (subst (λ (l : List (K × V)). All (λ e. is_of code salt (class_at (lists_of bases) i) e.0 ≡ true) l)
      (sym base_items) (own i some))

  pub role_of_base : {F : Type 0} (id : LedgerId) (r : RoleView K V F) → r ≡ new_role id salt (lists_of bases) i
      → r ≡ record { ledger = r.ledger; salt = salt; class = class; opening = base.items; kept = [] }
  role_of_base {F} id r e = e ∙ (λ x. record {
    ledger = sym (ap (λ (s : RoleView K V F). s.ledger) e) x;
    salt = salt;
    class = sym class_of_base x;
    opening = sym base_items x;
    kept = [];
  })

pub form_numbered-number : (form : Form) → form_numbered (form_number form) ≡ form
form_numbered-number Recorded = refl
form_numbered-number Lean = refl

pub length-new_roles : {K V F Z Y : Type 0} (id : LedgerId) (salt : Salt) (bases : Vec (Vec (K × V) Z) Y)
    (roles : List (RoleView K V F))
    → roles ≡ new_roles id salt (lists_of bases) → length roles ≡ length bases.items
length-new_roles {K} {V} {F} {Z} {Y} id salt bases roles e =
    ap length e ∙ length-map (range_with_len 0 (length (lists_of bases))) (new_role {F = F} id salt (lists_of bases))
    ∙ length-range_with_len 0 (length (lists_of bases)) ∙ length-map bases.items (λ (b : Vec (K × V) Z). b.items)

-- the ledger of the first role
pub first_ledger : {K V F Z Y : Type 0} (ledger : LedgerId) (salt : Salt) (bases : Vec (Vec (K × V) Z) Y)
    (roles : List (RoleView K V F)) (r : RoleView K V F)
    → roles ≡ new_roles ledger salt (lists_of bases) → 0 < length bases.items → r ≡ get_or roles 0 r → r.ledger ≡ ledger
first_ledger {K} {V} {F} {Z} {Y} ledger salt bases roles r e some at =
    let f : ℕ → RoleView K V F = new_role ledger salt (lists_of bases) in
    let len : 0 < length (lists_of bases) = omega (arith, length-map bases.items (λ (b : Vec (K × V) Z). b.items)) in
    let first : get_or (map f (range_with_len 0 (length (lists_of bases)))) 0 r ≡ f 0 =
    get_or-map-range_with_len f 0 (length (lists_of bases)) 0 0 r len refl in
    ap (λ (x : RoleView K V F). x.ledger) (at ∙ ap (λ (l : List (RoleView K V F)). get_or l 0 r) e ∙ first)

pub if_ok_then : {T E : Type 0} {P Q : T → Type 0} (r : Result T E) → ((x : T) → P x → Q x) → IfOk r P → IfOk r Q
if_ok_then (Ok x) f p = f x p
if_ok_then (Err e) f p = p
