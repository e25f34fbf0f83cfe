-- A role that lies by.
use Rattle.std.specs.Prelude.{Option, Some, None, List, [], ◌∷◌}
use Rattle.count_ledger.specs.Views.{LedgerId, RoleView}
use Rattle.count_ledger.specs.declared.books.Book.{Book}
use Rattle.count_ledger.specs.declared.books.Book.TheVariants.{Role}

-- the role that the views of a badge show, if it has one
abbrev pub role_in : {K V F : Type 0} → LedgerId → List (List (Book K V F)) → Option (RoleView K V F)
role_in id ((Role salt class opening kept ∷ []) ∷ []) = Some (record { ledger = id; salt = salt; class = class; opening = opening; kept = kept })
role_in id _ = None
