-- What a list of rights says. A token's rights begin with its own right: a supply's and a node's go on with nodes that
-- are not opened.
use Rattle.std.specs.Prelude.{◌≡◌, ◌⊎◌, ℕ, zero, suc, ◌+◌, ◌*◌, ◌/◌, ◌<◌, List, [], ◌∷◌, take, drop, length}
use Rattle.completers.specs.declared.rule.Above.{Above}
use Rattle.completers.specs.declared.rule.Right.{Right}
use Rattle.completers.specs.declared.rule.Right.TheVariants.{Unopened, Opened, Waits, Fills, Counted}

-- to open n nodes, from the node m on
abbrev pub nodes : ℕ → ℕ → List Right
nodes m zero = []
nodes m (suc n) = Unopened m ∷ nodes (m + 1) n

abbrev pub head : List Right → List Right
head [] = []
head (r ∷ rs) = r ∷ []

abbrev pub tail : List Right → List Right
tail [] = []
tail (r ∷ rs) = rs

abbrev pub lower_half : List Right → List Right
lower_half rs = take (length rs / 2) rs

abbrev pub upper_half : List Right → List Right
upper_half rs = drop (length rs / 2) rs

-- what stands in a node's second word for the ticket above it: 0 for none
abbrev pub code : List Right → ℕ
code [] = 0
code (Unopened n ∷ rs) = 0
code (Opened n lo hi k up ∷ rs) = 0
code (Waits n i lo hi f up ∷ rs) = 8 * n + i + 1
code (Fills n i lo hi f c up ∷ rs) = 0
code (Counted n i ∷ rs) = 0

-- a ticket, and then those above it: what stands above a node that is opened with it
abbrev pub path_of : List Right → List Above
path_of [] = []
path_of (Unopened n ∷ rs) = []
path_of (Opened n lo hi k up ∷ rs) = []
path_of (Waits n i lo hi f up ∷ rs) = record { node = n; number = i; lo = lo; hi = hi; forks = f } ∷ up
path_of (Fills n i lo hi f c up ∷ rs) = []
path_of (Counted n i ∷ rs) = []

-- the ticket above is for the node's range. Only the root, of the whole range, has none
abbrev pub IsTicketAbove : ℕ → ℕ → ℕ → List Right → Type 0
IsTicketAbove bins lo top above = ((above ≡ []) × (lo ≡ 0) × (top ≡ bins))
    ⊎ ((n : ℕ) × (i : ℕ) × (f : ℕ) × (up : List Above) × (i < 8) × (above ≡ Waits n i lo top f up ∷ []))

-- the node that the first right is of
abbrev pub node_in : List Right → ℕ
node_in [] = 0
node_in (Unopened n ∷ rs) = n
node_in (Opened n lo hi k up ∷ rs) = n
node_in (Waits n i lo hi f up ∷ rs) = n
node_in (Fills n i lo hi f c up ∷ rs) = n
node_in (Counted n i ∷ rs) = n

-- the number of its ticket
abbrev pub ticket_in : List Right → ℕ
ticket_in [] = 0
ticket_in (Unopened n ∷ rs) = 0
ticket_in (Opened n lo hi k up ∷ rs) = 0
ticket_in (Waits n i lo hi f up ∷ rs) = i
ticket_in (Fills n i lo hi f c up ∷ rs) = i
ticket_in (Counted n i ∷ rs) = i

-- how many tickets its open node has
abbrev pub tickets_in : List Right → ℕ
tickets_in [] = 0
tickets_in (Unopened n ∷ rs) = 0
tickets_in (Opened n lo hi k up ∷ rs) = k
tickets_in (Waits n i lo hi f up ∷ rs) = 0
tickets_in (Fills n i lo hi f c up ∷ rs) = 0
tickets_in (Counted n i ∷ rs) = 0

-- how many forks its node has, which an own ticket knows
abbrev pub forks_in : List Right → ℕ
forks_in [] = 0
forks_in (Unopened n ∷ rs) = 0
forks_in (Opened n lo hi k up ∷ rs) = 0
forks_in (Waits n i lo hi f up ∷ rs) = f
forks_in (Fills n i lo hi f c up ∷ rs) = f
forks_in (Counted n i ∷ rs) = 0

-- the code that it has read
abbrev pub code_in : List Right → ℕ
code_in [] = 0
code_in (Unopened n ∷ rs) = 0
code_in (Opened n lo hi k up ∷ rs) = 0
code_in (Waits n i lo hi f up ∷ rs) = 0
code_in (Fills n i lo hi f c up ∷ rs) = c
code_in (Counted n i ∷ rs) = 0

-- the tickets above its node
abbrev pub up_in : List Right → List Above
up_in [] = []
up_in (Unopened n ∷ rs) = []
up_in (Opened n lo hi k up ∷ rs) = up
up_in (Waits n i lo hi f up ∷ rs) = up
up_in (Fills n i lo hi f c up ∷ rs) = up
up_in (Counted n i ∷ rs) = []
