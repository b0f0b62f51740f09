-- Of the code's inside, apart from the rules: in which order the nodes of a compressed proof are put.
use Rattle.std.specs.Prelude.{◌≡◌, ◌<◌, ◌+◌, ◌*◌, ◌⊎◌, ℕ, suc, count_by, Bool, true, false, List, [], ◌∷◌, ◌++◌, length, reverse, replicate, Contains, IsTrue, Some, slice_get}
use mathlib.Core.Bool.{not}
use Rattle.sourcewriting.specs.declared.shared.Shared.{Shared}
use Rattle.sourcewriting.specs.declared.walking.Put.{Put}
use Rattle.sourcewriting.specs.declared.walking.Task.{Task}
use Rattle.sourcewriting.specs.declared.walking.NodeWalk.{NodeWalk}
use Rattle.sourcewriting.specs.Nodes.{arguments_in}
use Rattle.sourcewriting.specs.Readable.{written_then}

-- the entries that nodes which were put leave, and of each node whether it was put behind arguments
pub record Walked : Type 0 where
  pub entries : List ℕ
  pub written : List Bool

abbrev pub unwalked : ℕ → Walked
unwalked nodes = record { entries = []; written = replicate nodes false }

-- a node is put behind its arguments; if it has some, it wasn't before
pub record IsPutOnce (s : Shared) (n : ℕ) (old new : Walked) : Type 0 where
  pub there : n < length s.nodes.items
  pub front : List ℕ
  pub split : old.entries ≡ front ++ arguments_in s n
  pub first : 0 < length (arguments_in s n) → slice_get old.written n ≡ Some false
  pub left : new ≡ record { entries = front ++ n ∷ []; written = written_then (length (arguments_in s n)) n old.written }

-- a node that was put is called by its number
pub record IsPutAgain (s : Shared) (n : ℕ) (old new : Walked) : Type 0 where
  pub there : n < length s.nodes.items
  pub found : slice_get old.written n ≡ Some true
  pub left : new ≡ record old { entries = old.entries ++ n ∷ [] }

abbrev pub IsPut : Shared → ℕ → Bool → Walked → Walked → Type 0
IsPut s n false old new = IsPutOnce s n old new
IsPut s n true old new = IsPutAgain s n old new

-- nodes are put one after another
abbrev pub ArePut : Shared → List Put → Walked → Walked → Type 0
ArePut s [] old new = old ≡ new
ArePut s (p ∷ ps) old new = (mid : Walked) × IsPut s p.node p.is_again old mid × ArePut s ps mid new

-- ---- what is left to do, the next in front

-- a node is walked through, or ends: it finds its arguments on the stack, and so does the rest
abbrev pub FindFirst : Shared → Bool → ℕ → (List ℕ → Type 0) → List ℕ → Type 0
FindFirst s false n rest entries = rest (entries ++ n ∷ [])
FindFirst s true n rest entries = (front : List ℕ) × (entries ≡ front ++ arguments_in s n) × rest (front ++ n ∷ [])

abbrev pub Find : Shared → List Task → List ℕ → Type 0
Find s [] entries = Unit {0}
Find s (t ∷ ts) entries = FindFirst s t.is_end t.node (λ es. Find s ts es) entries

-- a node that ends later was opened, has arguments, and isn't put yet
pub record IsOpen (s : Shared) (written opened : List Bool) (n : ℕ) : Type 0 where
  pub unwritten : slice_get written n ≡ Some false
  pub noted : slice_get opened n ≡ Some true
  pub some : 0 < length (arguments_in s n)

-- each is in front of larger nodes that end later
abbrev pub AreTasks : Shared → List Bool → List Bool → List Task → Type 0
AreTasks s written opened [] = Unit {0}
AreTasks s written opened (t ∷ ts) =
    (t.node < length s.nodes.items) × (IsTrue t.is_end → IsOpen s written opened t.node)
    × ((u : Task) → Contains ts u → IsTrue u.is_end → t.node < u.node) × AreTasks s written opened ts

-- a node is walked through
abbrev pub visit : ℕ → Task
visit n = record { node = n; is_end = false }

-- no more than this is left to do
abbrev pub work_left : Shared → NodeWalk → ℕ
work_left s w = count_by not w.opened.items * suc (suc (length s.arguments.items)) + length w.tasks.items

-- how far a walk came, with what is left to do
pub record IsWalking (s : Shared) (puts : List Put) (opened : List Bool) (tasks : List Task) : Type 0 where
  pub state : Walked
  pub put : ArePut s puts (unwalked (length s.nodes.items)) state
  pub many : length opened ≡ length s.nodes.items
  pub find : Find s tasks state.entries
  pub are : AreTasks s state.written opened tasks
  pub begun : (n : ℕ) → slice_get opened n ≡ Some true
      → (slice_get state.written n ≡ Some true) ⊎ Contains tasks (record { node = n; is_end = true })
  pub shut : (n : ℕ) → slice_get opened n ≡ Some false → slice_get state.written n ≡ Some false

abbrev pub WalksOn : Shared → NodeWalk → Task → NodeWalk → Type 0
WalksOn s old t new =
    IsWalking s old.puts.items old.opened.items (t ∷ reverse old.tasks.items)
    → IsWalking s new.puts.items new.opened.items (reverse new.tasks.items)
