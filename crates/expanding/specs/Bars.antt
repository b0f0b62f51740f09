-- Of the code's inside, apart from the rules: commands that a theorem may forbid, each with where such a theorem stands.
use Rattle.std.specs.Prelude.{◌≡◌, ℕ, Bool, true, false, ◌&&◌, ◌||◌, ◌==◌, nat_lt, nat_le, List, [], ◌∷◌, map, filter, filter_map, find, length, slice_get, codes}
use Rattle.std.specs.Prelude.{Option, Some, None, is_some, is_none, if◌then◌else◌}
use Rattle.std.specs.List.{list_any}
use Rattle.std.specs.Option.{option_map, option_and_then}
use Rattle.std.specs.Str.{bytes_eq}
use Rattle.std.specs.Borrow.{Bor}
use Rattle.mmtext.specs.Text.{Token}
use Rattle.mmtext.specs.declared.token.Token.{Token as CodeToken}
use Rattle.mmtext.specs.Views.{seen}
use Rattle.mmtext.specs.Words.{Word}
use Rattle.source.specs.Statements.{Proof}
use Rattle.source.specs.Scopes.{Scope, is_in}
use Rattle.source.specs.Whole.{labels_in}
use Rattle.giving.specs.Staying.{Change}
use Rattle.spreading.specs.Words.{says}
use Rattle.spreading.specs.Forms.{Part}
use Rattle.spreading.specs.Spreading.{assertion_at, cites}
use Rattle.expanding.specs.Commands.{Command, command_of}
use Rattle.expanding.specs.Barred.{delete_of, move_of, moves, is_renamed, is_deleted}
use Rattle.expanding.specs.declared.commands.Command.{Command as CodeCommand}
use Rattle.expanding.specs.declared.bars.Bar.{Bar as CodeBar}
use Rattle.expanding.specs.declared.bars.Said.{Said}

-- parts and commands of the code
abbrev pub seen_part : Bor (List CodeToken) → Part
seen_part p = map seen p.now

abbrev pub seen_command : CodeCommand → Command
seen_command c = command_of c.script (map seen c.words.now)

-- changes are looked up here for their labels alone
abbrev pub holds : List Change → Word → Bool
holds cs w = is_some (option_map (λ c. c.1) (find (λ c. bytes_eq w c.0) cs))

-- the label of the assertion that a command moves, twice
abbrev pub moved_by : Part → Option (Word × Word)
moved_by (verb ∷ label ∷ rest) = if says verb (codes "move") then Some (label.text, label.text) else None
moved_by _ = None

-- those of all commands: a label is led to itself as often as they move it
abbrev pub moved_in : List Command → List (Word × Word)
moved_in cs = filter_map (λ c. moved_by c.words) cs

-- labels that are looked up are those of whose proofs or places scripts ask for, and the words of `rename` and `delete`
pub record IsSaid (asked : List Word) (cs : List Command) (said : Said) : Type 0 where
  pub asked_for : (w : Word) → holds said.asked w ≡ is_in asked w
  pub renamed : (w : Word) → holds said.renamed w ≡ is_renamed cs w
  pub deleted : (w : Word) → holds said.deleted w ≡ is_deleted cs w

-- ---- bars

-- a command with the label of the assertion that it names; of a move, behind which place the theorem stands and up to which
pub record Bar : Type 0 where
  pub script : ℕ
  pub label : Token
  pub reach : Option (ℕ × ℕ)

abbrev pub seen_bar : CodeBar → Bar
seen_bar b = record { script = b.script; label = seen b.label; reach = b.reach }

abbrev pub bar_of_delete : Scope → List Command → ℕ → Token → Option Bar
bar_of_delete s cs n label =
    if is_renamed cs label.text then None
    else option_map (λ place. record { script = n; label = label; reach = None }) (assertion_at s label.text)

-- a command takes a label away
abbrev pub is_lost : List Command → Word → Bool
is_lost cs w = is_renamed cs w || is_deleted cs w

abbrev pub reach_between : Option ℕ → Option ℕ → Option (ℕ × ℕ)
reach_between (Some from) (Some to) = Some (from, to)
reach_between _ _ = None

abbrev pub bar_of_move : Scope → List Word → List Command → ℕ → Token → Token → Option Bar
bar_of_move s asked cs n label mark =
    if is_lost cs label.text || is_lost cs mark.text || is_in asked mark.text then None
    else option_map (λ r. record { script = n; label = label; reach = Some r })
    (reach_between (assertion_at s label.text) (assertion_at s mark.text))

abbrev pub bar_of_labels : Scope → List Word → List Command → ℕ → Option Token → Option (Token × Token) → Option Bar
bar_of_labels s asked cs n (Some label) other = bar_of_delete s cs n label
bar_of_labels s asked cs n None (Some m) = bar_of_move s asked cs n m.0 m.1
bar_of_labels s asked cs n None None = None

abbrev pub bar_of : Scope → List Word → List Command → Command → Option Bar
bar_of s asked cs c = bar_of_labels s asked cs c.script (delete_of c.words) (move_of c.words)

abbrev pub bars_of : Scope → List Word → List Command → List Command → List Bar
bars_of s asked cs some = filter_map (bar_of s asked cs) some

-- ---- theorems

abbrev pub proof_at : Scope → ℕ → Option Proof
proof_at s place = option_and_then (λ a. a.proof) (slice_get s.assertions place)

-- a proof, if there is one, names a label that passes a test
abbrev pub names_any : (Word → Bool) → Option Proof → Bool
names_any test None = false
names_any test (Some p) = list_any test (labels_in p)

abbrev pub reaches : Option (ℕ × ℕ) → ℕ → Bool
reaches None place = true
reaches (Some r) place = nat_lt r.0 place && nat_le place r.1

abbrev pub is_moved_once : List Command → Word → Bool
is_moved_once cs w = length (filter (λ c. moves w c.words) cs) == 1

-- the theorem at a place is one that forbids a command
abbrev pub bars_there : Scope → List Command → ℕ → Bar → Bool
bars_there s cs place b =
    reaches b.reach place && cites b.label.text (proof_at s place) && (is_none b.reach || is_moved_once cs b.label.text)
