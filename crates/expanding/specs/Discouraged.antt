-- Commands of scripts that do what comments of the source discourage. The program metamath asks for `/OVERRIDE` then (its `help
-- discouraged`): where the comment in front of a theorem says `(Proof modification is discouraged.)`, before it gets another proof; and
-- where that of an assertion says `(New usage is discouraged.)`, before a proof cites it that didn't. The assertion is meant, and not the
-- word: by whatever label it may be called while scripts run.
use Rattle.std.specs.Prelude.{◌≡◌, ℕ, Bool, false, ◌&&◌, ◌||◌, List, ◌∷◌, drop, filter_map, find, Option, Some, None, is_some, slice_get, if◌then◌else◌, codes}
use Rattle.std.specs.Option.{option_map, option_and_then}
use mathlib.Core.Bool.{not}
use Rattle.mmtext.specs.Text.{Token}
use Rattle.mmtext.specs.Words.{Word}
use Rattle.source.specs.Statements.{Proof}
use Rattle.source.specs.Scopes.{Scope, is_in}
use Rattle.spreading.specs.Words.{says}
use Rattle.spreading.specs.Forms.{Part, begins_with}
use Rattle.expanding.specs.Cuts.{brought}
use Rattle.spreading.specs.Spreading.{assertion_at, cites}
use Rattle.expanding.specs.Descriptions.{unit_of, label_in}
use Rattle.expanding.specs.Commands.{Command, AreCommands}
use Rattle.expanding.specs.Called.{renames, Bearers, nobody, only, AreBearers, is_borne}

-- ---- labels

-- the labels of which comments say so
pub record Remarked : Type 0 where
  pub modification : List Word
  pub usage : List Word

-- a label that an assertion has in the source
abbrev pub is_declared : Scope → Word → Bool
is_declared s w = is_some (assertion_at s w)

-- the labels of what commands add
abbrev pub added_by : Part → Option Word
added_by p = if begins_with (codes "add") p then option_map (λ t. t.text) (label_in (unit_of p)) else None

abbrev pub added : List Command → List Word
added cs = filter_map (λ c. added_by c.words) cs

-- who may have a label while the scripts run: of the assertions whose comments say so, of all of the source, and of what is added
pub record Names : Type 0 where
  pub modification : Word → Bearers
  pub usage : Word → Bearers
  pub source : Word → Bearers
  pub added : Word → Bearers

pub record AreNames (s : Scope) (r : Remarked) (cs : List Command) (n : Names) : Type 0 where
  pub modification : (w : Word) → AreBearers (renames cs) (is_in r.modification) w (n.modification w)
  pub usage : (w : Word) → AreBearers (renames cs) (is_in r.usage) w (n.usage w)
  pub source : (w : Word) → AreBearers (renames cs) (is_declared s) w (n.source w)
  pub added : (w : Word) → AreBearers (renames cs) (is_in (added cs)) w (n.added w)

-- ---- commands

-- the word of a command that does what is discouraged: the label of the theorem that gets another proof, or what is cited anew
pub data Discouraged : Type 0 where
  modifies : Token → Discouraged
  uses : Token → Discouraged

-- the label of the theorem that a command gives another proof: `reprove L ..`, `replace L OLD NEW`
abbrev pub reproved_by : Part → Option Token
reproved_by (verb ∷ label ∷ rest) = if says verb (codes "reprove") || says verb (codes "replace") then Some label else None
reproved_by _ = None

-- the words of which some say what is cited: NEW of `replace`, and else those of the proof that a command brings
abbrev pub citing_words : Part → List Token
citing_words p = if begins_with (codes "replace") p then drop 3 p else brought p

-- the theorem that gets another proof, where that is certain: the only one of the source that may have the label, which nothing may have
-- that scripts add
abbrev pub unless_added : Bearers → Bearers → Bearers
unless_added nobody b = b
unless_added _ b = nobody

abbrev pub theorem_of : Names → Option Token → Bearers
theorem_of n None = nobody
theorem_of n (Some label) = unless_added (n.added label.text) (n.source label.text)

-- that theorem cites in the source the only assertion that a word may mean, under the label that this has there
abbrev pub proof_if : Scope → Option ℕ → Option Proof
proof_if s place = option_and_then (λ n. option_and_then (λ a. a.proof) (slice_get s.assertions n)) place

abbrev pub cites_already : Scope → Bearers → Bearers → Bool
cites_already s (only by) (only a) = cites a (proof_if s (assertion_at s by))
cites_already s _ _ = false

-- a theorem may be meant whose comment says so
abbrev pub modified : Names → Option Token → Option Discouraged
modified n None = None
modified n (Some label) = if is_borne (n.modification label.text) then Some (modifies label) else None

-- a word may mean an assertion whose comment says so, and it isn't certain that it is cited already
abbrev pub is_new_usage : Scope → Names → Bearers → Token → Bool
is_new_usage s n by t = is_borne (n.usage t.text) && not (cites_already s by (n.usage t.text))

abbrev pub or_used : Option Discouraged → Option Discouraged → Option Discouraged
or_used None later = later
or_used (Some d) later = Some d

-- the first thing that a command does so
abbrev pub discouraged_in : Scope → Names → Part → Option Discouraged
discouraged_in s n p =
    or_used (modified n (reproved_by p)) (option_map uses (find (is_new_usage s n (theorem_of n (reproved_by p))) (citing_words p)))

-- what a command does first, with the number of its script, from 0
abbrev pub told_of : Scope → Names → Command → Option (ℕ × Discouraged)
told_of s n c = option_map (λ d. (c.script, d)) (discouraged_in s n c.words)

-- that of each command that does, in order
abbrev pub all_discouraged : Scope → Names → List Command → List (ℕ × Discouraged)
all_discouraged s n cs = filter_map (told_of s n) cs

-- scripts do this so: each command of theirs that does, with what it does first
pub record AreDiscouraged (s : Scope) (r : Remarked) (scripts : List (List Token)) (found : List (ℕ × Discouraged)) : Type 0 where
  pub commands : List Command
  pub are_commands : AreCommands 0 scripts commands
  pub names : Names
  pub are_names : AreNames s r commands names
  pub all : all_discouraged s names commands ≡ found
