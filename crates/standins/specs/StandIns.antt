-- Axioms that stand in for proofs. A theorem of a source whose proof is unfinished, or has more steps than a library's, is an axiom of the
-- library that is taken of it. Where a script gives it another proof, the scripts are run over a library in which it is a theorem again:
-- its proof cites an axiom that says the same, over its own hypotheses.
use Rattle.std.specs.Prelude.{ℕ, ◌+◌, ◌*◌, nat_le, Bool, ◌&&◌, List, [], ◌∷◌, ◌++◌, map, filter, filter_map, find, take, length}
use Rattle.std.specs.Prelude.{codes, Option, Some, None, if◌then◌else◌}
use Rattle.std.specs.Fmt.{decimal}
use Rattle.std.specs.List.{flat_map, range_with_len, zip}
use Rattle.std.specs.Option.{option_map}
use Rattle.std.specs.Str.{bytes_eq}
use mathlib.Core.Bool.{not}
use Rattle.mmtext.specs.Text.{Token}
use Rattle.mmtext.specs.Words.{Word}
use Rattle.mmsyntax.specs.declared.statement.Assertion.{Assertion}
use Rattle.mmsyntax.specs.declared.statement.Frame.{Frame}
use Rattle.mmsyntax.specs.declared.statement.Kind.TheVariants.{Theorem}
use Rattle.mmsyntax.specs.declared.statement.Step.{Step}
use Rattle.mmsyntax.specs.declared.statement.Step.TheVariants.{Float, Hyp, Cite}
use Rattle.mmsyntax.specs.Tables.{Tables, Contents}
use Rattle.mmframes.specs.Frames.{frame}
use Rattle.source.specs.Scopes.{Scope, is_in}
use Rattle.taking.specs.Reasons.{Choice}
use Rattle.taking.specs.Taken.{chosen_of}
use Rattle.intake.specs.declared.taken.Taken.{Taken}
use Rattle.intake.specs.Intakes.{axioms_of}
use Rattle.library.specs.Library.{highest_rank}
use Rattle.library.specs.declared.command.Command.{Command}
use Rattle.library.specs.declared.command.Command.TheVariants.{Add, Reprove, Move}

-- the commands of the transactions of scripts
abbrev pub Scripts : Type 0
Scripts = List (List (List Command))

-- ---- which theorems

-- the label in the library of the theorem to which a command gives another proof
abbrev pub reproved_by : Command → Option Word
reproved_by (Reprove label steps) = Some label
reproved_by _ = None

abbrev pub reproved : Scripts → List Word
reproved scripts = flat_map (flat_map (filter_map reproved_by)) scripts

-- the assertions of a library that was taken by a choice, in their order: their labels in the source and in the library
abbrev pub opening_labels : Scope → Choice → Contents → List (Word × Word)
opening_labels s choice db = zip (map (λ x. x.label) (chosen_of choice s)) (map (λ a. a.label) db.assertions)

-- it has it as an axiom, though it is a theorem of the source, and a script gives it another proof
abbrev pub is_leaning : Taken → Scripts → Word × Word → Bool
is_leaning t scripts p = is_in (map (λ a. a.0) (axioms_of t)) p.0 && is_in (reproved scripts) p.1

-- ---- what the axioms are called: stand-in-0, stand-in-1, .., but for words that the library or a script has

abbrev pub candidate : ℕ → Word
candidate n = codes "stand-in-" ++ decimal n

unfoldable pub most_candidates : ℕ
most_candidates = 65536

-- so many candidates that are none of these words, if there are so many
abbrev pub free_labels : List Word → ℕ → List Word
free_labels words n = take n (filter (λ w. not (is_in words w)) (map candidate (range_with_len 0 most_candidates)))

abbrev pub words_of : Contents → List (List Token) → List Word
words_of db scripts = map (λ a. a.label) db.assertions ++ flat_map (map (λ t. t.text)) scripts

-- ---- each theorem with its axiom

-- the label of a theorem in the source, and in the library as it was taken; and that of the axiom, which its proof cites
pub record StandIn : Type 0 where
  pub source : Word
  pub theorem : Word
  pub cited : Word

abbrev pub stand_in : (Word × Word) × Word → StandIn
stand_in p = record { source = p.0.0; theorem = p.0.1; cited = p.1 }

abbrev pub with_labels : List Word → List (Word × Word) → List StandIn
with_labels words ps = map stand_in (zip ps (free_labels words (length ps)))

-- those of a library that was taken of a source by a choice, where scripts have these words and these commands
abbrev pub stand_ins : Scope → Choice → Taken → List (List Token) → Scripts → List StandIn
stand_ins s choice t words scripts =
    with_labels (words_of t.database words) (filter (is_leaning t scripts) (opening_labels s choice t.database))

-- ---- the library

-- the axiom for the theorem with a label, if there is one
abbrev pub axiom_for : List StandIn → Word → Option Word
axiom_for ss w = option_map (λ x. x.cited) (find (λ x. bytes_eq w x.theorem) ss)

-- it says what the theorem says
abbrev pub axiom_as : Assertion → Option Word → List Assertion
axiom_as a None = []
axiom_as a (Some w) = record a { label = w } ∷ []

-- the mandatory hypotheses of an assertion, as steps of its own proof
abbrev pub own_steps : Frame → List Step
own_steps f = map (λ i. Float i) f.floats ++ map (λ k. Hyp k) (range_with_len 0 (length f.hyps))

-- the theorem, whose proof cites the axiom
abbrev pub leaning : Tables → Assertion → Option Word → Assertion
leaning t a None = a
leaning t a (Some w) = record a { kind = Theorem; proof = own_steps (frame t a) ++ Cite w ∷ [] }

abbrev pub axioms_in : Contents → List StandIn → List Assertion
axioms_in db ss = flat_map (λ a. axiom_as a (axiom_for ss a.label)) db.assertions

-- the axioms stand in front
abbrev pub with_stand_ins : Contents → List StandIn → Contents
with_stand_ins db ss = record db {
  assertions = axioms_in db ss ++ map (λ a. leaning db.prelude a (axiom_for ss a.label)) db.assertions;
}

-- ---- the scripts: a rank counts the axioms in front too

abbrev pub raised_rank : ℕ → ℕ → ℕ
raised_rank by rank = if nat_le (rank + by) highest_rank then rank + by else highest_rank

abbrev pub raised_command : ℕ → Command → Command
raised_command by (Add rank a) = Add (raised_rank by rank) a
raised_command by (Move label rank) = Move label (raised_rank by rank)
raised_command by c = c

abbrev pub raised : ℕ → Scripts → Scripts
raised by scripts = map (map (map (raised_command by))) scripts

-- the k-th of a library has the rank 100 * k
abbrev pub raise_by : Contents → List StandIn → ℕ
raise_by db ss = 100 * length (axioms_in db ss)
