-- Which assertions are chosen, and for what reason a theorem among them is taken as an axiom.
use Rattle.std.specs.Prelude.{◌≡◌, ℕ, Bool, List, [], ◌∷◌, ◌++◌, map, Option, Some, None, if◌then◌else◌, ◌&&◌, nat_lt}
use mathlib.Core.Bool.{not}
use Rattle.std.specs.List.{list_any}
use Rattle.std.specs.Borrow.{Bor}
use Rattle.std.specs.Str.{bytes_eq}
use Rattle.mmtext.specs.Words.{Word}
use Rattle.source.specs.Statements.{Proof}
use Rattle.source.specs.Scopes.{Assertion, Scope, is_in}
use Rattle.source.specs.Proofs.{Tree, Trees, node, none, some, denoted, size, is_unfinished}
use Rattle.taking.specs.declared.reason.Reason.{Reason}
use Rattle.taking.specs.declared.reason.Reason.TheVariants.{Unfinished, TooLong, InFront, CitesUnchosen, LongExpression}
use Rattle.mmsyntax.specs.declared.limits.TheConstants.{MOST_STEPS}

-- what is taken of a source: the labels of its assertions, those of them that stand in front of the choice, and those in whose proofs an
-- expression is too long
pub record Choice : Type 0 where
  pub chosen : List Word
  pub front : List Word
  pub long : List Word

-- ---- what a tree cites

abbrev mutual
  -- the labels of a tree
  pub labels_cited : Tree → List Word
  labels_cited (node w trees) = w ∷ labels_cited_by_each trees

  pub labels_cited_by_each : Trees → List Word
  labels_cited_by_each none = []
  labels_cited_by_each (some t ts) = labels_cited t ++ labels_cited_by_each ts

-- an assertion that isn't chosen has the label
abbrev pub is_left_out : List Assertion → List Word → Word → Bool
is_left_out earlier chosen w = list_any (λ a. bytes_eq w a.label) earlier && not (is_in chosen w)

abbrev pub cites_left_out : List Assertion → List Word → Tree → Bool
cites_left_out earlier chosen tree = list_any (is_left_out earlier chosen) (labels_cited tree)

-- ---- reasons, the first that holds: unfinished, too long, in front of the choice, citing what isn't chosen, with too long an expression

-- a listing has 16,384 steps at most (a rule of the profile)
abbrev pub reason_of_tree : Choice → List Assertion → Word → Tree → Option Reason
reason_of_tree choice earlier label tree =
    if nat_lt MOST_STEPS (size tree) then Some TooLong else (
    if is_in choice.front label then Some InFront else (
    if cites_left_out earlier choice.chosen tree then Some CitesUnchosen else (
    if is_in choice.long label then Some LongExpression else None)))

-- a finished proof denotes a tree in each source
abbrev pub reason_of_finished : Choice → List Assertion → Word → Option Tree → Option Reason
reason_of_finished choice earlier label None = None
reason_of_finished choice earlier label (Some tree) = reason_of_tree choice earlier label tree

-- why an assertion is taken as an axiom, if it has a proof
abbrev pub reason_of : Choice → List Assertion → Assertion → Option Proof → Option Reason
reason_of choice earlier x None = None
reason_of choice earlier x (Some proof) =
    if is_unfinished proof then Some Unfinished else reason_of_finished choice earlier x.label (denoted earlier x)

abbrev pub reason : Choice → List Assertion → Assertion → Option Reason
reason choice earlier x = reason_of choice earlier x x.proof

-- ---- what a proof needs: the labels of its tree, unless its theorem is taken as an axiom for what it is
abbrev pub needed_by_tree : Option Tree → List Word
needed_by_tree None = []
needed_by_tree (Some tree) = if nat_lt MOST_STEPS (size tree) then [] else labels_cited tree

abbrev pub needed_by : List Assertion → Assertion → Option Proof → List Word
needed_by earlier x None = []
needed_by earlier x (Some proof) = if is_unfinished proof then [] else needed_by_tree (denoted earlier x)

abbrev pub needed : List Assertion → Assertion → List Word
needed earlier x = needed_by earlier x x.proof

-- flags say of each assertion whether it is chosen, whether it stands in front of the choice, and whether an expression of its proof is
-- too long
pub record AreFlags (s : Scope) (choice : Choice) (chosen front long : List Bool) : Type 0 where
  pub chosen_are : map (λ x. is_in choice.chosen x.label) s.assertions ≡ chosen
  pub front_are : map (λ x. is_in choice.front x.label) s.assertions ≡ front
  pub long_are : map (λ x. is_in choice.long x.label) s.assertions ≡ long

-- ---- labels with reasons, as code tells them

abbrev pub told_in : List (Bor (List ℕ) × Reason) → List (Word × Reason)
told_in ps = map (λ p. (p.0.now, p.1)) ps
