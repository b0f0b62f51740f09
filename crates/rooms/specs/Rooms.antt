-- What room a run can need: the words of the bodies of its database, twice those that the commands of its scripts stage at most, and some
-- to spare.
use Rattle.std.specs.Prelude.{ℕ, ◌+◌, ◌*◌, List, [], ◌∷◌, length, max, min, sum_by}
use Rattle.mmsyntax.specs.declared.statement.Assertion.{Assertion}
use Rattle.mmsyntax.specs.Tables.{Contents}
use Rattle.library.specs.declared.command.Command.{Command}
use Rattle.library.specs.declared.command.Command.TheVariants.{Add, Reprove}
use Rattle.plaincells.specs.Measures.{all_bodies_length}
use Rattle.cells.specs.State.{most_words}
use Rattle.groundwork.specs.Takes.{command_words}

-- the largest of the numbers of some things; 0 where there are none
abbrev pub largest_by : {A : Type 0} → (A → ℕ) → List A → ℕ
largest_by number_of [] = 0
largest_by number_of (x ∷ xs) = max (number_of x) (largest_by number_of xs)

-- how many steps the proof of an assertion has
abbrev pub proof_steps : Assertion → ℕ
proof_steps a = length a.proof

-- how many steps the proof has that a command brings
abbrev pub brought_steps : Command → ℕ
brought_steps (Add rank a) = proof_steps a
brought_steps (Reprove label steps) = length steps
brought_steps _ = 0

-- the steps of the longest proof that a theorem can have in a run: it is one of the database, or a command of the scripts brings it
abbrev pub longest_proof : Contents → List (List (List Command)) → ℕ
longest_proof db scripts =
    max (largest_by proof_steps db.assertions) (largest_by (largest_by (largest_by brought_steps)) scripts)

-- the words that the commands of all scripts stage at most, each of them once: one that replaces citations in a proof takes as many as the
-- longest has steps
abbrev pub staged_words : ℕ → List (List (List Command)) → ℕ
staged_words longest scripts = sum_by (sum_by (sum_by (command_words (λ label. longest)))) scripts

-- how many words are left to spare
abbrev pub spare_words : ℕ
spare_words = 65536

-- what is staged counts twice, and there are words to spare, for tries that meet a conflict and stage other words then
abbrev pub needed_words : Contents → List (List (List Command)) → ℕ
needed_words db scripts = all_bodies_length db.assertions + 2 * staged_words (longest_proof db scripts) scripts + spare_words

-- the room of a run that isn't given one; a store has at most 2^24 words
abbrev pub room_for : Contents → List (List (List Command)) → ℕ
room_for db scripts = min most_words (needed_words db scripts)
