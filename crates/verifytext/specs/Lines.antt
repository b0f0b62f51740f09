-- The lines that are told of a source whose proofs are all checked.
use Rattle.std.specs.Prelude.{ℕ, ◌==◌, List, [], ◌∷◌, ◌++◌, Some, codes, if◌then◌else◌}
use Rattle.std.specs.Fmt.{decimal}
use Rattle.mmtext.specs.Words.{Word}
use Rattle.locating.specs.Steps.{theorem_at}
use Rattle.locating.specs.Told.{shown, labelled, told_rule, told_at, source_line, proof_line}
use Rattle.verifytext.specs.FindingLines.{finding_lines}
use Rattle.verifytext.specs.declared.refusal.Refusal.{Refusal}
use Rattle.verifytext.specs.declared.refusal.Refusal.TheVariants.{Source, Proof, TooLong, NoMemory}

-- how many assertions it has, and how many of its proofs are unfinished, if some are
abbrev pub ok_line : ℕ → ℕ → List ℕ
ok_line assertions unfinished =
    codes "ok "
    ++ (decimal assertions ++ (if unfinished == 0 then 10 ∷ [] else codes ", " ++ (decimal unfinished ++ codes " unfinished\n")))

-- a proof that writes down too many symbols, as programs know it
abbrev pub too_long_text : Word → List ℕ
too_long_text label = codes "proof of " ++ (shown label ++ codes ": expressions of more than 268435456 symbols")

-- no step is at fault: it is told at the theorem's label
abbrev pub too_long_line : List ℕ → List ℕ → Word → List ℕ
too_long_line path text label =
    told_at path text (theorem_at text label)
    (labelled (Some label) (told_rule (codes "the steps of this proof write down more than 268435456 symbols") (too_long_text label)))

-- behind the path of the source, and where in its text the fault is, and behind a fault of a proof what it finds; want of memory has no
-- place
abbrev pub refusal_line : List ℕ → List ℕ → Refusal → List ℕ
refusal_line path text (Source fault) = source_line path text fault
refusal_line path text (Proof label fault finding) = proof_line path text label.now fault ++ finding_lines finding
refusal_line path text (TooLong label) = too_long_line path text label.now
refusal_line path text NoMemory = codes "no memory"
