-- Examples that compute: texts of sources that verify, and the first fault of others.
use Rattle.std.specs.Prelude.{◌≡◌, ℕ, List, [], ◌∷◌, ◌++◌, map, codes, Option, Some, None, Result, Ok, Err, IfOk}
use Rattle.std.specs.Result.{result_map_both}
use Rattle.mmtext.specs.Words.{Word}
use Rattle.mmtext.specs.declared.fault.FaultKind.TheVariants.{BadToken}
use Rattle.mmtext.specs.declared.fault.TextFault.{TextFault}
use Rattle.mmtext.specs.Languages.{token_reading}
use Rattle.derivation.specs.declared.fault.ProofFault.{ProofFault}
use Rattle.derivation.specs.declared.fault.ProofFaultKind.{ProofFaultKind}
use Rattle.derivation.specs.declared.fault.ProofFaultKind.TheVariants.{WrongType, HypothesisDiffers, NotDisjoint, StatementDiffers}
use Rattle.source.specs.Faults.{source_language}
use Rattle.verifying.specs.Verifies.{Verifies, unfinished}
use Rattle.verifying.specs.Faults.{fault_in}

-- the first fault of a text's proofs and how many are unfinished, if it declares a source
abbrev pub Found : Type 0
Found = Result (Option (Word × ProofFault) × ℕ) TextFault

abbrev pub found : List ℕ → Found
found text = result_map_both (λ s. (fault_in s, unfinished s)) (λ f. f) (token_reading source_language text)

abbrev pub good : Found
good = Ok (None, 0)

-- the fault of the theorem t
abbrev pub fails : ℕ → ProofFaultKind → Found
fails step kind = Ok (Some (codes "t", record { step = step; kind = kind }), 0)

-- ---- the least

abbrev pub two_lines : List ℕ
two_lines = codes "$c wff |- $. $v p $. wp $f wff p $. all $a |- p $. t $p |- p $= wp all $."

abbrev pub TwoLinesVerify : Type 0
TwoLinesVerify = IfOk (token_reading source_language two_lines) Verifies × (found two_lines ≡ good)

-- ---- each test of a step

abbrev pub opening : List ℕ
opening = codes "$c wff set |- = ( ) $. $v x y z p q $. vx $f set x $. vy $f set y $. vz $f set z $. wp $f wff p $. wq $f wff q $. "

-- all of p; a wff of two; modus ponens; a statement of two variables that are kept apart; and one that stands for anything
abbrev pub axioms : List ℕ
axioms =
    codes "all $a |- p $. wi $a wff ( p q ) $. ${ mh $e |- p $. mi $e |- ( p q ) $. mp $a |- q $. $} "
    ++ codes "${ $d x y $. ap $a |- = x y $. $} ${ $d x z $. ah $e |- = x y $. any $a |- p $. $} "

abbrev pub after : List ℕ → Found
after text = found (opening ++ axioms ++ text)

-- a type, a $e and a statement; entries too many and too few are faults of the text; ? is no fault
abbrev pub TestsFail : Type 0
TestsFail =
    map after (
    codes "${ th $e |- p $. ti $e |- ( p q ) $. t $p |- q $= wp wq th ti mp $. $}"
    ∷ codes "t $p |- p $= vx all $."
    ∷ codes "${ th $e |- p $. t $p |- q $= wp wq th th mp $. $}"
    ∷ codes "t $p |- q $= wp all $."
    ∷ codes "t $p |- ( q p ) $= wq wp wi all $."
    ∷ codes "t $p |- p $= ? $."
    ∷ codes "t $p |- q $= wp all $. u $p |- q $= vx all $."
    ∷ [])
    ≡ good ∷ fails 2 WrongType ∷ fails 5 HypothesisDiffers ∷ fails 2 StatementDiffers ∷ good ∷ Ok (None, 1) ∷ fails 2 StatementDiffers ∷ []

-- ---- pairs

-- of dummies too, and in either order; one that is missing, or has another variable; one that is closed, and one that comes behind;
-- two that share a variable; a pair of a dummy of the cited assertion asks for nothing
abbrev pub PairsAreAsked : Type 0
PairsAreAsked =
    map after (
    codes "${ $d x z $. t $p |- p $= vx vz wp vx vz ap any $. $}"
    ∷ codes "${ $d z y x $. t $p |- p $= vx vz wp vx vz ap any $. $}"
    ∷ codes "t $p |- p $= vx vz wp vx vz ap any $."
    ∷ codes "${ $d x y $. t $p |- p $= vx vz wp vx vz ap any $. $}"
    ∷ codes "${ $d x z $. $} t $p |- p $= vx vz wp vx vz ap any $."
    ∷ codes "${ t $p |- p $= vx vz wp vx vz ap any $. $d x z $. $}"
    ∷ codes "t $p |- = x x $= vx vx ap $."
    ∷ codes "${ th $e |- = z z $. t $p |- p $= vz vz wp th any $. $}"
    ∷ [])
    ≡ good ∷ good ∷ fails 6 NotDisjoint ∷ fails 6 NotDisjoint ∷ fails 6 NotDisjoint ∷ fails 6 NotDisjoint ∷ fails 3 NotDisjoint
    ∷ good ∷ []

-- ---- letters

-- a marked subproof again; a fault behind a mark, which counts for no step; a mark of a mark
abbrev pub LettersVerify : Type 0
LettersVerify =
    map after (
    codes "t $p wff ( ( p p ) ( p p ) ) $= ( wi ) AABZCB $."
    ∷ codes "t $p wff ( ( p p ) ( p p ) ) $= ( wi ap ) A ABZ DC $."
    ∷ codes "t $p wff ( ( p p ) ( p p ) ) $= ( wi ) AABZZDB $."
    ∷ codes "t $p wff ( ( p p ) ( p p ) ) $= ( wi ) AABZAB $."
    ∷ [])
    ≡ good ∷ fails 5 WrongType ∷ good ∷ fails 5 StatementDiffers ∷ []

-- ---- entries

abbrev pub failed_at : ℕ → Found
failed_at place = Err (record { place = place; kind = BadToken })

-- too many, too few, and a number past what is marked: the text has the fault
abbrev pub EntriesAreCounted : Type 0
EntriesAreCounted =
    map found (
    codes "$c wff |- $. $v p $. wp $f wff p $. all $a |- p $. t $p |- p $= wp wp all $."
    ∷ codes "$c wff |- $. $v p $. wp $f wff p $. all $a |- p $. t $p |- p $= all $."
    ∷ codes "$c wff |- $. $v p $. wp $f wff p $. all $a |- p $. t $p |- p $= ( all ) AZDB $."
    ∷ [])
    ≡ failed_at 74 ∷ failed_at 64 ∷ failed_at 72 ∷ []

-- ---- scopes

-- a local variable of the cited assertion has the name of one of the theorem, of another type: each is its own, and what comes in isn't
-- replaced again. The hypotheses of `lr` stand in order of appearance, the $e before a $f
abbrev pub locals : List ℕ
locals =
    codes "$c wff set |- N S $. $v p $. wp $f wff p $. ns $a wff N p $. "
    ++ codes "${ lh $e |- p $. ${ $v r $. wr $f wff r $. lr $a |- N r $. $} $} ${ $v r $. sr $f set r $. rs $a wff S r $. "

abbrev pub LocalsAreTheirOwn : Type 0
LocalsAreTheirOwn =
    map (λ text. found (locals ++ text)) (
    codes "th $e |- S r $. t $p |- N N S r $= sr rs th sr rs ns lr $. $}"
    ∷ codes "th $e |- S r $. t $p |- N S r $= sr rs th sr lr $. $}"
    ∷ codes "th $e |- S r $. t $p |- N N S r $= sr rs sr rs ns th lr $. $}"
    ∷ [])
    ≡ good ∷ fails 5 WrongType ∷ fails 7 WrongType ∷ []
