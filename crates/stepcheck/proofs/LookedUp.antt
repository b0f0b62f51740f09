-- What was looked up of a label stands at its place, and a step that cites it takes that.
use Rattle.std.proofs.Common.{◌≡◌, ℕ, ◌<◌, List, [], ◌∷◌, ◌++◌, take, drop, Option, None, Some, Bor, map, length, get_or, sym, ap, ◌∙◌, arith}
use Rattle.std.specs.Option.{option_copied}
use Rattle.std.proofs.lemmas.List.{get_or-map, length-map, take-append-drop}
use Rattle.mmsyntax.specs.Tables.{Tables}
use Rattle.mmsyntax.specs.declared.statement.Frame.{Frame}
use Rattle.mmsyntax.specs.declared.statement.Assertion.{Assertion}
use Rattle.mmsyntax.specs.declared.statement.Step.TheVariants.{Cite}
use Rattle.derivation.specs.declared.fault.ProofFaultKind.{ProofFaultKind}
use Rattle.derivation.specs.declared.fault.ProofFaultKind.TheVariants.{UnknownStep, StackShort, WrongType, HypothesisDiffers}
use Rattle.derivation.specs.declared.fault.ProofFaultKind.TheVariants.{NotDisjoint, NotOneLeft, StatementDiffers, TooLong, NoMemory}
use Rattle.derivation.specs.Derivation.{Citable, Expression, Gives}
use Rattle.derivation.specs.Faults.{StepFails}
use Rattle.derivation.specs.Moves.{GivesOnLast, FailsOnLast}

pub looked_up : (lib : Citable) (labels : List (List ℕ)) (frames : List (Option (Bor Frame))) (n : ℕ) (d r : Option (Bor Frame))
    → map option_copied frames ≡ map lib labels → n < length frames → get_or frames n d ≡ r → lib (get_or labels n []) ≡ option_copied r
looked_up lib labels frames n d r same lt is =
    let long : length frames ≡ length labels = sym (length-map frames option_copied) ∙ ap length same ∙ length-map labels lib in
    let within : n < length labels = omega arith in
    sym (get_or-map lib labels n [] None within) ∙ ap (λ os. get_or os n None) (sym same) ∙ get_or-map option_copied frames n d None lt
    ∙ ap option_copied is

-- the test that a citation of the frame fails is the one that the step fails
pub cite_fails : (lib : Citable) (p : Tables) (a : Assertion) (es : List Expression) (label : List ℕ) (f : Frame) (kind : ProofFaultKind)
    → lib label ≡ Some f → FailsOnLast p a f es kind → StepFails lib p a es (Cite label) kind
cite_fails lib p a es label f UnknownStep is h = absurd h.1
cite_fails lib p a es label f StackShort is h = (f, is, h)
cite_fails lib p a es label f WrongType is h = (f, is, h.0, h.1)
cite_fails lib p a es label f HypothesisDiffers is h = (f, is, h.0, h.1)
cite_fails lib p a es label f NotDisjoint is h = (f, is, h.0, h.1)
cite_fails lib p a es label f NotOneLeft is h = absurd h.1
cite_fails lib p a es label f StatementDiffers is h = absurd h.1
cite_fails lib p a es label f TooLong is h = (f, is, h.0, h.1)
cite_fails lib p a es label f NoMemory is h = absurd h.1

-- what a citation gives stands in the place of those from a place on
pub gives_on_last : (p : Tables) (a : Assertion) (f : Frame) (st es kept after : List Expression) (e : Expression) (n : ℕ)
    → kept ≡ take n st → es ≡ drop n st → Gives p a f es e → after ≡ kept ++ e ∷ [] → GivesOnLast p a f st after
gives_on_last p a f st es kept after e n front end gives more =
    (kept, es, e, rw (front, end) (sym (take-append-drop n st)), gives, more)
