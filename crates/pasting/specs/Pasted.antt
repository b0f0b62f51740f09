-- Scripts in which a proof may be written in the source's own words: in `reprove LABEL $= PROOF $.`, for a theorem of the source or for one
-- that scripts add, and in an `add`. The words of a library stand in their stead then. A normal proof that isn't one of the source there
-- stays: its words are those of a library.
use Rattle.std.specs.Prelude.{◌≡◌, Bool, List, [], ◌∷◌, ◌++◌, map, Option, Some, None, slice_get, slice_index_or, if◌then◌else◌, codes}
use Rattle.std.specs.List.{AllZip, flat_map}
use Rattle.std.specs.Option.{option_and_then, option_or}
use Rattle.mmtext.specs.Text.{Token}
use Rattle.mmtext.specs.Words.{Word}
use Rattle.mmtext.specs.declared.fault.FaultKind.{FaultKind}
use Rattle.mmsyntax.specs.declared.statement.Step.{Step}
use Rattle.mmsyntax.specs.declared.statement.Step.TheVariants.{Float, Hyp, Cite}
use Rattle.mmsyntax.specs.Tables.{Tables}
use Rattle.mmsyntax.specs.Layout.{step_word}
use Rattle.source.specs.Scopes.{Assertion, Scope, label_of}
use Rattle.taking.specs.Names.{Map}
use Rattle.prooftrees.specs.Names.{labelled}
use Rattle.spreading.specs.Words.{says, word_at}
use Rattle.spreading.specs.Forms.{Part, AreParts}
use Rattle.expanding.specs.Cuts.{Cut, cut_of}
use Rattle.spreading.specs.Spreading.{assertion_at}
use Rattle.pasting.specs.Proofs.{Given, steps, untaken, faulty, given, is_compressed}
use Rattle.pasting.specs.Additions.{Addition, addition_of, theorem_of, added_by}

-- ---- a proof that a command gives

-- the command around it, the `$.` that ends it, the label of its theorem, the theorem, and the words that steps have in a library
pub record Proving : Type 0 where
  pub cut : Cut
  pub ends : Token
  pub label : Token
  pub theorem : Assertion
  pub word : Step → Word

abbrev pub proving_of : Cut → Option Token → Token → Option Assertion → (Step → Word) → Option Proving
proving_of c (Some ends) label (Some x) word = Some (record { cut = c; ends = ends; label = label; theorem = x; word = word })
proving_of c _ label _ word = None

-- `reprove LABEL $=`
abbrev pub reproved : List Token → Option Token
reproved (verb ∷ label ∷ begins ∷ []) = if says verb (codes "reprove") then Some label else None
reproved _ = None

-- of a theorem of the source, or else of what scripts add, the first with the label; a `$e` is called LABEL.1, LABEL.2, ..
abbrev pub theorem_at : Scope → List Assertion → Token → Option Assertion
theorem_at s added label = option_or (option_and_then (slice_get s.assertions) (assertion_at s label.text)) (labelled added label.text)

abbrev pub reproving : Tables → Scope → List Assertion → Cut → Token → Option Proving
reproving t s added c label = proving_of c (slice_get c.back 0) label (theorem_at s added label) (step_word t label.text)

-- of what is added; a `$e` has its label
abbrev pub added_word : Tables → Addition → Step → Word
added_word t a (Hyp n) = slice_index_or (map label_of a.premises) n []
added_word t a (Float j) = step_word t a.label.text (Float j)
added_word t a (Cite w) = w

abbrev pub adding : Map → Tables → Cut → Addition → Option Proving
adding m t c a = proving_of c (slice_get c.back 0) a.label (Some (theorem_of m t a)) (added_word t a)

abbrev pub proving_in : Map → Tables → Scope → List Assertion → Part → Cut → Option Proving
proving_in m t s added p c =
    option_or (option_and_then (reproving t s added c) (reproved c.front)) (option_and_then (adding m t c) (addition_of p))

abbrev pub proving : Map → Tables → Scope → List Assertion → Part → Option Proving
proving m t s added p = option_and_then (proving_in m t s added p) (cut_of p)

-- what is added keeps its label
abbrev pub with_labels : Map → List Word → Map
with_labels m labels = record m { labels = m.labels ++ map (λ w. (w, w)) labels }

abbrev pub with_added : Map → List Assertion → Map
with_added m added = with_labels m (map (λ x. x.label) added)

-- what its words say: they may cite what the source has, and what scripts add
abbrev pub given_in : Map → Scope → List Assertion → Proving → Given
given_in m s added r = given (with_added m added) (s.assertions ++ added) r.theorem r.cut.proof r.ends

-- ---- in the words of a library

-- a step of a library, told at the label of the theorem
abbrev pub step_at : Proving → Step → Token
step_at r x = word_at r.label.place (r.word x)

abbrev pub with_given : Part → Proving → Given → List Token
with_given p r (steps xs) = r.cut.front ++ (map (step_at r) xs ++ r.cut.back)
with_given p r untaken = p
with_given p r (faulty at kind) = p

abbrev pub pasted_by : Map → Scope → List Assertion → Part → Option Proving → List Token
pasted_by m s added p None = p
pasted_by m s added p (Some r) = with_given p r (given_in m s added r)

abbrev pub pasted : Map → Tables → Scope → List Assertion → Part → List Token
pasted m t s added p = pasted_by m s added p (proving m t s added p)

-- ---- faults: those of compressed proofs, which no library has

pub record PasteFault : Type 0 where
  pub at : Token
  pub kind : FaultKind

abbrev pub fault_of : Bool → Given → Option PasteFault
fault_of is_compressed (faulty t kind) = if is_compressed then Some (record { at = t; kind = kind }) else None
fault_of is_compressed _ = None

abbrev pub paste_fault_by : Map → Scope → List Assertion → Option Proving → Option PasteFault
paste_fault_by m s added None = None
paste_fault_by m s added (Some r) = fault_of (is_compressed r.cut.proof) (given_in m s added r)

abbrev pub paste_fault : Map → Tables → Scope → List Assertion → Part → Option PasteFault
paste_fault m t s added p = paste_fault_by m s added (proving m t s added p)

abbrev pub or_fault : Option PasteFault → Option PasteFault → Option PasteFault
or_fault None later = later
or_fault (Some f) later = Some f

-- the first of parts
abbrev pub first_fault : Map → Tables → Scope → List Assertion → List Part → Option PasteFault
first_fault m t s added [] = None
first_fault m t s added (p ∷ ps) = or_fault (paste_fault m t s added p) (first_fault m t s added ps)

-- ---- scripts

-- they add these
pub record AreAdditions (m : Map) (t : Tables) (scripts : List (List Token)) (added : List Assertion) : Type 0 where
  pub parts : List (List Part)
  pub are_parts : AllZip AreParts scripts parts
  pub added_are : added ≡ flat_map (flat_map (added_by m t)) parts

-- the words of one with the proofs of a library
pub record IsPasted (m : Map) (t : Tables) (s : Scope) (added : List Assertion) (ts out : List Token) : Type 0 where
  pub parts : List Part
  pub are_parts : AreParts ts parts
  pub none_faulty : first_fault m t s added parts ≡ None
  pub pasted : out ≡ flat_map (pasted m t s added) parts

-- a compressed proof in it that is none there, the first
pub record HasPasteFault (m : Map) (t : Tables) (s : Scope) (added : List Assertion) (ts : List Token) (f : PasteFault) : Type 0 where
  pub parts : List Part
  pub are_parts : AreParts ts parts
  pub first : first_fault m t s added parts ≡ Some f
