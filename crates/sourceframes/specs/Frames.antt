-- Of the code's inside, apart from the rules: which words the numbers of an assertion, as it is cited, stand for.
use Rattle.std.specs.Prelude.{◌≡◌, ℕ, Bool, false, ◌&&◌, List, map, slice_get, Option, Some, None, Result, Ok, Err}
use Rattle.std.specs.Option.{option_map}
use Rattle.std.specs.Borrow.{Bor}
use Rattle.std.specs.HashMap.{HashMap}
use Rattle.std.specs.Str.{bytes_eq}
use Rattle.mmtext.specs.Words.{Word}
use Rattle.mmsyntax.specs.Tables.{place_of}
use Rattle.source.specs.Scopes.{Hypothesis, typing, premise, Pair, Assertion, is_in, is_float_of, mandatory_pairs}
use Rattle.wordkeys.specs.declared.keys.WordKeys.{WordKeys}
use Rattle.sourceframes.specs.Names.{looks_up}
use Rattle.sourceframes.specs.declared.frame.Piece.{Piece}
use Rattle.sourceframes.specs.declared.frame.Piece.TheVariants.{Itself, Argument}
use Rattle.sourceframes.specs.declared.frame.Demand.{Demand}
use Rattle.sourceframes.specs.declared.frame.Demand.TheVariants.{Typed, Equal}
use Rattle.sourceframes.specs.declared.frame.Frame.{Frame}

-- a symbol of an assertion that is cited: the place of its $f, or itself where it has none
abbrev pub Part : Type 0
Part = Result ℕ Word

abbrev pub found : Word → Option ℕ → Part
found w (Some k) = Ok k
found w None = Err w

abbrev pub part_in : List Hypothesis → Word → Part
part_in hs w = found w (place_of (is_float_of w) hs)

abbrev pub part_of : (ℕ → Word) → Piece → Part
part_of name (Itself n) = Err (name n)
part_of name (Argument k) = Ok k

-- a type, or symbols
abbrev pub asked_in : List Hypothesis → Hypothesis → Result Word (List Part)
asked_in hs (typing label c v) = Ok c
asked_in hs (premise label ws) = Err (map (part_in hs) ws)

abbrev pub asked_of : (ℕ → Word) → Demand → Result Word (List Part)
asked_of name (Typed n) = Ok (name n)
asked_of name (Equal ps) = Err (map (part_of name) ps.items)

-- the numbers of a frame stand for these words of the assertion
pub record IsFrameOf (name : ℕ → Word) (f : Frame) (c : Assertion) : Type 0 where
  pub demands : map (asked_of name) f.demands.items ≡ map (asked_in c.hypotheses) c.hypotheses
  pub statement : map (part_of name) f.statement.items ≡ map (part_in c.hypotheses) c.statement
  pub pairs : map {B = Part × Part} (λ p. (part_of name p.0, part_of name p.1)) f.pairs.items
      ≡ map {B = Part × Part} (λ p. (part_in c.hypotheses p.0, part_in c.hypotheses p.1)) (mandatory_pairs c)

-- ---- while it is made

abbrev pub variable_of : Hypothesis → Option Word
variable_of (typing label c v) = Some v
variable_of (premise label ws) = None

abbrev pub seen_variable : Option (Bor (List ℕ)) → Option Word
seen_variable o = option_map (λ w. w.now) o

-- the variables of hypotheses, none of a $e
abbrev pub AreVariables : List Hypothesis → List (Option Word) → Type 0
AreVariables hs vs = vs ≡ map variable_of hs

abbrev pub is_that : Word → Option Word → Bool
is_that w None = false
is_that w (Some v) = bytes_eq w v

-- a map has the first place of each variable, and no other
abbrev pub ArePlaced : List (Option Word) → HashMap (Bor (List ℕ)) ℕ WordKeys → Type 0
ArePlaced vs places = (w : Word) → looks_up places w ≡ place_of (is_that w) vs

-- a pair of two of these words
abbrev pub is_kept : List Word → Pair → Bool
is_kept ws p = is_in ws p.0 && is_in ws p.1

abbrev pub parts_in : List Hypothesis → Pair → Part × Part
parts_in hs p = (part_in hs p.0, part_in hs p.1)

abbrev pub parts_of : (ℕ → Word) → Piece × Piece → Part × Part
parts_of name p = (part_of name p.0, part_of name p.1)

-- the frames of the first assertions
abbrev pub AreFrames : (ℕ → Word) → List Assertion → List Frame → Type 0
AreFrames name xs fs = (k : ℕ) (c : Assertion) (f : Frame) → slice_get xs k ≡ Some c → slice_get fs k ≡ Some f → IsFrameOf name f c

-- the words of two numbers
abbrev pub names_of : (ℕ → Word) → ℕ × ℕ → Word × Word
names_of name p = (name p.0, name p.1)
