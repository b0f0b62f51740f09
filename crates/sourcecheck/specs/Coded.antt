-- Of the code's inside, apart from the rules: a citation over expressions whose symbols are numbers.
use Rattle.std.specs.Prelude.{◌≡◌, ◌≢◌, ℕ, ◌+◌, ◌<◌, ◌≤◌, ◌^◌, ◌==◌, Bool, true, false, ◌||◌, List, [], ◌∷◌, drop, take, reverse, length}
use Rattle.std.specs.Prelude.{slice_index_or, Result, Ok, Err, if◌then◌else◌}
use mathlib.Core.Bool.{not}
use Rattle.std.specs.List.{list_all, zip, flat_map}
use Rattle.std.specs.Cmp.Lexicographic.{pointwise}
use Rattle.derivation.specs.declared.fault.ProofFaultKind.{ProofFaultKind}
use Rattle.derivation.specs.declared.fault.ProofFaultKind.TheVariants.{StackShort, WrongType, HypothesisDiffers, NotDisjoint, TooLong}
use Rattle.derivation.specs.declared.fault.ProofFaultKind.TheVariants.{NoMemory, NotOneLeft, StatementDiffers}
use Rattle.source.specs.Proofs.{Stack}
use Rattle.sourceframes.specs.declared.frame.Piece.{Piece}
use Rattle.sourceframes.specs.declared.frame.Piece.TheVariants.{Itself, Argument}
use Rattle.sourceframes.specs.declared.frame.Demand.{Demand}
use Rattle.sourceframes.specs.declared.frame.Demand.TheVariants.{Typed, Equal}
use Rattle.sourceframes.specs.declared.frame.Frame.{Frame}
use Rattle.sourceframes.specs.declared.thesis.Thesis.{Thesis}
use Rattle.sourcecheck.specs.Spans.{Sheet}
use Rattle.sourceframes.specs.Theses.{is_variable_of, numbers_apart}

-- want of memory; or so many more symbols make more than 2^28 with those that were written down
abbrev pub IsRefusal : ℕ → ProofFaultKind → Type 0
IsRefusal count NoMemory = Unit {0}
IsRefusal count TooLong = 2 ^ 28 < count
IsRefusal count _ = ⊥

-- ---- substitution

-- what stands for a piece: itself, or an argument without its type
abbrev pub piece_value : List (List ℕ) → Piece → List ℕ
piece_value es (Itself n) = n ∷ []
piece_value es (Argument k) = drop 1 (slice_index_or es k [])

abbrev pub filled : List (List ℕ) → List Piece → List ℕ
filled es ps = flat_map (piece_value es) ps

-- ---- tests

abbrev pub begins_with_number : ℕ → List ℕ → Bool
begins_with_number c [] = false
begins_with_number c (d ∷ e) = c == d

abbrev pub is_typed : Demand → List ℕ → Bool
is_typed (Typed c) e = begins_with_number c e
is_typed (Equal ps) e = true

abbrev pub types_met : List Demand → List (List ℕ) → Bool
types_met ds es = list_all (λ p. is_typed p.0 p.1) (zip ds es)

abbrev pub is_equal : List (List ℕ) → Demand → List ℕ → Bool
is_equal es (Typed c) e = true
is_equal es (Equal ps) e = pointwise (λ a b. a == b) (filled es ps.items) e

abbrev pub equals_met : List Demand → List (List ℕ) → Bool
equals_met ds es = list_all (λ p. is_equal es p.0 p.1) (zip ds es)

abbrev pub is_apart : Thesis → ℕ → List ℕ → Bool
is_apart t u e = list_all (λ v. not (is_variable_of t v) || numbers_apart t u v) e

abbrev pub are_numbers_apart : Thesis → List ℕ → List ℕ → Bool
are_numbers_apart t d e = list_all (λ u. not (is_variable_of t u) || is_apart t u e) d

abbrev pub pairs_met : Thesis → List (Piece × Piece) → List (List ℕ) → Bool
pairs_met t ps es = list_all (λ p. are_numbers_apart t (piece_value es p.0) (piece_value es p.1)) ps

-- ---- citations

abbrev pub coded : Thesis → Frame → List (List ℕ) → Result (List ℕ) ProofFaultKind
coded t f es =
    if not (types_met f.demands.items es) then Err WrongType else (
    if not (equals_met f.demands.items es) then Err HypothesisDiffers else (
    if not (pairs_met t f.pairs.items es) then Err NotDisjoint else Ok (filled es f.statement.items)))

-- the last expressions of a stack, the first of them first
abbrev pub lasts : ℕ → Stack (List ℕ) → List (List ℕ)
lasts n s = reverse (take n s.entries)

-- what a citation makes is there, in the place of what it took
pub record IsCited (t : Thesis) (f : Frame) (old new : Stack (List ℕ)) : Type 0 where
  pub enough : length f.demands.items ≤ length old.entries
  pub made : List ℕ
  pub gives : coded t f (lasts (length f.demands.items) old) ≡ Ok made
  pub new_is : new ≡ record { entries = made ∷ drop (length f.demands.items) old.entries; marked = old.marked }

-- a test of it fails
abbrev pub FailsTest : Thesis → Frame → Stack (List ℕ) → ProofFaultKind → Type 0
FailsTest t f s kind =
    (length f.demands.items ≤ length s.entries) × (coded t f (lasts (length f.demands.items) s) ≡ Err kind)

-- what it makes is too long, behind what was written down
pub record MakesTooLong (t : Thesis) (f : Frame) (s : Sheet) : Type 0 where
  pub enough : length f.demands.items ≤ length s.stack.entries
  pub made : List ℕ
  pub gives : coded t f (lasts (length f.demands.items) s.stack) ≡ Ok made
  pub long : 2 ^ 28 < s.written + length made

-- why it isn't
abbrev pub FailsToCite : Thesis → Frame → Sheet → ProofFaultKind → Type 0
FailsToCite t f s NoMemory = Unit {0}
FailsToCite t f s TooLong = MakesTooLong t f s
FailsToCite t f s StackShort = length s.stack.entries < length f.demands.items
FailsToCite t f s WrongType = FailsTest t f s.stack WrongType
FailsToCite t f s HypothesisDiffers = FailsTest t f s.stack HypothesisDiffers
FailsToCite t f s NotDisjoint = FailsTest t f s.stack NotDisjoint
FailsToCite t f s _ = ⊥

-- ---- the end

-- why what is left isn't just the statement
abbrev pub EndFails : List ℕ → List (List ℕ) → ProofFaultKind → Type 0
EndFails statement es NotOneLeft = length es ≢ 1
EndFails statement es StatementDiffers = (e : List ℕ) × (es ≡ e ∷ []) × (e ≢ statement)
EndFails statement es _ = ⊥
