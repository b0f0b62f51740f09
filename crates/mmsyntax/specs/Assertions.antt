-- Which assertions fit a prelude, which labels they may have, and which lists of them a text declares (Metamath book,
-- section 4.1.3).
use Rattle.std.specs.Prelude.{◌≡◌, ◌≢◌, ◌<◌, ◌≤◌, ◌↔◌, ℕ, Bool, false, ◌&&◌, nat_le, List, [], ◌∷◌, length, All, map, is_some, IsTrue}
use mathlib.Core.Bool.{not}
use Rattle.std.specs.List.{list_any}
use Rattle.std.specs.Str.{bytes_eq}
use Rattle.mmsyntax.specs.declared.statement.Symbol.{Symbol}
use Rattle.mmsyntax.specs.declared.statement.Symbol.TheVariants.{Const, Var}
use Rattle.mmsyntax.specs.declared.statement.Kind.TheVariants.{Axiom, Theorem}
use Rattle.mmsyntax.specs.declared.statement.Step.{Step}
use Rattle.mmsyntax.specs.declared.statement.Step.TheVariants.{Float, Hyp, Cite}
use Rattle.mmsyntax.specs.declared.statement.Assertion.{Assertion}
use Rattle.mmsyntax.specs.Tables.{Tables, Contents, meaning}
use Rattle.mmsyntax.specs.Blocks.{is_pair_below}
use Rattle.mmtext.specs.Words.{Word, is_label}
use Rattle.mmsyntax.specs.Dotted.{is_dotted, ClashNowhere}
use Rattle.mmsyntax.specs.Steps.{float_named}
use Rattle.mmsyntax.specs.Layout.{HasSpelling, IsSoundPrelude, HasUnitSpelling}
use Rattle.mmsyntax.specs.declared.limits.TheConstants.{MOST_ASSERTIONS, MOST_HYPOTHESES, MOST_NAME_BYTES, MOST_PAIRS, MOST_STEPS, MOST_SYMBOLS}

-- ---- expressions

-- a symbol of the prelude: a declared constant, or the variable of a $f
abbrev pub IsSymbolOf : Tables → Symbol → Type 0
IsSymbolOf t (Const i) = i < length t.constants
IsSymbolOf t (Var j) = j < length t.floats

-- the first symbol is a constant (section 4.1.3)
abbrev pub BeginsWithConstant : List Symbol → Type 0
BeginsWithConstant [] = ⊥
BeginsWithConstant (Const i ∷ e) = Unit {0}
BeginsWithConstant (Var j ∷ e) = ⊥

-- what may stand in $e, $a and $p: a constant, then symbols of the prelude (section 4.1.3), of all at most 65,535
pub record IsExpression (t : Tables) (e : List Symbol) : Type 0 where
  pub begins : BeginsWithConstant e
  pub symbols : All (IsSymbolOf t) e
  pub short : length e ≤ MOST_SYMBOLS

-- ---- assertions

-- two different $f of a prelude that has count of them, the earlier first: $d restricts pairs of different variables (section
-- 4.1.3)
abbrev pub IsPairOf : ℕ → ℕ × ℕ → Type 0
IsPairOf count p = (p.0 < p.1) × (p.1 < count)

-- by the first place, then by the second
abbrev pub ComesBefore : ℕ × ℕ → ℕ × ℕ → Type 0
ComesBefore p q = IsTrue (is_pair_below p q)

-- each pair comes before the next: ascending, without repeats
abbrev pub AreAscending : List (ℕ × ℕ) → Type 0
AreAscending [] = Unit {0}
AreAscending (p ∷ ps) = All (ComesBefore p) ps × AreAscending ps

-- a step of the proof of L cites no L.k, which no library has beside L (a rule of the profile)
abbrev pub CitesApart : Word → Step → Type 0
CitesApart label (Float j) = Unit {0}
CitesApart label (Hyp n) = Unit {0}
CitesApart label (Cite w) = is_dotted label w ≡ false

-- an assertion over a prelude, within the limits: its $d, its $e, its statement, and a proof if it is a $p (section 4.1.3);
-- nothing else is said of labels, or of what a step names
pub record Fits (t : Tables) (a : Assertion) : Type 0 where
  pub statement : IsExpression t a.statement
  pub hyps : All (IsExpression t) a.hyps
  pub few_hyps : length a.hyps ≤ MOST_HYPOTHESES
  pub pairs_within : All (IsPairOf (length t.floats)) a.pairs
  pub pairs_ascend : AreAscending a.pairs
  pub few_pairs : length a.pairs ≤ MOST_PAIRS
  pub no_axiom_proof : a.kind ≡ Axiom → a.proof ≡ []
  pub few_steps : length a.proof ≤ MOST_STEPS
  pub cites_apart : All (CitesApart a.label) a.proof

-- 1 to 255 bytes of a label token (section 4.1.1; the number is the profile's)
abbrev pub is_plain_label : List ℕ → Bool
is_plain_label w = nat_le 1 (length w) && nat_le (length w) MOST_NAME_BYTES && is_label w

-- the label of an assertion: a plain label that names nothing of the prelude (section 4.1.3)
abbrev pub is_lawful_label : Tables → List ℕ → Bool
is_lawful_label t w = is_plain_label w && not (is_some (meaning t w))

-- ---- steps

-- the label of a $f
abbrev pub is_float_label : Tables → List ℕ → Bool
is_float_label t w = is_some (float_named (meaning t w))

-- a label that a step can cite: a plain label, and no label of a $f
abbrev pub is_citable_label : Tables → List ℕ → Bool
is_citable_label t w = is_plain_label w && not (is_float_label t w)

-- a step that a text can name: a $f of the prelude, one of the hypotheses, or a label
abbrev pub IsNameable : Tables → ℕ → Step → Type 0
IsNameable t hyps (Float j) = j < length t.floats
IsNameable t hyps (Hyp n) = n < hyps
IsNameable t hyps (Cite w) = IsTrue (is_citable_label t w)

-- ---- lists of assertions

-- no item equals a later one
abbrev pub Distinct : {A : Type 0} → (A → A → Bool) → List A → Type 0
Distinct eq [] = Unit {0}
Distinct eq (x ∷ xs) = (list_any (eq x) xs ≡ false) × Distinct eq xs

-- what declares an assertion over a prelude, beside its label: a theorem has steps, and a text can name each of them (section 4.1.4)
pub record IsUnit (t : Tables) (a : Assertion) : Type 0 where
  pub fits : Fits t a
  pub some_steps : a.kind ≡ Theorem → a.proof ≢ []
  pub steps : All (IsNameable t (length a.hyps)) a.proof

-- what a text declares beside a prelude: at most 4,096 units, with different lawful labels, of which none is L.k of another
pub record IsDeclarable (t : Tables) (xs : List Assertion) : Type 0 where
  pub prelude : IsSoundPrelude t
  pub units : All (IsUnit t) xs
  pub lawful : All (λ a. IsTrue (is_lawful_label t a.label)) xs
  pub distinct : Distinct bytes_eq (map (λ a. a.label) xs)
  pub apart : ClashNowhere (map (λ a. a.label) xs)
  pub few : length xs ≤ MOST_ASSERTIONS

-- a database has a spelling just where its assertions are declarable over its prelude
abbrev pub SpelledWhereDeclarable : Type 0
SpelledWhereDeclarable = (db : Contents) → HasSpelling db ↔ IsDeclarable db.prelude db.assertions

-- over a prelude, an assertion has a spelling by itself just where it is a unit with a lawful label
abbrev pub SpelledWhereUnit : Type 0
SpelledWhereUnit =
    (t : Tables) (a : Assertion) → IsSoundPrelude t → HasUnitSpelling t a ↔ (IsUnit t a × IsTrue (is_lawful_label t a.label))
