-- The marks of words: those of keywords, both ways, and words without a $.
use Rattle.std.proofs.Common.{◌≡◌, ℕ, Bool, true, false, cond, List, Option, Some, Result, Ok, refl}
use Rattle.std.specs.Prelude.{◌||◌, codes}
use Rattle.std.specs.Str.{bytes_eq}
use Rattle.mmsyntax.specs.declared.statement.Symbol.{Symbol}
use Rattle.mmsyntax.specs.declared.statement.Step.{Step}
use Rattle.mmtext.specs.declared.fault.FaultKind.{FaultKind}
use Rattle.mmtext.specs.declared.fault.FaultKind.TheVariants.{BadToken, OutOfProfile, UnknownSymbol}
use Rattle.mmtext.specs.declared.mark.Mark.TheVariants as mark
use Rattle.mmtext.specs.Words.{Word, has_dollar}
use Rattle.mmtext.specs.Text.{mark_of}
use Rattle.mmsyntax.specs.Tables.{Tables}
use Rattle.mmsyntax.specs.Rows.{Known, Pass, symbol_tests, symbol_of, type_of, variable_of}
use Rattle.mmsyntax.specs.Blocks.{Hypothesis, distinct_of}
use Rattle.mmsyntax.specs.Steps.{step_of, unless_faulty}
pub use Rattle.mmtext.proofs.Marks.{Says, says, mark_plain, label_plain}
use Rattle.mmsyntax.proofs.Sound.{cond_none, if_ok}

-- ---- the marks of keywords

pub constants_mark : mark_of (codes "$c") ≡ mark.Constants
unfolding mark_of
constants_mark = refl

pub variables_mark : mark_of (codes "$v") ≡ mark.Variables
unfolding mark_of
variables_mark = refl

pub float_mark : mark_of (codes "$f") ≡ mark.Floating
unfolding mark_of
float_mark = refl

pub axiom_mark : mark_of (codes "$a") ≡ mark.Axiom
unfolding mark_of
axiom_mark = refl

pub provable_mark : mark_of (codes "$p") ≡ mark.Provable
unfolding mark_of
provable_mark = refl

pub essential_mark : mark_of (codes "$e") ≡ mark.Essential
unfolding mark_of
essential_mark = refl

pub disjoint_mark : mark_of (codes "$d") ≡ mark.Disjoint
unfolding mark_of
disjoint_mark = refl

pub opening_mark : mark_of (codes "${") ≡ mark.Opening
unfolding mark_of
opening_mark = refl

pub closing_mark : mark_of (codes "$}") ≡ mark.Closing
unfolding mark_of
closing_mark = refl

pub proof_mark : mark_of (codes "$=") ≡ mark.Proof
unfolding mark_of
proof_mark = refl

pub end_mark : mark_of (codes "$.") ≡ mark.End
unfolding mark_of
end_mark = refl

-- ---- words without a $

pub declared_plain : (k : Known) (n : ℕ) (w : Word) → Pass (symbol_tests k n w) → has_dollar w ≡ false
declared_plain k n w pass = (cond_none (has_dollar w) BadToken _ pass).0

pub symbol_plain : (t : Tables) (n : ℕ) (w : Word) (s : Symbol) → symbol_of t n w ≡ Ok s → has_dollar w ≡ false
unfolding symbol_of
symbol_plain t n w s h = (if_ok (has_dollar w) BadToken _ s h).0

pub type_plain : (t : Tables) (w : Word) (i : ℕ) → type_of t w ≡ Ok i → has_dollar w ≡ false
unfolding type_of
type_plain t w i h = (if_ok (has_dollar w) UnknownSymbol _ i h).0

pub variable_plain : (t : Tables) (w : Word) (i : ℕ) → variable_of t w ≡ Ok i → has_dollar w ≡ false
unfolding variable_of
variable_plain t w i h = (if_ok (has_dollar w) UnknownSymbol _ i h).0

pub distinct_plain : (t : Tables) (vs : List ℕ) (ps : List (ℕ × ℕ)) (w : Word) (j : ℕ) → distinct_of t vs ps w ≡ Ok j
    → has_dollar w ≡ false
unfolding distinct_of
distinct_plain t vs ps w j h = (if_ok (has_dollar w) BadToken _ j h).0

pub step_plain : (t : Tables) (label : Word) (hyps : List Hypothesis) (n : ℕ) (w : Word) (x : Step) → step_of t label hyps n w ≡ Ok x
    → has_dollar w ≡ false
unfolding step_of
step_plain t label hyps n w x h = second (bytes_eq w (codes "?") || bytes_eq w (codes "(")) (has_dollar w) _ _ x h
  where
    second : (a b : Bool) (o : Option FaultKind) (r : Result Step FaultKind) (x : Step)
        → unless_faulty (cond a (Some OutOfProfile) (cond b (Some BadToken) o)) r ≡ Ok x → b ≡ false
    second true b o r x g = absurd cc
    second false true o r x g = absurd cc
    second false false o r x g = refl
