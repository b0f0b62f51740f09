-- The names of a source are tokens of its text: a symbol has no $, and a label is a label token (Metamath book, section 4.1.1).
use Rattle.std.specs.Prelude.{◌≡◌, ℕ, false, List, All, IsTrue}
use Rattle.std.specs.Str.{bytes_eq}
use Rattle.mmtext.specs.Words.{Word, has_dollar, is_label}
use Rattle.mmsyntax.specs.Preludes.{IsWord}
use Rattle.mmsyntax.specs.Assertions.{Distinct}
use Rattle.source.specs.Scopes.{Hypothesis, typing, premise, Assertion, Scope}
use Rattle.source.specs.Sources.{DeclaresText}

-- a math symbol: a token without $ (section 4.1.1)
pub record IsMathSymbol (w : Word) : Type 0 where
  pub word : IsWord w
  pub no_dollar : has_dollar w ≡ false

-- a label: a token of letters, digits, hyphens, underscores and periods (section 4.1.1)
pub record IsLabelToken (w : Word) : Type 0 where
  pub word : IsWord w
  pub label : IsTrue (is_label w)

-- so are the words of a hypothesis
abbrev pub IsHypothesisWorded : Hypothesis → Type 0
IsHypothesisWorded (typing label c v) = IsLabelToken label × IsMathSymbol c × IsMathSymbol v
IsHypothesisWorded (premise label ws) = IsLabelToken label × All IsMathSymbol ws

-- and those of an assertion, with the hypotheses that are active there
pub record IsAssertionWorded (x : Assertion) : Type 0 where
  pub label : IsLabelToken x.label
  pub statement : All IsMathSymbol x.statement
  pub active : All IsHypothesisWorded x.active

-- what stands behind a source: symbols, and labels that differ (section 4.1.3), of closed blocks too
pub record IsWorded (s : Scope) : Type 0 where
  pub constants : All IsMathSymbol s.constants
  pub symbols : All IsMathSymbol s.symbols
  pub labels : All IsLabelToken s.labels
  pub distinct : Distinct bytes_eq s.labels
  pub assertions : All IsAssertionWorded s.assertions

-- so is what each text declares
abbrev pub SourcesAreWorded : Type 0
SourcesAreWorded = (bytes : List ℕ) (s : Scope) → DeclaresText bytes s → IsWorded s
