-- Labels in a proof: one that passes its tests names something.
use Rattle.std.proofs.Common.{◌≡◌, ◌∙◌, None, sym, ap}
use Rattle.std.specs.Prelude.{is_some}
use mathlib.Core.Bool.{not}
use Rattle.std.proofs.lemmas.Bool.{true≢false, not-false}
use Rattle.mmtext.specs.declared.fault.FaultKind.TheVariants.{BadToken, UnknownLabel, NotActive}
use Rattle.mmtext.specs.Words.{Word, has_dollar}
use Rattle.mmsyntax.specs.Rows.{first_fault}
use Rattle.mmsyntax.proofs.Sound.{cond_none}
use Rattle.source.specs.Scopes.{Scope, is_in, is_named}
use Rattle.source.specs.Counts.{citation_of}
use Rattle.source.specs.Tests.{named_tests}
use Rattle.source.proofs.CountedWords.{named_cites}

-- where the tests of a label pass, it names something
pub names_some : (s : Scope) (w : Word) → first_fault (named_tests s w) ≡ None
    → citation_of s.assertions s.hypotheses w ≡ None → ⊥
names_some s w h none =
    let one = cond_none (has_dollar w) BadToken _ h in
    let two = cond_none (not (is_in s.labels w)) UnknownLabel _ one.1 in
    let three = cond_none (not (is_named s w)) NotActive _ two.1 in
    true≢false (sym (named_cites s w (not-false (is_named s w) three.0)) ∙ ap is_some none)
