-- Steps of a normal proof: the faults of `?` and of labels.
use Rattle.std.proofs.Common.{◌≡◌, true, false, cond, List, [], ◌∷◌, ◌++◌, Some, None}
use Rattle.std.proofs.Common.{ap, ◌∙◌}
use mathlib.Core.Bool.{not}
use Rattle.std.proofs.lemmas.Bool.{cond-false}
use Rattle.mmtext.specs.declared.fault.FaultKind.TheVariants.{BadToken, UnknownLabel, NotActive}
use Rattle.mmtext.specs.Words.{Word, has_dollar}
use Rattle.mmsyntax.specs.Rows.{first_fault}
use Rattle.mmsyntax.proofs.Sound.{cond_none}
use Rattle.source.specs.Scopes.{Scope, is_in, is_named, is_unknown}
use Rattle.source.specs.Proofs.{labels_go_on}
use Rattle.source.specs.Tests.{named_tests, step_tests}

-- ---- steps

-- ? has no fault
pub unknown_step : (s : Scope) (ws : List Word) (w : Word) → is_unknown w ≡ true → first_fault (step_tests s ws w) ≡ None
unknown_step s ws w u =
    ap (λ b. first_fault (cond b [] (named_tests s w ++ (not (labels_go_on s.assertions s.hypotheses (ws ++ w ∷ [])), BadToken) ∷ []))) u

-- a label that passes its tests has none where what it takes is there
pub known_step : (s : Scope) (ws : List Word) (w : Word) → is_unknown w ≡ false → first_fault (named_tests s w) ≡ None
    → labels_go_on s.assertions s.hypotheses (ws ++ w ∷ []) ≡ true → first_fault (step_tests s ws w) ≡ None
known_step s ws w u h goes =
    let there = labels_go_on s.assertions s.hypotheses (ws ++ w ∷ []) in
    let last = cond (not there) (Some BadToken) None in
    let active = cond (not (is_named s w)) (Some NotActive) last in
    let known = cond (not (is_in s.labels w)) (Some UnknownLabel) active in
    let one = cond_none (has_dollar w) BadToken _ h in
    let two = cond_none (not (is_in s.labels w)) UnknownLabel _ one.1 in
    let three = cond_none (not (is_named s w)) NotActive _ two.1 in
    ap (λ b. first_fault (cond b [] (named_tests s w ++ (not there, BadToken) ∷ []))) u
    ∙ cond-false (has_dollar w) (Some BadToken) known one.0
    ∙ cond-false (not (is_in s.labels w)) (Some UnknownLabel) active two.0
    ∙ cond-false (not (is_named s w)) (Some NotActive) last three.0
    ∙ cond-false (not there) (Some BadToken) None (ap not goes)
