-- What is left to show of `given_to_addition`.
use Rattle.std.proofs.Common.{◌≡◌, ◌∙◌, ◌++◌, List, map, refl, sym, ap, subst}
use Rattle.std.specs.List.{zip}
use Rattle.source.specs.Scopes.{Hypothesis, mandatory}
use Rattle.source.specs.Views.{seen_hypothesis, seen_hypotheses, seen_words}
use Rattle.taking.proofs.Turned.{if_ok}
use Rattle.prooftrees.specs.Roles.{role_of}
use Rattle.pasting.specs.Additions.{floats_of, theorem_of}
use Rattle.pasting.specs.Views.{AreFloats, seen_addition}
use Rattle.pasting.proofs.Adding.{are_floats}
use Rattle.pasting.proofs.Citable.{frames_are}
use Rattle.pasting.proofs.reading.given_to_addition.Goals as goal

pub returns : goal.returns
returns g c =
    let s = g.D.Declared.scope c.args.citing.now.declared.now in
    let a = c.args.citing.now.additions.now in
    let b = seen_addition c.args.addition.now in
    if_ok c.given.result
    (λ told h. λ m t xs known.
    let x = theorem_of m t b in
    let floats : map seen_hypothesis c.as_slice-floats.result.now ≡ floats_of m t =
    ap (map seen_hypothesis) c.as_slice-floats.ensures.value ∙ known.floats_are in
    let premises : map seen_hypothesis c.as_slice-premises.result.now ≡ b.premises =
    ap (map seen_hypothesis) c.as_slice-premises.ensures.value in
    let active : seen_hypotheses c.in_ok-all_of.field-0.items ≡ x.active =
    c.in_ok-all_of.ensures
    ∙ ap (λ (hs : List Hypothesis). hs ++ map seen_hypothesis c.as_slice-premises.result.now) floats
    ∙ ap (λ (hs : List Hypothesis). floats_of m t ++ hs) premises in
    let all : AreFloats (map seen_hypothesis c.as_slice-floats.result.now) =
    subst AreFloats (sym floats) (are_floats t (zip m.floats t.floats)) in
    let own : seen_hypotheses c.in_ok-mandatory.mandatory.items ≡ x.hypotheses =
    c.in_ok-mandatory.ensures all
    ∙ ap (λ (hs : List Hypothesis). mandatory (hs ++ map seen_hypothesis c.as_slice-premises.result.now)
    (seen_words c.as_slice-statement.result.now)) floats
    ∙ ap (λ (hs : List Hypothesis). mandatory (floats_of m t ++ hs) (seen_words c.as_slice-statement.result.now)) premises
    ∙ ap (λ ws. mandatory (floats_of m t ++ b.premises) (seen_words ws)) c.as_slice-statement.ensures.value in
    h (s.assertions ++ xs) x (frames_are m t s.assertions xs a known)
    (λ w. c.in_ok-roles.ensures w ∙ ap (λ hs. role_of hs w) active) (sym own) refl)
    c.given.ensures
