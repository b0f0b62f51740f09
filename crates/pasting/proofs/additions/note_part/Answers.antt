-- What is left to show of `note_part`.
use Rattle.std.proofs.Common.{◌≡◌, ◌∙◌, ◌++◌, ◌∷◌, [], List, map, sym, ap, subst}
use Rattle.std.specs.Option.{option_map}
use Rattle.std.specs.Borrow.{Bor}
use Rattle.std.proofs.lemmas.List.{map-append}
use Rattle.mmtext.specs.Views.{seen}
use Rattle.mmtext.specs.Words.{Word}
use Rattle.source.specs.Scopes.{Assertion, Hypothesis, mandatory}
use Rattle.source.specs.Views.{seen_hypothesis, seen_hypotheses, seen_words}
use Rattle.taking.specs.Settings.{is_float}
use Rattle.std.specs.List.{zip}
use Rattle.pasting.specs.Additions.{added_by, floats_of, theorem_of, theorems_of}
use Rattle.pasting.specs.Views.{AreAdded, AreFloats, flags_of, seen_addition}
use Rattle.pasting.proofs.Adding.{added_more, are_floats}
use Rattle.pasting.proofs.additions.note_part.Goals as goal

pub returns : goal.returns
returns c = λ m t xs floats are.
    let a = c.in-Some.addition in
    let x = theorem_of m t (seen_addition a) in
    let there = sym c.in_ok-addition.ensures ∙ ap (option_map seen_addition) c.in-Some.is in
    let old = c.args.noted.now in
    let fs = map seen_hypothesis c.args.floats.now in
    let all : AreFloats fs = subst AreFloats (sym floats) (are_floats t (zip m.floats t.floats)) in
    let hs : seen_hypotheses c.in_ok-mandatory.mandatory.items ≡ x.hypotheses =
    c.in_ok-mandatory.ensures all
    ∙ ap (λ (ks : List Hypothesis). mandatory (ks ++ map seen_hypothesis c.as_slice-premises.result.now)
    (seen_words c.as_slice-statement.result.now)) floats
    ∙ ap (λ ps. mandatory (floats_of m t ++ map seen_hypothesis ps) (seen_words c.as_slice-statement.result.now))
    c.as_slice-premises.ensures.value
    ∙ ap (λ ws. mandatory (floats_of m t ++ map seen_hypothesis a.premises.items) (seen_words ws)) c.as_slice-statement.ensures.value in
    let more = added_more m t xs (seen_words old.labels.items) old.flags.items (map seen_addition old.added.items) are (seen_addition a) in
    let by : added_by m t (map seen c.args.part.now) ≡ x ∷ [] = ap (theorems_of m t) there in
    let labels : seen_words c.push-2.new.self.items ≡ seen_words old.labels.items ++ a.label.text.now ∷ [] =
    ap seen_words c.in_ok-push-2.ensures.items ∙ map-append (λ (w : Bor Word). w.now) old.labels.items _ in
    let flags : c.push.new.self.items ≡ old.flags.items ++ flags_of x ∷ [] =
    c.in_ok-push.ensures.items ∙ ap (λ f. old.flags.items ++ f ∷ []) (c.in_ok-flags_of.ensures ∙ ap (map is_float) hs) in
    let own : map seen_addition c.push-3.new.self.items ≡ map seen_addition old.added.items ++ seen_addition a ∷ [] =
    ap (map seen_addition) c.in_ok-push-3.ensures.items ∙ map-append seen_addition old.added.items _ in
    subst (λ (ys : List Assertion). AreAdded m t (xs ++ ys) (seen_words c.push-2.new.self.items) c.push.new.self.items
    (map seen_addition c.push-3.new.self.items)) (sym by)
    (record {
      labels_are = labels ∙ more.labels_are;
      flags_are = flags ∙ more.flags_are;
      theorems_are = ap (map (theorem_of m t)) own ∙ more.theorems_are;
    })
