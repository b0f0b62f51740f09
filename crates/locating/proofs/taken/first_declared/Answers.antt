-- What is left to show of `first_declared`.
use Rattle.std.proofs.Common.{◌≤◌, length, map, Some, sym, ap, ◌∙◌, arith}
use Rattle.std.specs.Prelude.{◌&&◌, ◌||◌}
use Rattle.std.specs.Option.{option_map}
use Rattle.std.proofs.lemmas.List.{length-map}
use Rattle.mmtext.specs.Views.{seen}
use Rattle.locating.specs.Fronts.{says}
use Rattle.locating.specs.Taken.{Spoken, spoken, declares_label, declares_symbol}
use Rattle.locating.proofs.Spoken.{as_many, later, here, nowhere, within_spoken, one, at_words, past}
use Rattle.locating.proofs.taken.first_declared.Goals as goal

pub returns-then-is_declaration : goal.returns-then-is_declaration
returns-then-is_declaration c =
    let words = c.args.words.now in
    let i = c.loop-at.at in
    let lt = c.loop-at-test.true in
    let p = λ (s : Spoken). says c.args.name.now s.word && (declares_label s || declares_symbol s) in
    let is = at_words words i past lt in
    sym (ap (option_map (λ (s : Spoken). s.word))
    (here p (spoken (map seen words)) i (one words i past lt) (within_spoken words i past lt) c.loop-at.invariant
    (ap p is ∙ sym c.is_declaration.ensures ∙ c.if-is_declaration.true))
    ∙ ap (λ (s : Spoken). Some s.word) is)

pub loop-at-preserved : goal.loop-at-preserved
loop-at-preserved c =
    let words = c.args.words.now in
    let i = c.loop-at.at in
    let lt = c.loop-at-test.true in
    let p = λ (s : Spoken). says c.args.name.now s.word && (declares_label s || declares_symbol s) in
    later p (spoken (map seen words)) i (one words i past lt) (within_spoken words i past lt) c.loop-at.invariant
    (ap p (at_words words i past lt) ∙ sym c.is_declaration.ensures ∙ c.if-is_declaration.false)

pub returns : goal.returns
returns c =
    let words = c.args.words.now in
    let p = λ (s : Spoken). says c.args.name.now s.word && (declares_label s || declares_symbol s) in
    let many = as_many (map seen words) in
    let long = length-map words seen in
    let le : length (spoken (map seen words)) ≤ c.loop-at.at = omega (arith, many, long, c.loop-at-test.false) in
    sym (ap (option_map (λ (s : Spoken). s.word)) (nowhere p (spoken (map seen words)) c.loop-at.at le c.loop-at.invariant))
