-- What is left to show of `note_script`.
use Rattle.std.proofs.Common.{◌≡◌, ◌∙◌, ◌++◌, ◌∷◌, [], List, map, take, refl, sym, ap, subst, arith}
use Rattle.std.specs.List.{flat_map}
use Rattle.std.proofs.lemmas.Grind.{flat_map-append}
use Rattle.std.proofs.lemmas.List.{append_assoc, append-nil, drop_all}
use Rattle.mmtext.specs.Views.{seen}
use Rattle.source.specs.Scopes.{Assertion}
use Rattle.spreading.specs.Forms.{AreParts}
use Rattle.spreading.proofs.Parted.{more_within, some_first, part_first, words_behind}
use Rattle.pasting.specs.Additions.{added_by}
use Rattle.pasting.specs.Views.{AreNoted}
use Rattle.pasting.proofs.additions.note_script.Goals as goal

pub loop-at-smaller : goal.loop-at-smaller
loop-at-smaller c =
    let words = c.args.words.now in
    let at = c.loop-at.at in
    let n = c.part_length.result in
    let lt = c.loop-at-test.true in
    let some = some_first words at n lt c.part_length.ensures.within c.part_length.ensures.part (take n (words_behind words at)) refl in
    omega arith

pub loop-at-preserved : goal.loop-at-preserved
loop-at-preserved c =
    let words = c.args.words.now in
    let at = c.loop-at.at in
    let n = c.part_length.result in
    let lt = c.loop-at-test.true in
    let part = take n (words_behind words at) in
    let within = c.part_length.ensures.within in
    let first = c.part_length.ensures.part in
    let p = map seen part in
    let new = c.note_part.new.noted in
    let kept = c.loop-at.invariant in
    record {
      within = more_within words at n lt within first part refl;
      noted = λ m t xs floats are.
          let d = kept.noted m t xs floats are in
          let all = flat_map (added_by m t) in
          let same : (xs ++ all d.0) ++ added_by m t p ≡ xs ++ all (d.0 ++ p ∷ []) =
          append_assoc xs (all d.0) (added_by m t p)
          ∙ ap (λ ys. xs ++ (all d.0 ++ ys)) (sym (append-nil (added_by m t p)))
          ∙ ap (λ ys. xs ++ ys) (sym (flat_map-append (added_by m t) d.0 (p ∷ []))) in (
            d.0 ++ p ∷ [],
            λ ps parts.
                subst (AreParts (map seen words)) (sym (append_assoc d.0 (p ∷ []) ps))
                (d.1 (p ∷ ps) (part_first words at n lt within first part refl ps parts)),
            subst (λ (ys : List Assertion). AreNoted m t ys new) same
                (c.in_ok-note_part.ensures m t (xs ++ all d.0) floats d.2),
          );
    }

pub returns : goal.returns
returns c = λ m t xs floats are.
    let words = c.args.words.now in
    let d = c.loop-at.invariant.noted m t xs floats are in
    let none = ap (map seen) (drop_all c.loop-at.at words c.loop-at-test.false) in
    (d.0, subst (AreParts (map seen words)) (append-nil d.0) (d.1 [] none), d.2)
