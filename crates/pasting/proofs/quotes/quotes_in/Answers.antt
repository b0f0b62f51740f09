-- What is left to show of `quotes_in`.
use Rattle.std.proofs.Common.{◌≡◌, ◌≤◌, ◌∙◌, ◌+◌, ◌-◌, ◌++◌, ◌∷◌, [], suc, map, take, refl, sym, ap, subst, arith, codes}
use Rattle.std.specs.Int.{from_bool}
use Rattle.std.proofs.lemmas.List.{append_assoc, append-nil, drop_all}
use Rattle.mmtext.specs.Views.{seen}
use Rattle.expanding.specs.Descriptions.{begun_behind}
use Rattle.spreading.specs.Forms.{AreParts, begins_with}
use Rattle.expanding.proofs.Fronting.{begun_more, begun_few}
use Rattle.spreading.proofs.Parted.{more_within, some_first, part_first, words_behind}
use Rattle.pasting.specs.Quotes.{quotes_behind, quotes_of}
use Rattle.pasting.specs.Views.{seen_quote}
use Rattle.pasting.proofs.Quoting.{quoted_more}
use Rattle.pasting.proofs.quotes.quotes_in.Goals as goal

pub loop-at-smaller : goal.loop-at-smaller
loop-at-smaller c =
    let words = c.args.words.now in
    let at = c.loop-at.at in
    let n = c.part_length.result in
    let lt = c.loop-at-test.true in
    let some = some_first words at n lt c.part_length.ensures.within c.part_length.ensures.part (take n (words_behind words at)) refl in
    omega arith

pub loop-at-preserved : goal.loop-at-preserved
loop-at-preserved c =
    let words = c.args.words.now in
    let at = c.loop-at.at in
    let n = c.part_length.result in
    let lt = c.loop-at-test.true in
    let part = take n (words_behind words at) in
    let within = c.part_length.ensures.within in
    let first = c.part_length.ensures.part in
    let p = map seen part in
    let k = c.loop-at.begun in
    let found = c.loop-at.found.items in
    let some = some_first words at n lt within first part refl in
    let begun : k + c.from-begun.result ≡ begun_behind k p =
    begun_more (begins_with (codes "begin") p) k c.from-begun.result (c.from-begun.ensures ∙ ap from_bool c.is_beginning.ensures) in
    let few : begun_behind k p ≤ suc at = begun_few (begins_with (codes "begin") p) k at c.loop-at.invariant.few in
    let all : map seen_quote c.put_quotes.new.found.items ≡ map seen_quote found ++ quotes_of (begun_behind k p - 1) p =
    c.in_ok-put_quotes.ensures
    ∙ ap (λ j. map seen_quote found ++ quotes_of j p) (c.saturating_sub.ensures ∙ ap (λ j. j - 1) begun) in
    let d = c.loop-at.invariant.told in
    record {
      within = more_within words at n lt within first part refl;
      few = omega (arith, begun, few, some);
      told = (
        d.0 ++ p ∷ [],
        λ ps parts.
            subst (AreParts (map seen words)) (sym (append_assoc d.0 (p ∷ []) ps))
            (d.1 (p ∷ ps) (part_first words at n lt within first part refl ps parts)),
        λ ps.
            ap (λ j. map seen_quote c.put_quotes.new.found.items ++ quotes_behind j ps) begun
            ∙ quoted_more (map seen_quote found) (map seen_quote c.put_quotes.new.found.items) k p d.0 ps all (d.2 (p ∷ ps)),
      );
    }

pub returns : goal.returns
returns c =
    let words = c.args.words.now in
    let d = c.loop-at.invariant.told in
    let found = map seen_quote c.loop-at.found.items in
    let none = ap (map seen) (drop_all c.loop-at.at words c.loop-at-test.false) in (
      d.0,
      subst (AreParts (map seen words)) (append-nil d.0) (d.1 [] none),
      sym (append-nil found) ∙ (d.2 [] ∙ ap (quotes_behind 0) (append-nil d.0)),
    )
