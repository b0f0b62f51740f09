-- What is left to show of `numbers_of`.
use Rattle.std.proofs.Common.{◌≡◌, ◌∙◌, ◌<◌, ◌+◌, ◌++◌, ◌^◌, Some, [], ◌∷◌, length, get_or, sym, ap, subst, inl, inr, arith}
use Rattle.std.specs.Prelude.{slice_get}
use Rattle.std.proofs.lemmas.Bool.{cases_lt}
use Rattle.std.proofs.lemmas.List.{length_push}
use Rattle.std.proofs.lemmas.Option.{get_or_from_slice_get}
use Rattle.mmsyntax.proofs.Items.{get_before}
use Rattle.source.specs.Views.{seen_words}
use Rattle.taking.proofs.Values.{get_last}
use Rattle.sourcewriting.specs.declared.shared.CountedLabel.{CountedLabel}
use Rattle.sourcewriting.proofs.Counted.{none_more, one_more_at}
use Rattle.sourcewriting.proofs.Numbering.{numbers_stay}
use Rattle.sourcewriting.proofs.Told.{contained}
use Rattle.sourcewriting.proofs.wording.numbers_of.Goals as goal

pub loop-word-init : goal.loop-word-init
loop-word-init c = record {
  more = none_more c.args.words.now c.args.others.now.items;
  few = omega arith;
  many = ap length c.in_ok-numbers.ensures.items;
  numbered = λ few untaken i x at low. absurd (omega (arith, low));
}

pub loop-word-preserved : goal.loop-word-preserved
loop-word-preserved c =
    let words = c.args.words.now in
    let index = c.loop-word.word-index in
    let d : CountedLabel = record { label = record { ref_ptr = (0, 0); now = [] }; takes = 0 } in
    let w = get_or words index d in
    let ns = c.loop-word.numbers.items in
    let k = c.in_ok-number_of.field-0 in
    let mandatory = seen_words c.args.mandatory.now in
    let old = c.loop-word.others.items in
    let new = c.number_of.new.others.items in
    let push = c.in_ok-push.ensures.items in
    let long = length_push ns k in
    let more = ap length push in
    record {
      more =
          one_more_at words c.args.others.now.items old new index d c.loop-word-test.true c.loop-word.invariant.more
          c.in_ok-number_of.ensures.more;
      few = omega (arith, c.in_ok-number_of.ensures.few, c.loop-word.invariant.few);
      many = omega (arith, long, more, c.loop-word.invariant.many);
      numbered = λ few untaken i x at low.
          elim (cases_lt i index) [
            | inl h ↦
                let was = c.loop-word.invariant.numbered few untaken i x at h in (
                  was.0,
                  ap (λ ns. slice_get ns i) push ∙ get_before ns k was.0 i was.1,
                  numbers_stay mandatory old new w.label.now w.takes c.in_ok-number_of.ensures.more was.0 (x.label.now, x.takes) was.2,
                )
            | inr g ↦
                let same : i ≡ index = omega (arith, low, g) in
                let here : slice_get words index ≡ Some x = subst (λ i. slice_get words i ≡ Some x) same at in
                let is : w ≡ x = get_or_from_slice_get words index x d here in
                let room : length c.args.mandatory.now + length old < 2 ^ 64 =
                omega (arith, few, c.loop-word.invariant.few, c.loop-word-test.true) in (
                  k,
                  ap (λ ns. slice_get ns i) push
                      ∙ ap (slice_get (ns ++ k ∷ [])) (same ∙ sym c.loop-word.invariant.many)
                      ∙ get_last ns k,
                  c.in_ok-number_of.ensures.numbered room
                      (λ has. untaken w (contained words index w (here ∙ ap (λ x. Some x) (sym is))) has)
                      ∙ ap (λ (x : CountedLabel). Some (x.label.now, x.takes)) is,
                )
          ];
    }
