-- What is left to show of `letters_of`.
use Rattle.std.proofs.Common.{◌≡◌, ◌∙◌, List, Some, false, Bool, Vec, Global, None, length, get_or, replicate, refl, sym, ap, subst, arith, rules}
use Rattle.std.specs.Prelude.{slice_get}
use Rattle.std.proofs.lemmas.Option.{slice_get-get_or}
use Rattle.sourcewriting.specs.declared.lettering.Letters.{Letters}
use Rattle.sourcewriting.specs.declared.walking.Put.{Put}
use Rattle.sourcewriting.specs.Walked.{unwalked, ArePut}
use Rattle.sourcewriting.proofs.Lettered.{none_lettered, put_there, put_by, all_said}
use Rattle.sourcewriting.proofs.lettering.letters_of.Goals as goal

pub loop-put-init : goal.loop-put-init
loop-put-init c = record {
  again = refl;
  read = λ cs sound there numbers labels few.
      let s = c.args.shared.now in
      let puts = c.in_ok-puts.ensures sound there in
      let l : Letters = record {
        numbers = c.args.numbers;
        labels = c.args.labels;
        again = c.in_ok-again_of.field-0;
        marks = c.in_ok-vec.field-0;
        marked = 0;
        text = c.new.result;
      } in
      let marks : c.in_ok-vec.field-0.items ≡ replicate (length s.nodes.items) None =
      c.in_ok-vec.ensures.items_if_clones_equal (λ y is. search rules) ∙ ap (λ n. replicate n None) c.len-2.ensures in (
        unwalked (length s.nodes.items),
        puts.0,
        subst (λ (ps : List Put). ArePut s ps (unwalked (length s.nodes.items)) puts.0) (sym c.as_slice-puts.ensures.value) puts.1,
        none_lettered s cs l c.new.ensures.items marks refl,
        record { numbers = numbers; labels = labels; few = few },
      );
}

pub loop-put-preserved : goal.loop-put-preserved
loop-put-preserved c = record {
  again = c.in_ok-put.ensures.same ∙ c.loop-put.invariant.again;
  read = λ cs sound there numbers labels few.
      let s = c.args.shared.now in
      let puts = c.as_slice-puts.result.now in
      let i = c.loop-put.put-index in
      let was = c.loop-put.invariant.read cs sound there numbers labels few in
      let p : Put = get_or puts i (record { node = 0; is_again = false }) in
      let next = put_by s puts i (record { node = 0; is_again = false }) was.0 was.1 c.loop-put-test.true was.2 in
      let at : slice_get puts i ≡ Some p = slice_get-get_or puts i (record { node = 0; is_again = false }) c.loop-put-test.true in
      let low = put_there s p.node p.is_again was.0 next.0 next.1 in
      let done = c.in_ok-put.ensures.read cs was.0 next.0 sound was.4 next.1
      (λ is.
      ap (λ (a : Vec Bool Global). slice_get a.items p.node) c.loop-put.invariant.again
      ∙ c.in_ok-again_of.ensures i p at is (omega (arith, low, c.len.ensures))) was.3 in
      (next.0, was.1, next.2, done.0, done.1);
}

pub returns : goal.returns
returns c = λ cs sound there numbers labels few.
    let was = c.loop-put.invariant.read cs sound there numbers labels few in
    (was.3.codes, was.3.read, all_said c.loop-put.letters.text.items was.3.codes was.3.said, was.3.leads)
