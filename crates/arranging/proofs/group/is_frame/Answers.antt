-- What is left to show of `is_frame`.
use Rattle.std.proofs.Common.{◌≡◌, true, [], ◌∷◌, ◌++◌, IsTrue, length, subst, arith}
use Rattle.std.proofs.lemmas.Bool.Decides.{nat_tests}
use Rattle.std.proofs.lemmas.List.Elements.{All-nil, All-push}
use Rattle.items.specs.Items.{Item, words}
use Rattle.items.proofs.PutThen.{is_item}
use Rattle.arranging.specs.Lines.{is_in_lines}
use Rattle.arranging.specs.Written.{AreBetween}
use Rattle.arranging.specs.Groups.{gives_frame}
use Rattle.arranging.proofs.Anew.{none_between, one_between, both_between}
use Rattle.arranging.proofs.group.is_frame.Goals as goal

abbrev InLines : Item → Type 0
InLines x = IsTrue (is_in_lines 79 x)

pub loop-item-init : goal.loop-item-init
loop-item-init c = record {
  within = c.requires;
  frame = ([], none_between c.args.text.now c.args.from, All-nil (λ (x : Item). gives_frame (words x) ≡ true), All-nil InLines);
}

pub loop-item-preserved : goal.loop-item-preserved
loop-item-preserved c =
    let text = c.args.text.now in
    let at = c.loop-item.at in
    let end = c.in-Some.item.end in
    let is = c.in-Some.ensures.item in
    let so_far = c.loop-item.invariant.frame in
    record {
      within = c.in-Some.ensures.within;
      frame = (
        so_far.0 ++ is.item ∷ [],
        both_between text c.args.from at end so_far.0 (is.item ∷ []) so_far.1
            (one_between text at end is.item is.stands (is_item c.in-Some.item.kind is.item is.kind)),
        All-push (λ (x : Item). gives_frame (words x) ≡ true) so_far.0 is.item so_far.2
            (c.gives_frame.ensures is.item is.stands c.if-not-gives_frame.false),
        All-push InLines so_far.0 is.item so_far.3 (c.is_in_lines.ensures is.item is.stands c.if-not-is_in_lines.false),
      );
    }

pub returns : goal.returns
returns c = λ all.
    let so_far = c.loop-item.invariant.frame in
    let whole : c.loop-item.at ≡ length c.args.text.now = grind (arith, nat_tests) in record {
      frame = so_far.0;
      are = subst (AreBetween c.args.text.now c.args.from so_far.0) whole so_far.1;
      each = so_far.2;
      laid_out = so_far.3;
    }
