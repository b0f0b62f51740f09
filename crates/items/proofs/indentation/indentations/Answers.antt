-- What is left to show of `indentations`.
use Rattle.std.proofs.Common.{◌≡◌, ◌∙◌, Bool, false, Option, Some, None, sym, ap, subst}
use Rattle.std.specs.Prelude.{IfNone, is_some}
use Rattle.std.proofs.lemmas.List.{map_push}
use Rattle.source.specs.Views.{seen_pairs}
use Rattle.items.proofs.Indented.{AreIndented, one_with, one_without, all_indented}
use Rattle.items.proofs.indentation.indentations.Goals as goal

none_if : {A : Type 0} {Q : Type 0} (left : Option A) (some : Bool) → some ≡ is_some left → some ≡ false → IfNone left Q → Q
none_if None some e not_some q = q
none_if (Some t) some e not_some q = absurd cc

pub loop-item-preserved-in_ok-push : goal.loop-item-preserved-in_ok-push
loop-item-preserved-in_ok-push c =
    let is = c.in-Some.ensures.item in
    let pair = c.in-Some-indented.pair in
    record {
      within = c.in-Some.ensures.within;
      so_far =
          one_with c.args.source.now c.loop-item.at c.in-Some.item (seen_pairs c.loop-item.pairs.items)
          (seen_pairs c.push.new.self.items) (pair.0.now, pair.1.now) c.loop-item.invariant.so_far is
          (sym (c.in-Some-indented.ensures is.item is.stands is.kind))
          (ap seen_pairs c.in_ok-push.ensures.items ∙ map_push (λ p. (p.0.now, p.1.now)) c.loop-item.pairs.items pair);
      divided = λ d. c.in-Some.ensures.divided (c.loop-item.invariant.divided d);
    }

pub loop-item-preserved : goal.loop-item-preserved
loop-item-preserved c =
    let is = c.in-Some.ensures.item in
    record {
      within = c.in-Some.ensures.within;
      so_far =
          one_without c.args.source.now c.loop-item.at c.in-Some.item (seen_pairs c.loop-item.pairs.items)
          c.loop-item.invariant.so_far is (sym (c.in_default-indented.ensures is.item is.stands is.kind));
      divided = λ d. c.in-Some.ensures.divided (c.loop-item.invariant.divided d);
    }

pub returns-clause-indentations : goal.returns-clause-indentations
returns-clause-indentations c =
    all_indented c.args.source.now c.loop-item.at c.in_ok-new.field-0
    (subst (AreIndented c.args.source.now c.loop-item.at) (sym c.in_ok-new.ensures) c.loop-item.invariant.so_far)
    (none_if c.next_token.result c.is_some.result c.is_some.ensures c.if-is_some.false c.next_token.ensures.none)
