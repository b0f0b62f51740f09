-- What is left to show of `repeat`.
use Rattle.std.proofs.Common.{◌≡◌, ◌∙◌, ◌<◌, ◌++◌, ◌∷◌, [], ℕ, List, sym, ap, subst, length}
use Rattle.std.specs.Prelude.{slice_get, Some}
use Rattle.std.proofs.lemmas.List.Elements.{All-from_recursion, recursion_from_All}
use Rattle.taking.specs.Decoding.{stack_on, AreCovered}
use Rattle.taking.specs.Nodes.{AreBelow}
use Rattle.mmsyntax.proofs.Distinct.{all_append}
use Rattle.source.proofs.Lent.{got_lent}
use Rattle.taking.proofs.Listed.{all_at}
use Rattle.taking.proofs.Covered.{again}
use Rattle.taking.proofs.Stacked.{repeats, repeats_none}
use Rattle.taking.proofs.decoder.Decoder.repeat.Goals as goal

pub returns-in_default-clause-repeated : goal.returns-in_default-clause-repeated
returns-in_default-clause-repeated c =
    let d = c.args.self.now in
    let at = ap (λ xs. slice_get xs c.args.number) (sym c.deref.ensures.value)
    ∙ sym (got_lent c.deref.result.now c.args.number c.get.result c.get.ensures.lookup)
    ∙ sym c.copied.ensures in
    λ labels.
    repeats_none labels d.nodes d.entries.items d.marked.items
    (recursion_from_All (λ k. k < length d.nodes) d.marked.items c.requires.marked) c.args.number (at ∙ c.in_default.is)

pub returns-clause-stands : goal.returns-clause-stands
returns-clause-stands c =
    let d = c.args.self.now in
    let k = c.in-Some.node in
    let at : slice_get d.marked.items c.args.number ≡ Some k =
    ap (λ xs. slice_get xs c.args.number) (sym c.deref.ensures.value)
    ∙ sym (got_lent c.deref.result.now c.args.number c.get.result c.get.ensures.lookup)
    ∙ sym c.copied.ensures
    ∙ c.in-Some.is in
    let below = λ (i : ℕ). i < length d.nodes in
    let in' = all_at below d.marked.items c.args.number k (recursion_from_All below d.marked.items c.requires.marked) at in
    λ _.
    record {
      entries = subst (λ (es : List ℕ). AreBelow (length d.nodes) es) (sym c.in_ok-push.ensures.items)
          (All-from_recursion below (d.entries.items ++ k ∷ [])
          (all_append below d.entries.items (k ∷ []) (recursion_from_All below d.entries.items c.requires.entries) (in', tt)));
      marked = c.requires.marked;
      whole = c.requires.whole;
      covered = subst (λ (es : List ℕ). AreCovered d.nodes es) (sym c.in_ok-push.ensures.items)
          (λ labels test. again labels test d.nodes d.entries.items k (c.requires.covered labels test));
    }

pub returns-clause-repeated : goal.returns-clause-repeated
returns-clause-repeated c =
    let d = c.args.self.now in
    let at = ap (λ xs. slice_get xs c.args.number) (sym c.deref.ensures.value)
    ∙ sym (got_lent c.deref.result.now c.args.number c.get.result c.get.ensures.lookup)
    ∙ sym c.copied.ensures in
    λ labels.
    repeats labels d.nodes d.entries.items d.marked.items
    (recursion_from_All (λ k. k < length d.nodes) d.marked.items c.requires.marked) c.args.number c.in-Some.node (at ∙ c.in-Some.is)
    ∙ ap (λ es. Some (stack_on labels d.nodes es d.marked.items)) (sym c.in_ok-push.ensures.items)
