-- What is left to show of `put_items`.
use Rattle.std.proofs.Common.{◌≡◌, ◌∙◌, ◌<◌, ◌≤◌, ◌-◌, ◌+◌, suc, min, List, [], length, drop, take, get_or, refl, sym, ap, subst, arith, inl, inr}
use Rattle.std.proofs.Common.{append-nil}
use Rattle.std.specs.Prelude.{slice_range}
use Rattle.std.proofs.lemmas.List.Elements.{All-take}
use Rattle.std.proofs.lemmas.List.{get_or-take, get_or-drop, length-drop}
use Rattle.items.specs.declared.reading.Item.{Item as Found}
use Rattle.items.specs.declared.reading.Kind.TheVariants.{Comment}
use Rattle.items.specs.Items.{Item}
use Rattle.items.specs.Reading.{AreFound}
use Rattle.items.proofs.Found.{IsNext, found_next}
use Rattle.items.specs.Items.{IsItem}
use Rattle.items.specs.Reading.{IsBehind}
use Rattle.items.specs.Machine.{IsPut}
use Rattle.items.proofs.Found.{behind_one, each_found, many_found}
use Rattle.items.proofs.PutThen.{is_item}
use Rattle.arranging.specs.Arranged.{ReadThen}
use Rattle.arranging.proofs.Printed.{put_more, clamped, nothing_between}
use Rattle.arranging.proofs.printing.Source.put_items.Goals as goal

pub loop-item-preserved : goal.loop-item-preserved
loop-item-preserved c =
    let text = c.args.self.text.now in
    let first = c.args.first in
    let fs = drop first c.args.self.items.now in
    let k = c.loop-item.item-index in
    let none : Found = record { kind = Comment; end = 0 } in
    let f = get_or c.in-Some.items.now k none in
    let cut = c.in-Some.ensures.lookup.0 in
    let within = cut.1 in
    let many = cut.3 in
    let left = length-drop first c.args.self.items.now in
    let lt : k < length fs = omega (arith, within, many, left) in
    let lt_end : k < c.min.result - first = omega (arith, many) in
    let same : get_or fs k none ≡ f =
    sym (ap (λ xs. get_or xs k none) cut.2 ∙ get_or-take (c.min.result - first) fs k none lt_end) in
    let so_far = c.loop-item.invariant.so_far in
    let is_next = λ (old : List Item) (h : AreFound text 0 c.args.self.items.now old).
    subst (IsNext text c.loop-item.at (drop (k + 1) fs) (drop first old) k) same
    (found_next text c.loop-item.at fs (drop first old) k none lt (so_far old h).0) in record {
      within = (is_next c.requires.0 c.requires.1).within;
      so_far = λ old h.
          let n = is_next old h in
          let put =
          c.in_ok-put_item.ensures.put (record { item = n.item; stands = n.stands; kind = n.kind }) c.if-not-branch.false in (
            n.left,
            put_more c.args.self.changes.now c.args.self.proofs.now (take k (drop first old)) (take (k + 1) (drop first old)) n.item
                c.args.out.now.items c.loop-item.out.items c.put_item.new.out.items n.so_far (so_far old h).1 put,
          );
      behind = λ old h.
          let at_item : get_or c.args.self.items.now (first + k) none ≡ f = sym (get_or-drop first c.args.self.items.now k none) ∙ same in
          let more : suc (first + k) ≡ first + (k + 1) = omega arith in
          subst (λ (g : Found). IsBehind text 0 c.args.self.items.now old (first + (k + 1)) g.end) at_item
          (subst (λ n. IsBehind text 0 c.args.self.items.now old n (get_or c.args.self.items.now (first + k) none).end) more
          (behind_one text 0 c.args.self.items.now old (first + k) none (omega (arith, lt, left)) h));
    }

pub loop-item-init : goal.loop-item-init
loop-item-init c = record {
  within = c.behind-at.ensures.within;
  so_far = λ old h.
      let out = c.args.out.now.items in (
        (c.behind-at.ensures.behind old h).left,
        ([], sym (append-nil out), record { texts = []; each = tt; whole = refl }),
      );
  behind = λ old h.
      let same : c.args.first ≡ c.args.first + 0 = omega arith in
      subst (λ n. IsBehind c.args.self.text.now 0 c.args.self.items.now old n c.behind-at.result) same (c.behind-at.ensures.behind old h);
}

pub returns-in_default-clause-put : goal.returns-in_default-clause-put
returns-in_default-clause-put c = λ old h _.
    let first = c.args.first in
    let e = c.min.result in
    let many = many_found c.args.self.text.now 0 c.args.self.items.now old h in
    let bound = c.min.ensures in
    let over : e ≤ first = elim c.in_default.ensures.lookup.0 [
      | inl lt ↦ omega (arith, lt)
      | inr lt ↦ omega (arith, lt, bound)
    ] in
    let none : slice_range old first c.args.end ≡ [] =
    sym (clamped old first c.args.end e (bound ∙ ap (min c.args.end) many)) ∙ nothing_between old first e over in (
      [],
      sym (append-nil c.args.out.now.items),
      subst (λ xs. ReadThen c.args.self.changes.now c.args.self.proofs.now xs []) (sym none)
          (record { texts = []; each = tt; whole = refl }),
    )

pub returns-then-not-branch-clause-bare : goal.returns-then-not-branch-clause-bare
returns-then-not-branch-clause-bare c = λ _.
    let text = c.args.self.text.now in
    let first = c.args.first in
    let all = c.args.self.items.now in
    let fs = drop first all in
    let k = c.loop-item.item-index in
    let none : Found = record { kind = Comment; end = 0 } in
    let f = get_or c.in-Some.items.now k none in
    let cut = c.in-Some.ensures.lookup.0 in
    let within = cut.1 in
    let many = cut.3 in
    let left = length-drop first all in
    let lt : k < length fs = omega (arith, within, many, left) in
    let lt_end : k < c.min.result - first = omega (arith, many) in
    let same : get_or fs k none ≡ f =
    sym (ap (λ xs. get_or xs k none) cut.2 ∙ get_or-take (c.min.result - first) fs k none lt_end) in
    let old = c.requires.0 in
    let h = c.requires.1 in
    let so_far = c.loop-item.invariant.so_far old h in
    let n = subst (IsNext text c.loop-item.at (drop (k + 1) fs) (drop first old) k) same
    (found_next text c.loop-item.at fs (drop first old) k none lt so_far.0) in
    let behind = c.loop-item.invariant.behind old h in (
      n.item,
      record {
        before = take (first + k) old;
        each = All-take IsItem (first + k) old (each_found text 0 all old h);
        from = c.loop-item.at;
        stands_before = behind.stands;
        end = f.end;
        stands = n.stands;
        is = is_item f.kind n.item n.kind;
      },
      c.in_ok-put_item.ensures.bare (record { item = n.item; stands = n.stands; kind = n.kind }) c.if-not-branch.true,
    )

pub returns-clause-put : goal.returns-clause-put
returns-clause-put c = λ old h _.
    let first = c.args.first in
    let e = c.min.result in
    let bound = c.min.ensures in
    let many = many_found c.args.self.text.now 0 c.args.self.items.now old h in
    let cut = c.in-Some.ensures.lookup.0 in
    let length_is = cut.3 in
    let k = c.loop-item.item-index in
    let over = c.loop-item-test.false in
    let within = c.loop-item.auto.item-index-end in
    let end : k ≡ e - first = omega (arith, over, within, length_is) in
    subst (λ xs. IsPut c.args.out.now.items c.loop-item.out.items (ReadThen c.args.self.changes.now c.args.self.proofs.now xs))
    (ap (λ n. take n (drop first old)) end ∙ clamped old first c.args.end e (bound ∙ ap (min c.args.end) many))
    (c.loop-item.invariant.so_far old h).1
