-- What is left to show of `widened`.
use Rattle.std.proofs.Common.{◌≡◌, ◌∙◌, Bool, true, false, List, length, sym, ap, subst}
use Rattle.std.specs.Prelude.{nat_lt, filter, slice_get}
use mathlib.Core.Bool.{not}
use Rattle.std.proofs.lemmas.List.{with_items_is}
use Rattle.std.proofs.lemmas.List.Elements.{same_from_all_zip}
use Rattle.source.specs.Scopes.{is_in}
use Rattle.choosing.specs.Marks.{AreWidened}
use Rattle.choosing.proofs.Turns.{widened_more, widened_same}
use Rattle.choosing.proofs.nearest.widened.Goals as goal

pub returns-then-have_room-clause-widened : goal.returns-then-have_room-clause-widened
returns-then-have_room-clause-widened g c =
    λ ws are.
    let xs = (g.D.Declared.scope c.args.declared.now).assertions in
    let wanted = c.args.wanted.items in
    let more = c.mark_needed.new.marks in
    let made : c.in_ok-more.more.items ≡ wanted =
    same_from_all_zip _ wanted c.in_ok-more.more.items c.in_ok-more.ensures.cases.0 (λ x y e. e) in
    let now = with_items_is c.in_ok-more.more more (c.mark_needed.auto.marks ∙ c.deref_mut.ensures.len) in
    let marked = c.in_ok-mark_needed.ensures.marked (is_in ws) (are ∙ sym made ∙ sym c.deref_mut.ensures.value) in
    let room : not (nat_lt c.args.most (length (filter (λ b. b) more))) ≡ true =
    ap (λ (bs : List Bool). not (nat_lt c.args.most (length (filter (λ b. b) bs)))) (sym (c.deref.ensures.value ∙ now))
    ∙ sym c.have_room.ensures
    ∙ c.if-have_room.true in
    subst (λ (bs : List Bool). AreWidened c.args.most xs c.args.place ws bs (slice_get xs c.args.place)) (sym now)
    (widened_more c.args.most xs c.args.place ws more (slice_get xs c.args.place) marked room)

pub returns-clause-widened : goal.returns-clause-widened
returns-clause-widened g c =
    λ ws are.
    let xs = (g.D.Declared.scope c.args.declared.now).assertions in
    let wanted = c.args.wanted.items in
    let more = c.mark_needed.new.marks in
    let made : c.in_ok-more.more.items ≡ wanted =
    same_from_all_zip _ wanted c.in_ok-more.more.items c.in_ok-more.ensures.cases.0 (λ x y e. e) in
    let now = with_items_is c.in_ok-more.more more (c.mark_needed.auto.marks ∙ c.deref_mut.ensures.len) in
    let marked = c.in_ok-mark_needed.ensures.marked (is_in ws) (are ∙ sym made ∙ sym c.deref_mut.ensures.value) in
    let room : not (nat_lt c.args.most (length (filter (λ b. b) more))) ≡ false =
    ap (λ (bs : List Bool). not (nat_lt c.args.most (length (filter (λ b. b) bs)))) (sym (c.deref.ensures.value ∙ now))
    ∙ sym c.have_room.ensures
    ∙ c.if-have_room.false in
    widened_same c.args.most xs c.args.place ws more wanted (slice_get xs c.args.place) marked room are
