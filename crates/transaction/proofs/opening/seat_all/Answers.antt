use Rattle.std.proofs.Common.{◌≡◌, None, List, [], ◌++◌, length, map, refl, sym, ap, ◌∙◌, append-nil, arith}
use Rattle.std.specs.Vec.Iter.{into_iter_items}
use Rattle.std.proofs.lemmas.List.{nil_from_length}
use Rattle.std.proofs.lemmas.List.Elements.{All-rest}
use Rattle.tlwords.specs.Known.{Known, Knows}
use Rattle.lawful.specs.declared.notes.Given.{Given}
use Rattle.lawful.specs.declared.notes.Note.{Note}
use Rattle.lawful.specs.Lawful.{library_terms}
use Rattle.lawful.specs.Laws.{IsPassOn}
use Rattle.transaction.specs.Openings.{seated}
use Rattle.transaction.proofs.Opened.{none_staged, seat_next}
use Rattle.transaction.proofs.opening.seat_all.Goals as goal

pub invariant_of-kit : goal.invariant_of-kit
invariant_of-kit c = none_staged c.in-Some.pass.seen.ranges c.new.result c.new.ensures

pub loop-pass-preserved : goal.loop-pass-preserved
loop-pass-preserved c =
    let i = c.loop-pass.invariant in
    let next = c.in-Some.ensures.steps in
    let pushed = c.push_reserved.ensures in
    let n = ap length next.0 in
    record {
      all = seat_next c.args.given.now c.of.result.value c.in-Some.pass c.new-in-loop-pass.result.items c.new.result
          c.of-lacked_room.result.value
          c.loop-pass.sessions.items
          c.push_reserved.new.self.items _ _ c.args.passes.items pushed.items c.of.ensures c.new-in-loop-pass.ensures.items c.new.ensures
          c.of-lacked_room.ensures
          next.0 i.all;
      left = let l = i.left in omega (arith, n, l, next.1);
      room = let r = i.room in omega (arith, n, r, pushed.len, pushed.capacity);
      on = All-rest (IsPassOn c.args.given.now) c.in-Some.pass _ _ next.0 i.on;
      knows = All-rest (Knows library_terms) c.in-Some.pass _ _ next.0 i.knows;
      new = All-rest (λ (k : Known Given Note). k.drawn ≡ []) c.in-Some.pass _ _ next.0 i.new;
      unrefused = All-rest (λ (k : Known Given Note). k.full ≡ None) c.in-Some.pass _ _ next.0 i.unrefused;
    }

pub loop-pass-init : goal.loop-pass-init
loop-pass-init c =
    let none = c.in_ok-sessions.ensures.items in
    let wide = c.in_ok-sessions.ensures.capacity in
    let given = c.into_iter-pass-iterator.ensures.into_iter_gives in
    let items = ap length given.0 in
    let len = given.1 in
    let few = ap length none in
    let long = c.len.ensures in
    record {
      all = rw (none, given.0) refl;
      left = omega (arith, items, len);
      room = omega (arith, few, wide, items, long);
      on = rw given.0 c.requires.on;
      knows = rw given.0 c.requires.knows;
      new = rw given.0 c.requires.new;
      unrefused = rw given.0 c.requires.unrefused;
    }

pub returns : goal.returns
returns c =
    let i = c.loop-pass.invariant in
    let seats = c.loop-pass.sessions.items in
    let none = nil_from_length (into_iter_items c.loop-pass.pass-iterator) (sym i.left ∙ c.in-None.ensures.steps.0) in
    sym (append-nil seats) ∙ ap (λ (ks : List (Known Given Note)). seats ++ map (seated c.args.given.now) ks) (sym none) ∙ i.all
