-- What is left to show of `gather`.
use Rattle.std.proofs.Common.{rules, arith, inl, inr, ◌≡◌, ◌∙◌, ◌<◌, ◌≤◌, ◌++◌, ℕ, List, length, take, true, false, get_or, Bor, refl, ap}
use Rattle.std.specs.Prelude.{Option, Some, IfSome, slice_get}
use Rattle.std.specs.Option.{option_map}
use Rattle.std.proofs.lemmas.Option.{slice_get_cases}
use Rattle.mmtext.specs.Words.{Word}
use Rattle.source.specs.Scopes.{Assertion}
use Rattle.taking.specs.Reasons.{Choice, AreFlags, told_in}
use Rattle.gathering.specs.Assembled.{HasAllPlaces, IsMade, told_with}
use Rattle.gathering.specs.Outcomes.{HasStepsFor}
use Rattle.gathering.specs.Placed.{map_of, tables_of}
use Rattle.gathering.proofs.Forms.{if_there}
use Rattle.gathering.proofs.Placing.{all_placed, all_known, flag_at, is_so}
use Rattle.gathering.proofs.Going.{taken_more, taken_passed, told_more, told_passed, taken_all}
use Rattle.gathering.proofs.assembling.gather.Goals as goal
use Rattle.gathering.proofs.assembling.gather.Goals.{then-chosen-place+in_ok-one+in_ok-put, else-chosen-place}

pub taken_at-requires : goal.taken_at-requires
taken_at-requires g c κs =
    let s = g.D.Declared.scope c.args.declared.now in
    let t = c.args.placed.now.sites.now in
    let names = c.args.placed.now.names.now in
    let fs = c.args.flags.chosen.now in
    let k = c.loop-place.place in
    let within : k < length s.assertions = search rules in
    let yes : get_or fs k false ≡ true = search rules in
    let known : IfSome (slice_get s.assertions k) (HasAllPlaces (map_of t names) (tables_of t names)) =
    if_there (slice_get s.assertions k) (HasAllPlaces (map_of t names) (tables_of t names))
    (λ x at. all_placed s t names fs c.requires.sites c.requires.labels c.requires.floats c.requires.whole k x at yes) in
    let r = c.requires in
    ((refl, tt), (r.whole, (within, (c.loop-place.invariant.frames, (r.chosen, (r.front, (r.long, known)))))))

pub loop-place-preserved : goal.loop-place-preserved
loop-place-preserved g c =
    let s = g.D.Declared.scope c.args.declared.now in
    let t = c.args.placed.now.sites.now in
    let names = c.args.placed.now.names.now in
    let m = map_of t names in
    let tables = tables_of t names in
    let xs : List Assertion = s.assertions in
    let fs = c.args.flags.chosen.now in
    let k = c.loop-place.place in
    let within : k < length xs = search rules in
    let there : (x : Assertion) × (slice_get xs k ≡ Some x) =
    elim (slice_get_cases xs k).1 [ inl y ↦ (y.0, y.2) | inr past ↦ absurd (omega arith) ] in
    let x = there.0 in
    let before = c.loop-place.gathered in
    elim c.if-chosen-place.branch [
      | then-chosen-place+in_ok-one+in_ok-put w ↦
          let yes : get_or fs k false ≡ true = search rules in
          let made : (choice : Choice) → AreFlags s choice fs c.args.flags.front.now c.args.flags.long.now
          → IsMade m tables choice (take k xs) x w.in_ok-one.one =
          λ choice are.
          is_so (slice_get xs k)
          (λ (y : Assertion). HasStepsFor m choice s y → IsMade m tables choice (take k xs) y w.in_ok-one.one) x there.1
          (w.in_ok-one.ensures.made choice are)
          (all_known s t names fs c.requires.sites c.requires.labels choice c.args.flags.front.now c.args.flags.long.now are k x there.1
          yes) in
          let label : option_map (λ (b : Bor (List ℕ)). b.now) w.label.result ≡ Some x.label =
          w.label.ensures ∙ ap (option_map (λ (y : Assertion). y.label)) there.1 in
          rw (w.gathered-is, w.frames-is)
          record {
            frames = w.in_ok-one.ensures.frames;
            taken =
                λ choice are.
                taken_more m tables choice xs k x there.1 before.assertions.items w.put.new.gathered.assertions.items
                (c.loop-place.invariant.taken choice are) w.in_ok-one.one.assertion w.in_ok-put.ensures.assertions
                (flag_at s choice fs c.args.flags.front.now c.args.flags.long.now are k x there.1 true yes) (made choice are).taken;
            told =
                λ choice are.
                told_more m tables choice xs k x there.1 (told_in before.axioms.items) (told_in w.put.new.gathered.axioms.items)
                (c.loop-place.invariant.told choice are) w.in_ok-one.one.reason
                (w.in_ok-put.ensures.axioms
                ∙ ap (λ (l : Option Word). told_in before.axioms.items ++ told_with l w.in_ok-one.one.reason) label)
                (flag_at s choice fs c.args.flags.front.now c.args.flags.long.now are k x there.1 true yes) (made choice are).told;
          }
      | else-chosen-place w ↦
          let no : get_or fs k false ≡ false = search rules in
          rw (w.gathered-is, w.frames-is)
          record {
            frames = c.loop-place.invariant.frames;
            taken =
                λ choice are.
                taken_passed m tables choice xs k x there.1 before.assertions.items before.assertions.items
                (c.loop-place.invariant.taken choice are) refl
                (flag_at s choice fs c.args.flags.front.now c.args.flags.long.now are k x there.1 false no);
            told =
                λ choice are.
                told_passed m tables choice xs k x there.1 (told_in before.axioms.items) (told_in before.axioms.items)
                (c.loop-place.invariant.told choice are) refl
                (flag_at s choice fs c.args.flags.front.now c.args.flags.long.now are k x there.1 false no);
          }
    ]

pub returns-clause-taken : goal.returns-clause-taken
returns-clause-taken g c =
    let s = g.D.Declared.scope c.args.declared.now in
    let t = c.args.placed.now.sites.now in
    let names = c.args.placed.now.names.now in
    let past : length s.assertions ≤ c.loop-place.place = search rules in
    λ choice are.
    taken_all (map_of t names) (tables_of t names) choice s.assertions c.loop-place.place c.loop-place.gathered.assertions.items past
    (c.loop-place.invariant.taken choice are)
