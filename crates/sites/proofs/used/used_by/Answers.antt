-- What is left to show of `used_by`.
use Rattle.std.proofs.Common.{◌≡◌, ◌∙◌, ◌+◌, ◌<◌, ◌≤◌, ◌++◌, ◌∷◌, [], take, length, get_or, true, false, sym, subst, List}
use Rattle.std.proofs.Common.{Some, arith, rules, inl, inr}
use Rattle.std.specs.List.{slice_get}
use Rattle.std.proofs.lemmas.Option.{slice_get_cases}
use Rattle.std.proofs.lemmas.List.{append-nil}
use Rattle.source.specs.Scopes.{Assertion}
use Rattle.source.specs.Flags.{kept}
use Rattle.sites.specs.declared.used.Used.{Used}
use Rattle.sites.specs.Used.{Uses}
use Rattle.sites.proofs.Keeping.{kept_one, kept_whole}
use Rattle.sites.proofs.Noted.{uses_more}
use Rattle.sites.proofs.used.used_by.Goals as goal
use Rattle.sites.proofs.used.used_by.Goals.{then-is_chosen+in_ok-note_assertion, else-is_chosen}

pub loop-place-preserved : goal.loop-place-preserved
loop-place-preserved g c =
    let fs = c.args.chosen.now in
    let xs : List Assertion = (g.D.Declared.scope c.args.declared.now).assertions in
    let i = c.loop-place.place in
    let front : List Assertion = kept (take i fs) (take i xs) in
    let below : i < length fs = c.loop-place-test.true in
    let within : i < length xs = omega (arith, c.requires) in
    let x : (x : Assertion) × (slice_get xs i ≡ Some x) =
    elim (slice_get_cases xs i).1 [ inl y ↦ (y.0, y.2) | inr past ↦ absurd (omega arith) ] in
    elim c.if-is_chosen.branch [
      | then-is_chosen+in_ok-note_assertion w ↦
          let yes : get_or fs i false ≡ true = search rules in
          let so : Uses w.note_assertion.new.used (front ++ x.0 ∷ []) =
          uses_more c.loop-place.used w.note_assertion.new.used front x.0 c.loop-place.invariant
          (λ v. w.in_ok-note_assertion.ensures.symbols x.0 v x.1) (λ v. w.in_ok-note_assertion.ensures.floats x.0 v x.1) in
          rw w.used-is (subst (λ (ks : List Assertion). Uses w.note_assertion.new.used ks)
          (sym (kept_one fs xs i x.0 true below x.1 yes)) so)
      | else-is_chosen w ↦
          let no : get_or fs i false ≡ false = search rules in
          rw w.used-is (subst (λ (ks : List Assertion). Uses c.loop-place.used ks)
          (sym (kept_one fs xs i x.0 false below x.1 no ∙ append-nil front)) c.loop-place.invariant)
    ]
