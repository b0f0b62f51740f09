-- What is left to show of `chosen_labels`.
use Rattle.std.proofs.Common.{◌≡◌, ◌∙◌, ℕ, ◌+◌, ◌<◌, ◌++◌, ◌∷◌, [], List, Option, Some, None, take, length, get_or, map, true, false, sym, ap}
use Rattle.std.proofs.Common.{arith, rules, inl, inr}
use Rattle.std.specs.List.{slice_get}
use Rattle.std.proofs.lemmas.Option.{slice_get_cases}
use Rattle.std.specs.Option.{option_map}
use Rattle.std.specs.Borrow.{Bor}
use Rattle.std.proofs.lemmas.List.{map-append, append-nil}
use Rattle.mmtext.specs.Words.{Word}
use Rattle.source.specs.Scopes.{Assertion}
use Rattle.source.specs.Views.{seen_words}
use Rattle.source.specs.Flags.{kept}
use Rattle.sites.proofs.Keeping.{kept_one, kept_whole}
use Rattle.sites.proofs.gathering.chosen_labels.Goals as goal
use Rattle.sites.proofs.gathering.chosen_labels.Goals.{then-is_chosen+in-Some+in_ok-push, then-is_chosen+in_default, else-is_chosen}

some_none : {A : Type 0} (x : A) → None ≡ Some x → ⊥
some_none x h = cc

some_same : {A : Type 0} (x y : A) → Some x ≡ Some y → x ≡ y
some_same x y h = cc

pub loop-place-preserved : goal.loop-place-preserved
loop-place-preserved g c =
    let fs = c.args.chosen.now in
    let xs : List Assertion = (g.D.Declared.scope c.args.declared.now).assertions in
    let i = c.loop-place.place in
    let front : List Assertion = kept (take i fs) (take i xs) in
    let names : List Assertion → List Word = map (λ x. x.label) in
    let below : i < length fs = c.loop-place-test.true in
    let within : i < length xs = omega (arith, c.requires) in
    let x : (x : Assertion) × (slice_get xs i ≡ Some x) =
    elim (slice_get_cases xs i).1 [ inl y ↦ (y.0, y.2) | inr past ↦ absurd (omega arith) ] in
    elim c.if-is_chosen.branch [
      | then-is_chosen+in-Some+in_ok-push w ↦
          let yes : get_or fs i false ≡ true = search rules in
          let l = w.in-Some.label in
          let same : l.now ≡ x.0.label =
          some_same l.now x.0.label (ap (option_map (λ (x : Bor (List ℕ)). x.now)) (sym w.in-Some.is) ∙ w.label.ensures
          ∙ ap (option_map (λ (y : Assertion). y.label)) x.1) in
          rw w.made-is
          (ap seen_words w.in_ok-push.ensures.items
          ∙ map-append (λ (x : Bor (List ℕ)). x.now) c.loop-place.made.items (l ∷ [])
          ∙ ap (λ (us : List Word). us ++ l.now ∷ []) c.loop-place.invariant
          ∙ ap (λ v. names front ++ v ∷ []) same
          ∙ sym (map-append (λ (y : Assertion). y.label) front (x.0 ∷ []))
          ∙ ap names (sym (kept_one fs xs i x.0 true below x.1 yes)))
      | then-is_chosen+in_default w ↦
          let none : w.label.result ≡ None = search rules in
          absurd (some_none x.0.label (ap (option_map (λ (x : Bor (List ℕ)). x.now)) (sym none) ∙ w.label.ensures
          ∙ ap (option_map (λ (y : Assertion). y.label)) x.1))
      | else-is_chosen w ↦
          let no : get_or fs i false ≡ false = search rules in
          rw w.made-is (c.loop-place.invariant ∙ ap names (sym (kept_one fs xs i x.0 false below x.1 no ∙ append-nil front)))
    ]

pub loop-place-init : goal.loop-place-init
loop-place-init g c = ap seen_words c.new-made.ensures.items

pub returns : goal.returns
returns g c =
    let l = c.loop-place in
    let all = kept_whole c.args.chosen.now (g.D.Declared.scope c.args.declared.now).assertions l.place c.loop-place-test.false c.requires in
    l.invariant ∙ ap (λ (xs : List Assertion). map (λ (x : Assertion). x.label) xs) all
