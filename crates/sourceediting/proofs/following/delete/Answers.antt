-- What is left to show of `delete`.
use Rattle.std.proofs.Common.{◌≡◌, ◌∙◌, ◌∷◌, [], List, ℕ, Bool, true, false, Option, Some, None, ap, sym, refl, get_or}
use Rattle.std.specs.Borrow.{Bor}
use Rattle.std.specs.Option.{option_map}
use Rattle.std.specs.Str.{bytes_eq}
use mathlib.Core.Bool.{not}
use Rattle.std.proofs.lemmas.List.{map-append, append-nil}
use Rattle.mmtext.specs.Words.{Word}
use Rattle.source.specs.Views.{seen_words}
use Rattle.sourceediting.specs.declared.following.Followed.{Followed as Kept}
use Rattle.sourceediting.specs.Following.{Followed}
use Rattle.sourceediting.specs.Views.{seen_followed, seen_living}
use Rattle.sourceediting.proofs.Labels.{gone_with, passes_more, stays_more, deleted_more}
use Rattle.sourceediting.proofs.following.delete.Goals as goal
use Rattle.sourceediting.proofs.following.delete.Goals.{then-ne+in_ok-push, else-ne+in-Some+in_ok-push-2, else-ne+in_default}

abbrev nobody : Kept
nobody = record { source = None; first = record { ref_ptr = (0, 0); now = [] }; now = record { ref_ptr = (0, 0); now = [] }; moved = false }

differ : (b t : Bool) → b ≡ not t → b ≡ true → t ≡ false
differ b true e h = absurd cc
differ b false e h = refl

agree : (b t : Bool) → b ≡ not t → b ≡ false → t ≡ true
agree b true e h = refl
agree b false e h = absurd cc

none_is : {A : Type 0} (o : Option A) → ((x : A) → o ≡ Some x → ⊥) → o ≡ None
none_is None h = refl
none_is (Some x) h = absurd (h x refl)

pub loop-followed-preserved : goal.loop-followed-preserved
loop-followed-preserved c =
    let label = c.args.label.now in
    let xs = c.args.living.now in
    let k = c.loop-followed.followed-index in
    let within = c.loop-followed-test.true in
    let x : Kept = get_or xs k nobody in
    let now : Bor (List ℕ) → Word = λ w. w.now in
    let test : Followed → Bool = λ y. not (bytes_eq y.now label) in
    let left = c.loop-followed.left.items in
    let gone = c.loop-followed.gone.items in
    let first = seen_words c.args.gone.now.items in
    let so_far = c.loop-followed.invariant in
    elim c.if-ne.branch [
      | then-ne+in_ok-push w ↦
          let other : bytes_eq x.now.now label ≡ false = differ c.ne.result _ c.ne.ensures w.if-ne.true in
          record {
            left =
                rw w.left-is
                (ap seen_living w.in_ok-push.ensures.items
                ∙ map-append seen_followed left (x ∷ [])
                ∙ passes_more xs k nobody within test (seen_living left) true so_far.left (ap not other));
            gone = rw w.gone-is (stays_more xs k nobody within label first (seen_words gone) so_far.gone other);
          }
      | else-ne+in-Some+in_ok-push-2 w ↦
          let same : bytes_eq x.now.now label ≡ true = agree c.ne.result _ c.ne.ensures w.if-ne.false in
          record {
            left =
                rw w.left-is
                (sym (append-nil (seen_living left)) ∙ passes_more xs k nobody within test (seen_living left) false so_far.left
                (ap not same));
            gone =
                rw w.gone-is
                (ap seen_words w.in_ok-push-2.ensures.items
                ∙ map-append now gone (w.in-Some.source ∷ [])
                ∙ ap (λ (o : Option (Bor (List ℕ))). gone_with (seen_words gone) (option_map now o)) (sym w.in-Some.is)
                ∙ deleted_more xs k nobody within label first (seen_words gone) so_far.gone same);
          }
      | else-ne+in_default w ↦
          let same : bytes_eq x.now.now label ≡ true = agree c.ne.result _ c.ne.ensures w.if-ne.false in
          let none : x.source ≡ None = none_is x.source w.in_default.not-Some in
          record {
            left =
                rw w.left-is
                (sym (append-nil (seen_living left)) ∙ passes_more xs k nobody within test (seen_living left) false so_far.left
                (ap not same));
            gone =
                rw w.gone-is
                (sym (append-nil (seen_words gone))
                ∙ ap (λ (o : Option (Bor (List ℕ))). gone_with (seen_words gone) (option_map now o)) (sym none)
                ∙ deleted_more xs k nobody within label first (seen_words gone) so_far.gone same);
          }
    ]
