-- What holds of all commands of a history.
use Rattle.std.proofs.Common.{◌≡◌, ◌∙◌, ℕ, zero, suc, ◌+◌, ◌<◌, List, [], ◌∷◌, ◌++◌, take, get_or, length, Some, refl, sym, ap, subst}
use Rattle.std.specs.Prelude.{All, slice_get}
use Rattle.std.specs.List.{flat_map}
use Rattle.std.proofs.lemmas.List.{append-nil, take_more, take_at, drop_at}
use Rattle.std.proofs.lemmas.List.Elements.{All-append, All-take, All-drop, All-same}
use Rattle.std.proofs.lemmas.Grind.{flat_map-append}
use Rattle.std.proofs.lemmas.Option.{slice_get_read}
use Rattle.library.specs.declared.command.Command.{Command}
use Rattle.library.specs.declared.history.Entry.{Entry}
use Rattle.sourceediting.specs.Following.{KeepsPlaces, commands_of, all_commands}

module _ {A : Type 0} (P : A → Type 0) where
  front_all : (xs ys : List A) → All P (xs ++ ys) → All P xs
  front_all xs ys all = subst (λ (l : List A). All P l) (take_at xs ys (length xs) refl) (All-take P (length xs) (xs ++ ys) all)

  rest_all : (xs ys : List A) → All P (xs ++ ys) → All P ys
  rest_all xs ys all = subst (λ (l : List A). All P l) (drop_at xs ys (length xs) refl) (All-drop P (length xs) (xs ++ ys) all)

  within_all : {B : Type 0} (f : B → List A) (ys : List B) (k : ℕ) (y : B) → slice_get ys k ≡ Some y → All P (flat_map f ys) → All P (f y)
  within_all f [] k y h all = absurd cc
  within_all {B} f (z ∷ ys) zero y h all =
      let same : z ≡ y = cc in subst (λ (x : B). All P (f x)) same (front_all (f z) (flat_map f ys) all)
  within_all f (z ∷ ys) (suc k) y h all = within_all f ys k y h (rest_all (f z) (flat_map f ys) all)

-- those of one entry of it
pub entry_keeps : (es : List Entry) (k : ℕ) (e : Entry) → k < length es → e ≡ get_or es k e → All KeepsPlaces (all_commands es)
    → All KeepsPlaces (commands_of e)
entry_keeps es k e within is all = within_all KeepsPlaces commands_of es k e (slice_get_read es (length es) k e refl within is) all

-- one more entry
pub entries_keep : (es : List Entry) (k : ℕ) (e : Entry) → k < length es → e ≡ get_or es k e → All KeepsPlaces (all_commands (take k es))
    → All KeepsPlaces (commands_of e) → All KeepsPlaces (all_commands (take (k + 1) es))
entries_keep es k e within is before more =
    let split : all_commands (take (k + 1) es) ≡ all_commands (take k es) ++ commands_of e =
    ap all_commands (take_more es k e within)
    ∙ ap (λ (x : Entry). all_commands (take k es ++ x ∷ [])) (sym is)
    ∙ flat_map-append commands_of (take k es) (e ∷ [])
    ∙ ap (λ (cs : List Command). all_commands (take k es) ++ cs) (append-nil (commands_of e)) in
    All-same KeepsPlaces (all_commands (take (k + 1) es)) (all_commands (take k es) ++ commands_of e) split
    (All-append KeepsPlaces (all_commands (take k es)) (commands_of e) before more)
