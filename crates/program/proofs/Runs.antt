-- From the words of a command line, or none, to what the program does.
use Rattle.std.proofs.Common.{◌≡◌, ◌∷◌, [], ℕ, Bool, List, Some, Result, Ok, Err, refl, subst, sym}
use Rattle.std.specs.Result.{result_map_both}
use Rattle.clap.specs.Words.{Text}
use Rattle.outside.specs.declared.trouble.Trouble.{Trouble}
use Rattle.outside.specs.Events.{Adds, Bytes, Event, says}
use Rattle.outside.specs.Output.{AreDone, Outside}
use Rattle.program.specs.Obeying.{IsRun, Obeys, no_words}

-- from streams with nothing on them
pub done_at_first : (old new : Outside) (es : List Event) → Adds (AreDone old) (AreDone new) es → old.out ≡ Some [] → old.err ≡ Some []
    → AreDone new es
done_at_first old new es adds out err = adds.behind [] (record {
  held = tt;
  printed = λ own. ([], out, refl);
  said = λ own. ([], err, refl);
})

pub run_words : {A : Type 0} (words_of : A → List Text) (keyed : Bool) (r : Result A Trouble) (words : A) (es : List Event) (status : ℕ)
    → r ≡ Ok words → Obeys keyed (words_of words) es status → IsRun keyed (result_map_both words_of (λ why. why) r) es status
run_words words_of keyed r words es status is obeys =
    subst (λ (found : Result _ Trouble). IsRun keyed (result_map_both words_of (λ why. why) found) es status) (sym is) obeys

pub run_none : {A : Type 0} (words_of : A → List Text) (keyed : Bool) (r : Result A Trouble) (why : Trouble) (line : Bytes) (status : ℕ)
    → r ≡ Err why → line ≡ no_words why → status ≡ 1
    → IsRun keyed (result_map_both words_of (λ why. why) r) (says line ∷ []) status
run_none words_of keyed r why line status is same one = subst
    (λ (found : Result _ Trouble). IsRun keyed (result_map_both words_of (λ why. why) found) (says line ∷ []) status)
    (sym is)
    (subst (λ (l : Bytes). says line ∷ [] ≡ says l ∷ []) same refl, one)
