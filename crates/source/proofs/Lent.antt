-- Words that are lent: what a look at a place gives, and what a set of them has.
use Rattle.std.proofs.Common.{◌≡◌, ◌∙◌, ℕ, Bool, true, false, cond, List, Option, Some, None, refl, sym, ap}
use Rattle.std.specs.Prelude.{◌||◌, slice_get}
use Rattle.std.specs.Borrow.{Bor}
use Rattle.std.specs.HashSet as bag
use Rattle.std.specs.HashSet.{HashSet}
use Rattle.std.specs.Option.{option_map}
use Rattle.std.specs.Slice.{IsItemAt}
use Rattle.std.specs.Str.{bytes_eq}
use Rattle.std.specs.declared.random_state.RandomState.{RandomState}
use Rattle.std.proofs.lemmas.Option.{slice_get_past, slice_get_read}
use Rattle.mmtext.specs.Words.{Word}
use Rattle.mmsyntax.proofs.Names.{bytes_eq-sym}
use Rattle.source.specs.Views.{has}

-- what `get` lends
pub got_lent : {A : Type 0} (xs : List A) (i : ℕ) (o : Option (Bor A)) → IsItemAt xs i o → option_map (λ x. x.now) o ≡ slice_get xs i
got_lent xs i None h = sym (slice_get_past xs i h.3)
got_lent xs i (Some x) h = sym (slice_get_read xs _ i x.now refl h.3.0 h.1)

or_cond : (b c : Bool) → cond b true c ≡ (c || b)
or_cond true true = refl
or_cond true false = refl
or_cond false true = refl
or_cond false false = refl

-- a set with one more word
pub has_more : (s n : HashSet (Bor (List ℕ)) RandomState) (x : Word)
    → bag.UpdatesBy (λ x y. bytes_eq x.now y.now) (λ k. bytes_eq x k.now) s n true → (w : Word) → has n w ≡ (has s w || bytes_eq w x)
has_more s n x h w =
    h.0 (record { ref_ptr = (0, 0); now = w }) ∙ or_cond (bytes_eq x w) (has s w) ∙ ap (λ b. has s w || b) (bytes_eq-sym x w)
