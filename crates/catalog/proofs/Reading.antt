-- What `get` of a slice reads at a place.
use Rattle.std.proofs.Common.{◌≡◌, ◌<◌, ℕ, List, Option, Bor, None, Some, length, refl, sym, ◌∙◌, inl, inr}
use Rattle.std.specs.List.{slice_get}
use Rattle.std.specs.Option.{option_copied}
use Rattle.std.specs.Slice.{IsItemAt}
use Rattle.std.proofs.lemmas.Bool.{ltb-true, lt-ltb, cases_lt}
use Rattle.std.proofs.lemmas.Option.{slice_get_read, slice_get_past}

pub item-past : {X : Type 0} (xs : List X) (i : ℕ) → IsItemAt xs i None → slice_get xs i ≡ None
item-past xs i h =
    elim (cases_lt i (length xs)) [
      | inl lt ↦ absurd (let e = h.0 ∙ lt-ltb i (length xs) lt in cc)
      | inr le ↦ slice_get_past xs i le
    ]

pub item-read : {X : Type 0} (xs : List X) (i : ℕ) (x : Bor X) → IsItemAt xs i (Some x) → slice_get xs i ≡ Some x.now
item-read xs i x h =
    let within : i < length xs = ltb-true i (length xs) (sym h.0) in
    slice_get_read xs (length xs) i x.now refl within h.1

pub item-copied : {X : Type 0} (xs : List X) (i : ℕ) (r : Option (Bor X)) → IsItemAt xs i r → option_copied r ≡ slice_get xs i
item-copied xs i None h = sym (item-past xs i h)
item-copied xs i (Some x) h = sym (item-read xs i x h)
