-- The bytes of an item that stands in a text.
use Rattle.std.proofs.Common.{◌≡◌, ◌∙◌, ℕ, List, drop, sym}
use Rattle.std.specs.Prelude.{slice_range, Result, Ok, Err, OnOk, is_ok, if◌then◌else◌}
use Rattle.std.proofs.lemmas.List.{append_cancel_right}
use Rattle.std.proofs.lemmas.List.Folds.{drop_split}
use Rattle.items.specs.Items.{Item, bytes_of}
use Rattle.items.specs.Reading.{Stands}
use Rattle.items.proofs.Reworded.{stands_later}
use Rattle.items.proofs.Spelled.{bytes_stand}

pub item_bytes : (text : List ℕ) (at end : ℕ) (x : Item) → Stands text at x end → slice_range text at end ≡ bytes_of x
item_bytes text at end x h =
    append_cancel_right (slice_range text at end) (bytes_of x) (drop end text)
    (sym (drop_split text at end (stands_later text at end x h)) ∙ bytes_stand text at end x h)

-- bytes were put, if there was memory
pub put_ok : {T E : Type 0} (r : Result T E) (new made old : List ℕ) → new ≡ (if is_ok r then made else old) → OnOk r (new ≡ made)
put_ok (Ok x) new made old e = e
put_ok (Err x) new made old e = tt
