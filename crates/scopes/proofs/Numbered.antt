-- The numbers that an assertion of sound tables has.
use Rattle.std.proofs.Common.{◌≡◌, ℕ, Some, length, subst}
use Rattle.std.specs.List.{slice_get}
use Rattle.std.proofs.lemmas.List.Elements.{All-from_recursion}
use Rattle.std.proofs.lemmas.Option.{slice_get_within, get_or_from_slice_get}
use Rattle.scopes.specs.declared.tables.Asserted.{Asserted}
use Rattle.scopes.specs.declared.tables.Tables.{Tables}
use Rattle.scopes.specs.Views.{entry_of, kept_of}
use Rattle.scopes.specs.Sound.{IsNumbered, IsSoundTables}

pub numbered_at : (t : Tables) (i : ℕ) (a : Asserted) → IsSoundTables t → slice_get (kept_of t).entries i ≡ Some (entry_of a)
    → IsNumbered (kept_of t).links (length (kept_of t).aparts) (entry_of a)
numbered_at t i a sound at =
    let es = (kept_of t).entries in
    let P = IsNumbered (kept_of t).links (length (kept_of t).aparts) in
    subst P (get_or_from_slice_get es i (entry_of a) (entry_of a) at)
    (All-from_recursion P es sound.numbered i (entry_of a) (slice_get_within es i (entry_of a) at))
