-- The places that a $f names are few enough for the word of a symbol.
use Rattle.std.proofs.Common.{◌≡◌, ℕ, ◌<◌, ◌^◌, Bor, List, length, get_or, Some, sym, subst, arith}
use Rattle.std.proofs.lemmas.Bool.{ltb-true}
use Rattle.std.specs.Slice.{IsItemAt}
use Rattle.mmsyntax.specs.declared.statement.Float.{Float}
use Rattle.mmsyntax.specs.Tables.{Tables}
use Rattle.mmsyntax.specs.Layout.{IsSoundPrelude}
use Rattle.mmsyntax.proofs.Canonical.{sound_tables, floats_sound}

-- its type is one of 65,535 constants, and it is one of 65,535 itself
pub places_are_small : (t : Tables) (fs : List Float) (i : ℕ) (f : Bor Float) → IsSoundPrelude t → fs ≡ t.floats → IsItemAt fs i (Some f)
    → (f.now.type_code < 2 ^ 31) × (i < 2 ^ 31)
places_are_small t fs i f sound is at =
    let within : i < length t.floats = subst (λ (xs : List Float). i < length xs) is (ltb-true i (length fs) (sym at.0)) in
    let same : f.now ≡ get_or t.floats i f.now = subst (λ (xs : List Float). f.now ≡ get_or xs i f.now) is at.1 in
    let type_within = subst (λ (g : Float). g.type_code < length t.constants) (sym same)
    (floats_sound t sound i f.now within).type_within in
    let s = sound_tables t sound in
    let constants = s.constants_fit in
    let floats = s.floats_fit in
    (omega (arith, type_within, constants), omega (arith, within, floats))
