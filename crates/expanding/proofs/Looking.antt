-- Labels that are looked up.
use Rattle.std.proofs.Common.{◌≡◌, Bool, true, false, cond, List, [], ◌∷◌, map, Option, Some, None, refl, ap}
use Rattle.std.specs.Prelude.{find, ◌||◌}
use Rattle.std.specs.List.{list_any}
use Rattle.std.specs.Option.{option_map, is_some}
use Rattle.std.specs.Str.{bytes_eq}
use Rattle.std.proofs.lemmas.Bool.{or_parts}
use Rattle.mmtext.specs.Words.{Word}
use Rattle.mmsyntax.proofs.Names.{same_bytes}
use Rattle.source.specs.Statements.{Proof}
use Rattle.source.specs.Scopes.{is_in}
use Rattle.source.specs.Whole.{labels_in}
use Rattle.giving.specs.Staying.{Change}
use Rattle.spreading.specs.Spreading.{cites}
use Rattle.expanding.specs.Bars.{holds, names_any}

-- ---- pairs of labels with themselves

one_pair : (b : Bool) (v : Word) (o : Option Change) (rest : Bool) → is_some (option_map (λ (c : Change). c.1) o) ≡ rest
    → is_some (option_map (λ (c : Change). c.1) (cond b (Some (v, v)) o)) ≡ (b || rest)
one_pair true v o rest h = refl
one_pair false v o rest h = h

pub holds_pairs : (ws : List Word) (w : Word) → holds (map (λ v. (v, v)) ws) w ≡ is_in ws w
holds_pairs [] w = refl
holds_pairs (v ∷ ws) w =
    one_pair (bytes_eq w v) v (find (λ c. bytes_eq w c.0) (map (λ v. (v, v)) ws)) (is_in ws w) (holds_pairs ws w)

-- ---- any

-- ---- labels that no proof names

both_false : (a b : Bool) → a ≡ false → b ≡ false → (a || b) ≡ false
both_false false b h k = k
both_false true b h k = absurd cc

other_word : (test : Word → Bool) (w v : Word) (b : Bool) → bytes_eq w v ≡ b → test w ≡ true → test v ≡ false → b ≡ false
other_word test w v false e passes fails = refl
other_word test w v true e passes fails = absurd (let same : w ≡ v = same_bytes w v e in let more = ap test same in cc)

unnamed : (test : Word → Bool) (w : Word) (ls : List Word) → test w ≡ true → list_any test ls ≡ false → is_in ls w ≡ false
unnamed test w [] passes none = refl
unnamed test w (v ∷ ls) passes none =
    let p = or_parts (test v) (list_any test ls) none in
    both_false (bytes_eq w v) (is_in ls w) (other_word test w v (bytes_eq w v) refl passes p.0) (unnamed test w ls passes p.1)

-- a proof that names none of some labels doesn't name one of them
pub uncited : (test : Word → Bool) (w : Word) (p : Option Proof) → test w ≡ true → names_any test p ≡ false → cites w p ≡ false
uncited test w None passes none = refl
uncited test w (Some p) passes none = unnamed test w (labels_in p) passes none
