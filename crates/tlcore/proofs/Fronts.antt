-- Fronts of a schedule whose events are each lawful.
use Rattle.std.proofs.Common.{List, None, Option, Some, [], add-one, ap, arith, get_or, length, refl, slice_get, suc, sym, take, zero, ℕ}
use Rattle.std.proofs.Common.{◌+◌, ◌<◌, ◌∙◌, ◌∷◌, ◌≡◌}
use Rattle.tlcore.specs.Machine.{World, given, next}
use Rattle.tlcore.specs.Schedules.{Event, IsLongestFront, run}
use Rattle.tlcore.proofs.Lists.{get_within}
use Rattle.tlcore.proofs.Opacity.{given_some}

-- one more lawful event
pub front_more : (w now v : World) (es : List Event) (i : ℕ) (e : Event) → run (take i es) w ≡ Some now → slice_get es i ≡ Some e
    → next now e.0 e.1 ≡ Some v
    → run (take (i + 1) es) w ≡ Some v
front_more w now v es i e r f n = rw add-one (go w es i r f)
  where
    go : (w : World) (es : List Event) (i : ℕ) → run (take i es) w ≡ Some now → slice_get es i ≡ Some e → run (take (suc i) es) w ≡ Some v
    go w [] i r f = cc
    go w (x ∷ es) zero r f =
        let q : x ≡ e = cc in
        let p : w ≡ now = cc in
        ap (λ (y : Option World). given y (λ u. run [] u))
        (ap (λ (y : Event). next w y.0 y.1) q ∙ (ap (λ (y : World). next y e.0 e.1) p ∙ n))
    go w (x ∷ es) (suc i) r f =
        let m : (u : World) × (next w x.0 x.1 ≡ Some u) × (run (take i es) u ≡ Some now) =
        given_some (next w x.0 x.1) (λ u. run (take i es) u) now r in
        ap (λ (y : Option World). given y (λ u. run (take (suc i) es) u)) m.1 ∙ go m.0 es i m.2 f

-- the next event isn't lawful
pub front_stops : (w now : World) (es : List Event) (i : ℕ) (e : Event) → run (take i es) w ≡ Some now → slice_get es i ≡ Some e
    → next now e.0 e.1 ≡ None → IsLongestFront w es now i
front_stops w now es i e r f n =
    let l : i < length es = get_within es i e f in
    record {
      within = omega arith;
      lawful = r;
      longest = λ d g. let p : Some e ≡ Some d = sym f ∙ g in let q : e ≡ d = cc in ap (λ (y : Event). next now y.0 y.1) (sym q) ∙ n;
    }

-- no event is left
pub front_whole : (w now : World) (es : List Event) (i : ℕ) → run (take i es) w ≡ Some now → i ≡ length es → IsLongestFront w es now i
front_whole w now es i r l =
    record {
      within = omega arith;
      lawful = r;
      longest = λ d g. let m : i < length es = get_within es i d g in absurd (omega arith);
    }

-- an element that is read by its index
pub read_here : (es : List Event) (i : ℕ) (d : Event) → i < length es → slice_get es i ≡ Some (get_or es i d)
read_here [] i d l = absurd (omega arith)
read_here (x ∷ es) zero d l = refl
read_here (x ∷ es) (suc i) d l = read_here es i d (omega arith)
