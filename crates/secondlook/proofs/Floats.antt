-- The $f with a label, and a $f of one prelude in another.
use Rattle.std.proofs.Common.{◌≡◌, ◌∙◌, ℕ, Bool, get_or, Option, Some, None, refl, sym, ap, subst}
use Rattle.std.specs.Prelude.{◌↔◌, ◌&&◌, IsTrue, MatchOption, slice_get}
use Rattle.std.specs.Option.{option_map}
use Rattle.std.specs.Borrow.{Bor}
use Rattle.std.specs.Str.{bytes_eq}
use Rattle.std.proofs.lemmas.Bool.{and_parts, and_from}
use Rattle.std.proofs.lemmas.Option.{get_or_from_slice_get}
use Rattle.std.proofs.lemmas.Slice.Eq.{bytes_eq-Decides}
use Rattle.mmtext.specs.Words.{Word}
use Rattle.mmsyntax.specs.declared.statement.Float.{Float}
use Rattle.mmsyntax.specs.declared.symbols.Name.TheVariants.{Label}
use Rattle.mmsyntax.specs.Tables.{Tables, place_of, meaning}
use Rattle.mmsyntax.proofs.Names.{place_of-at, same_bytes}
use Rattle.mmsyntax.proofs.Found.{label_place}
use Rattle.secondlook.specs.Again.{IsFloatNamed, IsFloatLabelled, IsFloatOf}

float_placed : (t : Tables) (w : Word) (j : ℕ) → meaning t w ≡ Some (Label j) → place_of (λ f. bytes_eq w f.label) t.floats ≡ Some j
unfolding meaning
float_placed t w j e = label_place t.floats _ _ _ j e

-- what is found at its place
pub is_labelled : (t : Tables) (w : Word) (j : ℕ) (r : Option (Bor Float)) → meaning t w ≡ Some (Label j)
    → option_map (λ f. f.now) r ≡ slice_get t.floats j
    → MatchOption r ((f : Float) → IsFloatLabelled t w f → ⊥) (λ f. IsFloatLabelled t w f.now)
is_labelled t w j None e at = λ f h.
    let place : Some (Label j) ≡ Some (Label h.place) = sym e ∙ h.names in
    let same : j ≡ h.place = cc in
    let none : None ≡ Some f = at ∙ ap (slice_get t.floats) same ∙ h.stands in
    absurd cc
is_labelled t w j (Some f) e at =
    let found = place_of-at (λ (g : Float). bytes_eq w g.label) t.floats j f.now (float_placed t w j e) in
    record {
      labelled =
          ap (λ (g : Float). g.label) (sym (get_or_from_slice_get t.floats j f.now f.now (sym at)))
          ∙ sym (same_bytes w (get_or t.floats j f.now).label found.1);
      place = j;
      names = e;
      stands = sym at;
    }

-- ---- a $f of one prelude in the other

pub one_found : (t : Tables) (w : Word) (f g : Float) → IsFloatLabelled t w f → IsFloatLabelled t w g → f ≡ g
one_found t w f g h k =
    let places : Some (Label h.place) ≡ Some (Label k.place) = sym h.names ∙ k.names in
    let same : h.place ≡ k.place = cc in
    let found : Some f ≡ Some g = sym h.stands ∙ ap (slice_get t.floats) same ∙ k.stands in
    cc

one_named : (t : Tables) (l m c d v u : Word) (f : Float) → IsFloatNamed t l c v f → IsFloatNamed t m d u f → (c ≡ d) × (v ≡ u)
one_named t l m c d v u f h k =
    let types : Some c ≡ Some d = sym h.typed ∙ k.typed in
    let variables : Some v ≡ Some u = sym h.of ∙ k.of in
    (cc, cc)

module _ (t other : Tables) (f found : Float) (there : IsFloatLabelled other f.label found) where
  -- the names of what is found there
  pub named_there : (h : IsFloatOf t other f) → IsFloatNamed other found.label h.constant h.variable found
  named_there h =
      let same : found ≡ h.found = one_found other f.label found h.found there h.there in
      subst (λ (g : Float). IsFloatNamed other g.label h.constant h.variable g) (sym same) (record {
        labelled = refl;
        typed = h.named_there.typed;
        of = h.named_there.of;
      })

  pub float_of : (c v d u : Word) → IsFloatNamed t f.label c v f → IsFloatNamed other found.label d u found → (b : Bool)
      → b ≡ (bytes_eq c d && bytes_eq v u) → IsTrue b ↔ IsFloatOf t other f
  float_of c v d u one another b is = (
    λ yes.
        let both = and_parts (bytes_eq c d) (bytes_eq v u) (sym is ∙ yes) in
        let types : c ≡ d = (bytes_eq-Decides c d).0 both.0 in
        let variables : v ≡ u = (bytes_eq-Decides v u).0 both.1 in
        record {
          constant = c;
          variable = v;
          named = one;
          found = found;
          there = there;
          named_there = record {
            labelled = there.labelled;
            typed = another.typed ∙ ap (λ (w : Word). Some w) (sym types);
            of = another.of ∙ ap (λ (w : Word). Some w) (sym variables);
          };
        },
    λ h.
        let here = one_named t f.label f.label c h.constant v h.variable f one h.named in
        let far = one_named other found.label found.label d h.constant u h.variable found another (named_there h) in
        is ∙ and_from (bytes_eq c d) (bytes_eq v u) ((bytes_eq-Decides c d).1 (here.0 ∙ sym far.0))
        ((bytes_eq-Decides v u).1 (here.1 ∙ sym far.1)),
  )
