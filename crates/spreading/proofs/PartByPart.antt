-- A script whose parts are spread, part by part.
use Rattle.std.proofs.Common.{◌≡◌, ◌∙◌, Bool, false, List, [], ◌∷◌, ◌++◌, Option, Some, None}
use Rattle.std.proofs.Common.{refl, sym, ap, subst}
use Rattle.std.specs.Prelude.{◌&&◌, codes}
use Rattle.std.specs.List.{flat_map}
use Rattle.std.proofs.lemmas.Grind.{flat_map-append}
use Rattle.std.proofs.lemmas.List.{append_assoc, append-nil}
use Rattle.mmtext.specs.Text.{Token}
use Rattle.mmtext.specs.Words.{Word}
use Rattle.source.specs.Scopes.{Scope}
use Rattle.spreading.specs.Forms.{Part, AreParts, begins_with}
use Rattle.spreading.specs.Spreading.{spread_part, misfits_in, misfit_of, next_begins_with, with_misfit, IsSpreadWith, Misfit}

-- what the loop keeps, where these words are left: parts that they have are the last of all
pub record IsSpreading (s : Scope) (ts rest : List Token) (begun : Bool) (out : List Token) (ms : List Misfit) : Type 0 where
  pub done : List Part
  pub parts : (ps : List Part) → AreParts rest ps → AreParts ts (done ++ ps)
  pub spread : out ≡ flat_map (spread_part s) done
  pub fits : (ps : List Part) → AreParts rest ps → misfits_in s false (done ++ ps) ≡ ms ++ misfits_in s begun ps

pub at_first : (s : Scope) (ts : List Token) → IsSpreading s ts ts false [] []
at_first s ts = record { done = []; parts = λ ps h. h; spread = refl; fits = λ ps h. refl }

pub at_last : (s : Scope) (ts : List Token) (begun : Bool) (out : List Token) (ms : List Misfit) → IsSpreading s ts [] begun out ms
    → IsSpreadWith s ts out ms
at_last s ts begun out ms h = record {
  parts = h.done;
  are_parts = subst (AreParts ts) (append-nil h.done) (h.parts [] refl);
  spread = h.spread;
  misfits = sym (append-nil ms) ∙ (sym (h.fits [] refl) ∙ ap (misfits_in s false) (append-nil h.done));
}

-- the first word of the next part is the next word
next_is : (w : Word) (ts : List Token) (ps : List Part) → AreParts ts ps → next_begins_with w ps ≡ begins_with w ts
next_is w [] [] h = refl
next_is w [] (p ∷ ps) h = absurd h
next_is w (t ∷ ts) [] h = absurd cc
next_is w (t ∷ ts) (p ∷ ps) h = ap (begins_with w) h.0

with_before : (ms later : List Misfit) (o : Option Misfit) → ms ++ with_misfit o later ≡ (ms ++ with_misfit o []) ++ later
with_before ms later None = ap (λ xs. xs ++ later) (sym (append-nil ms))
with_before ms later (Some m) = sym (append_assoc ms (m ∷ []) later)

module _ (s : Scope) (ts rest p behind : List Token) (begun alone : Bool) (out : List Token) (ms : List Misfit)
    (h : IsSpreading s ts rest begun out ms) (first : (ps : List Part) → AreParts behind ps → AreParts rest (p ∷ ps))
    (is_alone : alone ≡ (begun && begins_with (codes "commit") behind)) where
  one_more : (ps : List Part) → AreParts behind ps → misfits_in s false (h.done ++ p ∷ ps)
      ≡ ms ++ with_misfit (misfit_of s alone p) (misfits_in s (begins_with (codes "begin") p) ps)
  one_more ps parts =
      h.fits (p ∷ ps) (first ps parts)
      ∙ ap (λ b. ms ++ with_misfit (misfit_of s b p) (misfits_in s (begins_with (codes "begin") p) ps))
      (ap (λ b. begun && b) (next_is (codes "commit") behind ps parts) ∙ sym is_alone)

  pub goes_on : IsSpreading s ts behind (begins_with (codes "begin") p) (out ++ spread_part s p) (ms ++ with_misfit (misfit_of s alone p) [])
  goes_on = record {
    done = h.done ++ p ∷ [];
    parts = λ ps parts. subst (AreParts ts) (sym (append_assoc h.done (p ∷ []) ps)) (h.parts (p ∷ ps) (first ps parts));
    spread =
        ap (λ us. us ++ spread_part s p) h.spread
        ∙ (ap (λ us. flat_map (spread_part s) h.done ++ us) (sym (append-nil (spread_part s p)))
        ∙ sym (flat_map-append (spread_part s) h.done (p ∷ [])));
    fits = λ ps parts.
        ap (misfits_in s false) (append_assoc h.done (p ∷ []) ps)
        ∙ (one_more ps parts ∙ with_before ms (misfits_in s (begins_with (codes "begin") p) ps) (misfit_of s alone p));
  }
