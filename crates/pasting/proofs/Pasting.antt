-- A script that is pasted, part by part.
use Rattle.std.proofs.Common.{◌≡◌, ◌∙◌, Bool, List, [], ◌∷◌, ◌++◌, map, Option, Some, None, refl, sym, ap, subst}
use Rattle.std.specs.List.{flat_map}
use Rattle.std.proofs.lemmas.Grind.{flat_map-append}
use Rattle.std.proofs.lemmas.List.{append_assoc, append-nil}
use Rattle.mmtext.specs.Text.{Token}
use Rattle.mmtext.specs.Words.{Word}
use Rattle.mmtext.specs.Views.{seen}
use Rattle.mmsyntax.specs.declared.statement.Step.{Step}
use Rattle.mmsyntax.specs.Tables.{Tables, Contents}
use Rattle.source.specs.Scopes.{Assertion, Scope}
use Rattle.source.specs.Flags.{kept}
use Rattle.taking.specs.Names.{Map}
use Rattle.spreading.specs.Words.{word_at}
use Rattle.expanding.specs.Cuts.{Cut}
use Rattle.spreading.specs.Forms.{Part, AreParts}
use Rattle.pasting.specs.Places.{places_of, places_in}
use Rattle.pasting.specs.Proofs.{given, steps, is_compressed}
use Rattle.pasting.specs.Pasted.{Proving, given_in, with_added, with_labels, with_given, pasted_by, pasted, proving, fault_of, paste_fault_by}
use Rattle.pasting.specs.Pasted.{PasteFault, paste_fault, or_fault, first_fault, IsPasted, HasPasteFault}
use Rattle.pasting.specs.Views.{IsPaster, IsFaultIn, IsUnpasted, IsProving, IsProvingIf, seen_given, given_words, places_by, step_of, word_of}
use Rattle.pasting.specs.declared.given.Given.{Given as CodeGiven}
use Rattle.pasting.specs.declared.given.Given.TheVariants as code
use Rattle.pasting.specs.declared.proving.Proving.{Proving as CodeProving}
use Rattle.pasting.specs.declared.paster.Paster.{Paster}
use Rattle.pasting.specs.declared.unpasted.Unpasted.{Unpasted}
use Rattle.pasting.specs.declared.unpasted.Unpasted.TheVariants as unpasted

-- ---- the places by which a paster pastes

pub places_are : (s : Scope) (flags : List Bool) (db : Contents) (p : Paster) → IsPaster s flags db p → places_by p ≡ places_in s flags db
places_are s flags db p is =
    ap (λ floats. places_of floats p.sites.labels p.database.now) is.sites.floats
    ∙ ap (λ labels. places_of (places_in s flags db).floats labels p.database.now) is.sites.labels
    ∙ ap (λ d. places_of (places_in s flags db).floats (map (λ x. x.label) (kept flags s.assertions)) d) is.database

-- ---- one command

-- what is told of its words as the code has them
pub told_in : (m : Map) (t : Tables) (s : Scope) (added : List Assertion) (labels : List Word) (c : CodeProving) (r : Proving)
    → (x : Assertion) → labels ≡ map (λ x. x.label) added → IsProving m t s c r → x ≡ r.theorem
    → given (with_labels m labels) (s.assertions ++ added) x (map seen c.cut.proof.now) (seen c.ends) ≡ given_in m s added r
told_in m t s added labels c r x named is same =
    let earlier = s.assertions ++ added in
    ap (λ ls. given (with_labels m ls) earlier x (map seen c.cut.proof.now) (seen c.ends)) named
    ∙ ap (λ (k : Cut). given (with_added m added) earlier x k.proof (seen c.ends)) is.cut
    ∙ ap (λ (e : Token). given (with_added m added) earlier x r.cut.proof e) is.ends
    ∙ ap (λ (y : Assertion). given (with_added m added) earlier y r.cut.proof r.ends) same

-- its words, by what is told of its proof
abbrev pub with_told : Tables → Part → CodeProving → CodeGiven → List Token
with_told t p c (code.Steps xs) = given_words t c xs
with_told t p c code.Untaken = p
with_told t p c (code.Faulty at kind) = p

words_are : (m : Map) (t : Tables) (s : Scope) (c : CodeProving) (r : Proving) (p : Part) (xs : List Step) → IsProving m t s c r
    → given_words t c xs ≡ with_given p r (steps xs)
words_are m t s c r p xs is =
    ap (λ k. k.front ++ (map (step_of t c) xs ++ k.back)) is.cut
    ∙ ap (λ (l : Token). r.cut.front ++ (map (λ x. word_at l.place (word_of t c.theorem c.label.text.now x)) xs ++ r.cut.back)) is.label
    ∙ ap (λ (f : Step → Word). r.cut.front ++ (map (λ x. word_at r.label.place (f x)) xs ++ r.cut.back)) is.word

told_words : (m : Map) (t : Tables) (s : Scope) (c : CodeProving) (r : Proving) (p : Part) (g : CodeGiven) → IsProving m t s c r
    → with_told t p c g ≡ with_given p r (seen_given g)
told_words m t s c r p (code.Steps xs) is = words_are m t s c r p xs is
told_words m t s c r p code.Untaken is = refl
told_words m t s c r p (code.Faulty at kind) is = refl

-- the command is one of the source where the code has one
pub there : (m : Map) (t : Tables) (s : Scope) (c : CodeProving) (o : Option Proving) → IsProvingIf m t s (Some c) o
    → (r : Proving) × (o ≡ Some r) × IsProving m t s c r
there m t s c None is = absurd is
there m t s c (Some r) is = (r, refl, is)

pub pasted_is : (m : Map) (t : Tables) (s : Scope) (added : List Assertion) (p : Part) (c : CodeProving) (g : CodeGiven)
    → IsProvingIf m t s (Some c) (proving m t s added p)
    → ((r : Proving) → IsProving m t s c r → seen_given g ≡ given_in m s added r) → with_told t p c g ≡ pasted m t s added p
pasted_is m t s added p c g is told =
    let r = there m t s c (proving m t s added p) is in
    told_words m t s c r.0 p g r.2 ∙ ap (with_given p r.0) (told r.0 r.2) ∙ sym (ap (pasted_by m s added p) r.1)

-- what is told of a fault is told of the command
pub fault_is : (m : Map) (t : Tables) (s : Scope) (added : List Assertion) (p : Part) (c : CodeProving) (g : CodeGiven) (b : Bool)
    → IsProvingIf m t s (Some c) (proving m t s added p)
    → ((r : Proving) → IsProving m t s c r → seen_given g ≡ given_in m s added r) → b ≡ is_compressed (map seen c.cut.proof.now)
    → fault_of b (seen_given g) ≡ paste_fault m t s added p
fault_is m t s added p c g b is told e =
    let r = there m t s c (proving m t s added p) is in
    ap (fault_of b) (told r.0 r.2)
    ∙ ap (λ z. fault_of z (given_in m s added r.0)) (e ∙ ap (λ k. is_compressed k.proof) r.2.cut)
    ∙ sym (ap (paste_fault_by m s added) r.1)

-- ---- parts

-- what the loop keeps, where these words are left: parts that they have are the last of all
pub record IsPasting (m : Map) (t : Tables) (s : Scope) (added : List Assertion) (ts rest out : List Token) : Type 0 where
  pub done : List Part
  pub parts : (ps : List Part) → AreParts rest ps → AreParts ts (done ++ ps)
  pub pasted : out ≡ flat_map (pasted m t s added) done
  pub fits : (ps : List Part) → first_fault m t s added (done ++ ps) ≡ first_fault m t s added ps

pub at_first : (m : Map) (t : Tables) (s : Scope) (added : List Assertion) (ts : List Token) → IsPasting m t s added ts ts []
at_first m t s added ts = record { done = []; parts = λ ps h. h; pasted = refl; fits = λ ps. refl }

pub at_last : (m : Map) (t : Tables) (s : Scope) (added : List Assertion) (ts out : List Token)
    → IsPasting m t s added ts [] out → IsPasted m t s added ts out
at_last m t s added ts out h = record {
  parts = h.done;
  are_parts = subst (AreParts ts) (append-nil h.done) (h.parts [] refl);
  none_faulty = sym (ap (first_fault m t s added) (append-nil h.done)) ∙ h.fits [];
  pasted = h.pasted;
}

module _ (m : Map) (t : Tables) (s : Scope) (added : List Assertion) (ts rest p behind out : List Token)
    (h : IsPasting m t s added ts rest out)
    (first : (ps : List Part) → AreParts behind ps → AreParts rest (p ∷ ps)) where
  pub goes_on : paste_fault m t s added p ≡ None → IsPasting m t s added ts behind (out ++ pasted m t s added p)
  goes_on fits = record {
    done = h.done ++ p ∷ [];
    parts = λ ps parts. subst (AreParts ts) (sym (append_assoc h.done (p ∷ []) ps)) (h.parts (p ∷ ps) (first ps parts));
    pasted =
        ap (λ us. us ++ pasted m t s added p) h.pasted
        ∙ (ap (λ us. flat_map (pasted m t s added) h.done ++ us) (sym (append-nil (pasted m t s added p)))
        ∙ sym (flat_map-append (pasted m t s added) h.done (p ∷ [])));
    fits = λ ps.
        ap (first_fault m t s added) (append_assoc h.done (p ∷ []) ps)
        ∙ (h.fits (p ∷ ps) ∙ ap (λ f. or_fault f (first_fault m t s added ps)) fits);
  }

  stops : (ps : List Part) → AreParts behind ps → (f : PasteFault) → paste_fault m t s added p ≡ Some f → HasPasteFault m t s added ts f
  stops ps parts f is = record {
    parts = h.done ++ p ∷ ps;
    are_parts = h.parts (p ∷ ps) (first ps parts);
    first = h.fits (p ∷ ps) ∙ ap (λ o. or_fault o (first_fault m t s added ps)) is;
  }

  pub refused : (ps : List Part) → AreParts behind ps → (f : Unpasted) → IsFaultIn (paste_fault m t s added p) f
      → IsUnpasted m t s added ts f
  refused ps parts (unpasted.Faulty t kind) is = stops ps parts _ is
  refused ps parts unpasted.NoMemory is = tt
