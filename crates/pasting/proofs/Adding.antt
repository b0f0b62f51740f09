-- What `add` brings, word by word.
use Rattle.std.proofs.Common.{◌≡◌, ◌∙◌, ◌<◌, ◌≤◌, ℕ, ◌+◌, Bool, true, false, cond, List, [], ◌∷◌, ◌++◌, length, map, take, Option, Some, None, get_or}
use Rattle.std.proofs.Common.{refl, sym, ap, subst, append_assoc, arith, ◌⊎◌, inl, inr}
use Rattle.std.specs.Prelude.{◌||◌, filter, min, slice_index_or}
use Rattle.std.specs.List.{list_any, zip}
use Rattle.std.proofs.lemmas.List.{map-append, take_all, take_more}
use Rattle.std.proofs.lemmas.List.Elements.{filter-append, filter_agree}
use Rattle.std.proofs.lemmas.List.Folds.{list_any-append}
use Rattle.std.proofs.lemmas.Slice.Zip.{length-zip, get_or-zip}
use Rattle.mmtext.specs.Text.{Token}
use Rattle.mmtext.specs.Words.{Word}
use Rattle.mmsyntax.specs.Tables.{Tables}
use Rattle.mmsyntax.specs.declared.statement.Float.{Float}
use Rattle.source.specs.Scopes.{Assertion, Hypothesis, typing, premise, is_in, stands_in, is_mandatory, mandatory}
use Rattle.pasting.specs.Views.{AreAdded, AreFloats, flags_of}
use Rattle.taking.specs.Names.{Map}
use Rattle.pasting.specs.Additions.{Addition, claims, is_premise, symbols_in, with_premise, addition_in, theorem_of}

-- an assertion with these `$e` in front of its own
abbrev pub with_premises : List Hypothesis → Option Addition → Option Addition
with_premises hs None = None
with_premises hs (Some a) = Some (record a { premises = hs ++ a.premises })

pub none_before : (o : Option Addition) → o ≡ with_premises [] o
none_before None = refl
none_before (Some a) = refl

pub one_more : (hs : List Hypothesis) (h : Hypothesis) (o : Option Addition)
    → with_premises hs (with_premise h o) ≡ with_premises (hs ++ h ∷ []) o
one_more hs h None = refl
one_more hs h (Some a) = ap (λ ps. Some (record a { premises = ps })) (sym (append_assoc hs (h ∷ []) a.premises))

-- a word that is no `$a` or `$p`
abbrev pub behind_mark : Token → Token → List Token → Option Addition
behind_mark label mark ts =
    cond (is_premise mark) (with_premise (premise label.text (symbols_in ts)) (addition_in (mark ∷ ts))) (addition_in (mark ∷ ts))

pub no_claim : (label mark : Token) (ts : List Token) → claims mark ≡ false
    → addition_in (label ∷ mark ∷ ts) ≡ behind_mark label mark ts
no_claim label mark ts h =
    ap (λ b. cond b (Some (record { label = label; premises = []; statement = symbols_in ts })) (behind_mark label mark ts)) h

-- one more word of a script is gone by
pub goes_on : (whole : Option Addition) (ps qs : List Hypothesis) (label mark : Token) (ts : List Token)
    → whole ≡ with_premises ps (addition_in (label ∷ mark ∷ ts)) → claims mark ≡ false
    → ((is_premise mark ≡ true) × (qs ≡ ps ++ premise label.text (symbols_in ts) ∷ [])) ⊎ ((is_premise mark ≡ false) × (qs ≡ ps))
    → whole ≡ with_premises qs (addition_in (mark ∷ ts))
goes_on whole ps qs label mark ts is none (inl p) =
    is ∙ ap (with_premises ps) (no_claim label mark ts none)
    ∙ ap (λ b. with_premises ps (cond b (with_premise (premise label.text (symbols_in ts)) (addition_in (mark ∷ ts)))
    (addition_in (mark ∷ ts)))) p.0
    ∙ one_more ps (premise label.text (symbols_in ts)) (addition_in (mark ∷ ts))
    ∙ ap (λ hs. with_premises hs (addition_in (mark ∷ ts))) (sym p.1)
goes_on whole ps qs label mark ts is none (inr p) =
    is ∙ ap (with_premises ps) (no_claim label mark ts none)
    ∙ ap (λ b. with_premises ps (cond b (with_premise (premise label.text (symbols_in ts)) (addition_in (mark ∷ ts)))
    (addition_in (mark ∷ ts)))) p.0
    ∙ ap (λ hs. with_premises hs (addition_in (mark ∷ ts))) (sym p.1)

-- ---- the `$f` of a library

abbrev pub float_as : Tables → Word × Float → Hypothesis
float_as t p = typing p.0 (slice_index_or t.constants p.1.type_code []) (slice_index_or t.variables p.1.variable [])

-- what stands at the places of two lists
module _ {A B C : Type 0} (f : A × B → C) (xs : List A) (ys : List B) where
  pub zip_more : (i : ℕ) (d : A) (e : B) → i < length xs → i < length ys
      → map f (take (i + 1) (zip xs ys)) ≡ map f (take i (zip xs ys)) ++ f (get_or xs i d, get_or ys i e) ∷ []
  zip_more i d e lt lu =
      let long = length-zip xs ys in
      ap (map f) (take_more (zip xs ys) i (d, e) (subst (λ (n : ℕ). i < n) (sym long) (omega arith)))
      ∙ map-append f (take i (zip xs ys)) (get_or (zip xs ys) i (d, e) ∷ [])
      ∙ ap (λ p. map f (take i (zip xs ys)) ++ f p ∷ []) (get_or-zip xs ys i (d, e) lt lu)

  pub zip_whole : (i : ℕ) → min (length xs) (length ys) ≤ i → map f (take i (zip xs ys)) ≡ map f (zip xs ys)
  zip_whole i h = ap (map f) (take_all i (zip xs ys) (subst (λ (n : ℕ). n ≤ i) (sym (length-zip xs ys)) h))

pub are_floats : (t : Tables) (ps : List (Word × Float)) → AreFloats (map (float_as t) ps)
are_floats t [] = tt
are_floats t (p ∷ ps) = (refl, are_floats t ps)

-- ---- mandatory hypotheses

pub any_mapped : {A B : Type 0} (test : B → Bool) (f : A → B) (xs : List A) → list_any (λ x. test (f x)) xs ≡ list_any test (map f xs)
any_mapped test f [] = refl
any_mapped test f (x ∷ xs) = ap (λ b. test (f x) || b) (any_mapped test f xs)

in_no_float : (v : Word) (fs : List Hypothesis) → AreFloats fs → list_any (stands_in v) fs ≡ false
in_no_float v [] are = refl
in_no_float v (typing l c u ∷ fs) are = in_no_float v fs are.1
in_no_float v (premise l ws ∷ fs) are = absurd cc

same_mandatory : (fs ps : List Hypothesis) (statement : List Word) → AreFloats fs → (h : Hypothesis)
    → is_mandatory ps statement h ≡ is_mandatory (fs ++ ps) statement h
same_mandatory fs ps statement are (typing l c v) =
    ap (λ b. is_in statement v || b)
    (sym (list_any-append (stands_in v) fs ps ∙ ap (λ b. b || list_any (stands_in v) ps) (in_no_float v fs are)))
same_mandatory fs ps statement are (premise l ws) = refl

pub mandatory_both : (fs ps : List Hypothesis) (statement : List Word) → AreFloats fs
    → filter (is_mandatory ps statement) fs ++ filter (is_mandatory ps statement) ps ≡ mandatory (fs ++ ps) statement
mandatory_both fs ps statement are =
    sym (filter-append (is_mandatory ps statement) fs ps)
    ∙ filter_agree (is_mandatory ps statement) (is_mandatory (fs ++ ps) statement) (same_mandatory fs ps statement are) (fs ++ ps)

-- ---- what is noted

-- one more of them
pub added_more : (m : Map) (t : Tables) (xs : List Assertion) (labels : List Word) (flags : List (List Bool)) (own : List Addition)
    → AreAdded m t xs labels flags own → (a : Addition)
    → AreAdded m t (xs ++ theorem_of m t a ∷ []) (labels ++ a.label.text ∷ []) (flags ++ flags_of (theorem_of m t a) ∷ []) (own ++ a ∷ [])
added_more m t xs labels flags own are a =
    let x = theorem_of m t a in
    record {
      labels_are = ap (λ ls. ls ++ x.label ∷ []) are.labels_are ∙ sym (map-append (λ (x : Assertion). x.label) xs (x ∷ []));
      flags_are = ap (λ fs. fs ++ flags_of x ∷ []) are.flags_are ∙ sym (map-append flags_of xs (x ∷ []));
      theorems_are = map-append (theorem_of m t) own (a ∷ []) ∙ ap (λ ys. ys ++ x ∷ []) are.theorems_are;
    }
