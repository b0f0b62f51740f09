-- Which assertions of a source may have a label: what is found for the labels of renames says it for all.
use Rattle.std.proofs.Common.{◌≡◌, ◌∙◌, Bool, true, false, cond, List, [], ◌∷◌, map, refl, sym, ap, subst, inl, inr, arith}
use Rattle.std.specs.Prelude.{filter, Contains, ◌⊎◌, ◌||◌, IsTrue}
use Rattle.std.specs.Str.{bytes_eq}
use Rattle.std.proofs.lemmas.Cmp.{nat_list_eq_equiv}
use Rattle.std.proofs.lemmas.List.Elements.{Contains-append_left, Contains-append_right, Contains-push}
use Rattle.mmtext.specs.Words.{Word}
use Rattle.mmsyntax.proofs.Names.{same_bytes}
use Rattle.source.specs.Scopes.{is_in}
use Rattle.expanding.specs.Called.{new_labels, Lead, MayBeCalled, Bearers, nobody, only, several, AreBearers}
use Rattle.expanding.specs.Bearing.{words_in, or_own}
use Rattle.expanding.proofs.Raising.{one_of, first_in, later_in}
use Rattle.expanding.proofs.Renaming.{new_among}

-- ---- words that pass

module _ (test : Word → Bool) where
  first_passes : (t : Bool) (w a : Word) (rest : List Word) → t ≡ true → w ≡ a → IsTrue (is_in (cond t (w ∷ rest) rest) a)
  first_passes true w a rest h same =
      first_in (bytes_eq a w) (is_in rest a) (subst (λ y. bytes_eq a y ≡ true) (sym same) (nat_list_eq_equiv.refl a))
  first_passes false w a rest h same = absurd (let bad = h in cc)

  later_passes : (t : Bool) (w a : Word) (rest : List Word) → IsTrue (is_in rest a) → IsTrue (is_in (cond t (w ∷ rest) rest) a)
  later_passes true w a rest h = later_in (bytes_eq a w) (is_in rest a) h
  later_passes false w a rest h = h

  pub passing_in : (ws : List Word) (a : Word) → test a ≡ true → Contains ws a → IsTrue (is_in (filter test ws) a)
  passing_in [] a passes h = absurd (let bad = h.1 in omega (arith, bad))
  passing_in (w ∷ ws) a passes h = elim (one_of w a ws h) [
    | inl same ↦ first_passes (test w) w a (filter test ws) (subst (λ y. test y ≡ true) (sym same) passes) same
    | inr later ↦ later_passes (test w) w a (filter test ws) (passing_in ws a passes later)
  ]

  one_passes : (t : Bool) (w a : Word) (rest : List Word) → test w ≡ t → IsTrue (is_in (cond t (w ∷ rest) rest) a)
      → (IsTrue (is_in rest a) → test a ≡ true) → test a ≡ true
  one_passes false w a rest is h later = later h
  one_passes true w a rest is h later = at (bytes_eq a w) refl h
    where
      at : (b : Bool) → bytes_eq a w ≡ b → IsTrue (b || is_in rest a) → test a ≡ true
      at true same k = subst (λ y. test y ≡ true) (sym (same_bytes a w same)) is
      at false other k = later k

  pub in_passes : (ws : List Word) (a : Word) → IsTrue (is_in (filter test ws) a) → test a ≡ true
  in_passes [] a h = absurd (let bad = h in cc)
  in_passes (w ∷ ws) a h = one_passes (test w) w a (filter test ws) refl h (λ k. in_passes ws a k)

-- ---- words of renames

old_at : (b : Bool) (a next : Word) (r : Word × Word) (rest all : List (Word × Word)) → bytes_eq a r.0 ≡ b
    → Contains (map (λ (q : Word × Word). q.1) (cond b (r ∷ all) all)) next
    → (Contains (map (λ (q : Word × Word). q.1) all) next → Contains (map (λ (q : Word × Word). q.0) rest) a)
    → Contains (r.0 ∷ map (λ (q : Word × Word). q.0) rest) a
old_at true a next r rest all same h later =
    Contains-append_left (r.0 ∷ []) (map (λ (q : Word × Word). q.0) rest) a
    (subst (λ y. Contains (y ∷ []) a) (same_bytes a r.0 same) (Contains-push [] a))
old_at false a next r rest all other h later =
    Contains-append_right (r.0 ∷ []) (map (λ (q : Word × Word). q.0) rest) a (later h)

old_among : (rs : List (Word × Word)) (a next : Word) → Contains (new_labels rs a) next → Contains (map (λ (r : Word × Word). r.0) rs) a
old_among [] a next h = absurd (let bad = h.1 in omega (arith, bad))
old_among (r ∷ rs) a next h =
    old_at (bytes_eq a r.0) a next r rs (filter (λ (q : Word × Word). bytes_eq a q.0) rs) refl h (λ k. old_among rs a next k)

-- ---- who may have a label

module _ (rs : List (Word × Word)) (test : Word → Bool) where
  from_old : (a next : Word) → Contains (new_labels rs a) next → Contains (words_in rs) a
  from_old a next h = Contains-append_left (map (λ (r : Word × Word). r.0) rs) (map (λ (r : Word × Word). r.1) rs) a (old_among rs a next h)

  to_new : (a next : Word) → Contains (new_labels rs a) next → Contains (words_in rs) next
  to_new a next h =
      Contains-append_right (map (λ (r : Word × Word). r.0) rs) (map (λ (r : Word × Word). r.1) rs) next (new_among rs a next h)

  begins_with : (row : List Word) (a w : Word) → Lead rs a row w → (a ≡ w) ⊎ Contains (words_in rs) a
  begins_with [] a w lead = inl lead
  begins_with (next ∷ row) a w lead = inr (from_old a next lead.0)

  ends_with : (row : List Word) (a w : Word) → Lead rs a row w → (a ≡ w) ⊎ Contains (words_in rs) w
  ends_with [] a w lead = inl lead
  ends_with (next ∷ row) a w lead = elim (ends_with row next w lead.1) [
    | inl same ↦ inr (subst (Contains (words_in rs)) same (to_new a next lead.0))
    | inr there ↦ inr there
  ]

  found : (a : Word) → test a ≡ true → Contains (words_in rs) a → IsTrue (is_in (filter test (words_in rs)) a)
  found a passes there = passing_in test (words_in rs) a passes there

  itself : (w : Word) → MayBeCalled rs w w
  itself w = record { row = []; lead = refl }

  here_or_found : (a w : Word) → test a ≡ true → MayBeCalled rs a w → (a ≡ w) ⊎ IsTrue (is_in (filter test (words_in rs)) a)
  here_or_found a w passes called = elim (begins_with called.row a w called.lead) [
    | inl same ↦ inl same
    | inr there ↦ inr (found a passes there)
  ]

  none_found : (w : Word) (t : Bool) → test w ≡ t
      → ((a : Word) → IsTrue (is_in (filter test (words_in rs)) a) → MayBeCalled rs a w → ⊥) → AreBearers rs test w (or_own nobody t w)
  none_found w true is none = (
    is,
    itself w,
    λ b passes called. elim (here_or_found b w passes called) [
      | inl same ↦ same
      | inr there ↦ absurd (none b there called)
    ],
  )
  none_found w false is none = λ b passes called. elim (here_or_found b w passes called) [
    | inl same ↦ absurd (let bad : true ≡ false = sym passes ∙ (ap test same ∙ is) in cc)
    | inr there ↦ none b there called
  ]

  pub all_bearers : (w : Word) (b : Bearers) → AreBearers rs (is_in (filter test (words_in rs))) w b
      → AreBearers rs test w (or_own b (test w) w)
  all_bearers w nobody h = none_found w (test w) refl h
  all_bearers w (only a) h = (
    in_passes test (words_in rs) a h.0,
    h.1,
    λ b passes called. elim (here_or_found b w passes called) [
      | inl same ↦ elim (ends_with h.1.row a w h.1.lead) [
        | inl other ↦ same ∙ sym other
        | inr there ↦ h.2 b (found b passes (subst (Contains (words_in rs)) (sym same) there)) called
      ]
      | inr there ↦ h.2 b there called
    ],
  )
  all_bearers w several h =
      (h.0, h.1, in_passes test (words_in rs) h.0 h.2, h.3, in_passes test (words_in rs) h.1 h.4, h.5, h.6)
