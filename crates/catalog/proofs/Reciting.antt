-- Proofs changed one place after another, at ascending places: it is each changed where all that change stand there.
use Rattle.std.proofs.Common.{◌≡◌, ℕ, zero, suc, List, [], ◌∷◌, Option, None, Some, refl, sym, ap, ◌∙◌, inl, inr, arith}
use Rattle.std.specs.List.{Contains, slice_get}
use Rattle.std.specs.List.Sorted.{IsStrictlyIncreasing}
use Rattle.std.specs.Option.{option_map}
use Rattle.std.proofs.lemmas.Bool.{cases_eq}
use Rattle.std.proofs.lemmas.Option.{slice_get-map}
use Rattle.library.specs.declared.library.Ranked.{Ranked}
use Rattle.library.specs.Library.{label_of}
use Rattle.catalog.specs.Entries.{Entries, StandsIn}
use Rattle.catalog.specs.Places.{StandsAt}
use Rattle.catalog.specs.Changes.{changed_at, changed_all}
use Rattle.catalog.proofs.Ascending.{rest-ascends, first-below, first-or-rest}

-- the assertions at some places changed, one after another
abbrev pub changed_each : List ℕ → (Ranked → Ranked) → Entries → Entries
changed_each [] f es = es
changed_each (q ∷ qs) f es = changed_each qs f (changed_at q f es)

-- what has the same at each place is the same
same-places : (xs ys : Entries) → ((q : ℕ) → slice_get xs q ≡ slice_get ys q) → xs ≡ ys
same-places [] [] h = refl
same-places [] (y ∷ ys) h = absurd (let e = h zero in cc)
same-places (x ∷ xs) [] h = absurd (let e = h zero in cc)
same-places (x ∷ xs) (y ∷ ys) h =
    let first : Some x ≡ Some y = h zero in
    let same : x ≡ y = cc in
    ap (λ z. z ∷ xs) same ∙ ap (λ zs. y ∷ zs) (same-places xs ys (λ q. h (suc q)))

module _ (f : Ranked → Ranked) where
  get-changed : (es : Entries) (q : ℕ) → slice_get (changed_at q f es) q ≡ option_map (option_map f) (slice_get es q)
  get-changed [] q = refl
  get-changed (o ∷ es) zero = refl
  get-changed (o ∷ es) (suc q) = get-changed es q

  get-unchanged : (es : Entries) (p q : ℕ) → (q ≡ p → ⊥) → slice_get (changed_at p f es) q ≡ slice_get es q
  get-unchanged [] p q ne = refl
  get-unchanged (o ∷ es) zero zero ne = absurd (ne refl)
  get-unchanged (o ∷ es) zero (suc q) ne = refl
  get-unchanged (o ∷ es) (suc p) zero ne = refl
  get-unchanged (o ∷ es) (suc p) (suc q) ne = get-unchanged es p q (λ e. ne (ap (λ n. suc n) e))

  -- each of the places is changed, and no other
  each-changed : (places : List ℕ) (es target : Entries) → IsStrictlyIncreasing places
      → ((q : ℕ) → Contains places q → slice_get target q ≡ option_map (option_map f) (slice_get es q))
      → ((q : ℕ) → (Contains places q → ⊥) → slice_get target q ≡ slice_get es q) → changed_each places f es ≡ target
  each-changed [] es target up inside outside = same-places es target (λ q. sym (outside q (λ at. let lt = at.1 in omega arith)))
  each-changed (x ∷ qs) es target up inside outside =
      let next = changed_at x f es in
      let later : (q : ℕ) → Contains qs q → Contains (x ∷ qs) q = λ q at. (suc at.0, (let lt = at.1 in omega arith), at.2) in
      each-changed qs next target (rest-ascends x qs up)
      (λ q at.
      let above = first-below x qs q up at in
      inside q (later q at) ∙ ap (option_map (option_map f)) (sym (get-unchanged es x q (λ e. omega arith))))
      (λ q none. elim (cases_eq q x) [
        | inl same ↦
            let first : Contains (x ∷ qs) x = (0, omega arith, refl) in
            ap (slice_get target) same ∙ inside x first ∙ sym (get-changed es x) ∙ ap (slice_get next) (sym same)
        | inr ne ↦
            outside q (λ at. elim (first-or-rest x qs q at) [ inl e ↦ ne e | inr rest ↦ none rest ])
            ∙ sym (get-unchanged es x q ne)
      ])

  -- where the others stay as they are under the change, each is changed
  pub each-is-all : (places : List ℕ) (es : Entries) → IsStrictlyIncreasing places
      → ((q : ℕ) (e : Ranked) → (Contains places q → ⊥) → StandsIn es q e → f e ≡ e) → changed_each places f es ≡ changed_all f es
  each-is-all places es up rest =
      each-changed places es (changed_all f es) up
      (λ q at. slice_get-map (option_map f) es q)
      (λ q none. slice_get-map (option_map f) es q ∙ stays (slice_get es q) (λ e at. rest q e none at))
    where
      stays : (o : Option (Option Ranked)) → ((e : Ranked) → o ≡ Some (Some e) → f e ≡ e) → option_map (option_map f) o ≡ o
      stays None h = refl
      stays (Some None) h = refl
      stays (Some (Some e)) h = ap (λ x. Some (Some x)) (h e refl)

  -- an assertion keeps its label under a change of proofs
  pub stands-changed : (es : Entries) (w : List ℕ) (p q : ℕ) → ((e : Ranked) → label_of (f e) ≡ label_of e) → StandsAt es w p
      → StandsAt (changed_at q f es) w p
  stands-changed es w p q same s = elim (cases_eq p q) [
    | inl here ↦ record {
      entry = f s.entry;
      at = ap (slice_get (changed_at q f es)) here ∙ get-changed es q ∙ ap (λ k. option_map (option_map f) (slice_get es k)) (sym here)
          ∙ ap (option_map (option_map f)) s.at;
      labelled = same s.entry ∙ s.labelled;
    }
    | inr ne ↦ record { entry = s.entry; at = get-unchanged es q p ne ∙ s.at; labelled = s.labelled }
  ]
