-- The opening library: its entries one by one.
use Rattle.std.proofs.Common.{◌≡◌, ℕ, zero, suc, ◌+◌, ◌*◌, ◌<◌, false, List, [], ◌∷◌, ◌++◌, Some, inl, inr, get_or, take, map}
use Rattle.std.proofs.Common.{sym, ap, subst, ◌∙◌, arith}
use Rattle.std.specs.Prelude.{slice_get}
use Rattle.std.specs.Str.{bytes_eq}
use Rattle.std.proofs.lemmas.Bool.{cases_Bool}
use Rattle.std.proofs.lemmas.List.{take_more, length-map}
use Rattle.std.proofs.lemmas.Option.{slice_get_within, get_or_from_slice_get}
use Rattle.mmsyntax.proofs.Names.{same_bytes}
use Rattle.mmsyntax.specs.declared.statement.Assertion.{Assertion}
use Rattle.mmsyntax.specs.Tables.{Tables}
use Rattle.mmsyntax.specs.Assertions.{Distinct}
use Rattle.mmframes.specs.Frames.{frame}
use Rattle.library.specs.declared.library.Ranked.{Ranked}
use Rattle.library.specs.Library.{label_of, ranked_from}
use Rattle.library.specs.Edits.{has}
use Rattle.librarylaws.proofs.Opening.{length-ranked_from}
use Rattle.library.proofs.Places.{labels_apart}
use Rattle.catalog.specs.Entries.{standing, StandsIn, AreFramed}
use Rattle.catalog.proofs.Living.{none-has}
use Rattle.catalog.proofs.Changing.{living-standing}

-- the i-th entry, from 0 on
pub ranked_from-at : (k : ℕ) (xs : List Assertion) (i : ℕ) (a : Assertion) → slice_get xs i ≡ Some a
    → slice_get (ranked_from k xs) i ≡ Some (record { rank = 100 * (k + i); assertion = a })
ranked_from-at k [] i a h = absurd cc
ranked_from-at k (x ∷ xs) zero a h =
    let same : x ≡ a = cc in
    let rank : k ≡ k + 0 = omega arith in
    ap (λ (y : Assertion). Some (record { rank = 100 * k; assertion = y })) same
    ∙ ap (λ (n : ℕ). Some (record { rank = 100 * n; assertion = a })) rank
ranked_from-at k (x ∷ xs) (suc i) a h =
    let rank : k + 1 + i ≡ k + suc i = omega arith in
    ranked_from-at (k + 1) xs i a h ∙ ap (λ (n : ℕ). Some (record { rank = 100 * n; assertion = a })) rank

-- one more entry
pub ranked_from-next : (xs : List Assertion) (i : ℕ) (a : Assertion) → slice_get xs i ≡ Some a
    → take (i + 1) (ranked_from 1 xs) ≡ take i (ranked_from 1 xs) ++ record { rank = 100 * (i + 1); assertion = a } ∷ []
ranked_from-next xs i a h =
    let lib = ranked_from 1 xs in
    let e : Ranked = record { rank = 100 * (1 + i); assertion = a } in
    let at = ranked_from-at 1 xs i a h in
    let more : 1 + i ≡ i + 1 = omega arith in
    take_more lib i e (slice_get_within lib i e at) ∙ ap (λ x. take i lib ++ x ∷ []) (get_or_from_slice_get lib i e e at)
    ∙ ap (λ (n : ℕ). take i lib ++ record { rank = 100 * n; assertion = a } ∷ []) more

front_get : (lib : List Ranked) (i p : ℕ) (f : Ranked) → slice_get (take i lib) p ≡ Some f → (p < i) × (slice_get lib p ≡ Some f)
front_get lib zero p f h = absurd cc
front_get [] (suc i) p f h = absurd cc
front_get (x ∷ xs) (suc i) zero f h = (omega arith, h)
front_get (x ∷ xs) (suc i) (suc p) f h =
    let r = front_get xs i p f h in
    (let lt = r.0 in omega arith, r.1)

-- an assertion of a library that stands one place after another
standing-at : (lib : List Ranked) (p : ℕ) (e : Ranked) → StandsIn (standing lib) p e → slice_get lib p ≡ Some e
standing-at [] p e h = absurd cc
standing-at (x ∷ xs) zero e h = cc
standing-at (x ∷ xs) (suc p) e h = standing-at xs p e h

framed_at : (t : Tables) (k : ℕ) (xs : List Assertion) (p : ℕ) (e : Ranked) → slice_get (ranked_from k xs) p ≡ Some e
    → slice_get (map (frame t) xs) p ≡ Some (frame t e.assertion)
framed_at t k [] p e h = absurd cc
framed_at t k (x ∷ xs) zero e h =
    let same : record { rank = 100 * k; assertion = x } ≡ e = cc in
    ap (λ (y : Ranked). Some (frame t y.assertion)) same
framed_at t k (x ∷ xs) (suc p) e h = framed_at t (k + 1) xs p e h

-- where labels differ, the label of an entry is free before it
pub front_free : (lib : List Ranked) (i : ℕ) (e : Ranked) → Distinct bytes_eq (map label_of lib) → slice_get lib i ≡ Some e
    → has (take i lib) (label_of e) ≡ false
front_free lib i e apart at =
    subst (λ (l : List Ranked). has l (label_of e) ≡ false) (living-standing (take i lib))
    (none-has (standing (take i lib)) (label_of e) (λ p f front.
    let here = front_get lib i p f (standing-at (take i lib) p f front) in
    let before = here.0 in
    elim (cases_Bool (bytes_eq (label_of e) (label_of f))) [
      | inl y ↦
          let same : label_of (get_or lib p e) ≡ label_of (get_or lib i e) =
          ap label_of (get_or_from_slice_get lib p f e here.1) ∙ sym (same_bytes (label_of e) (label_of f) y)
          ∙ sym (ap label_of (get_or_from_slice_get lib i e e at)) in
          absurd (labels_apart lib apart i p e (slice_get_within lib i e at) (slice_get_within lib p f here.1)
          (λ (z : p ≡ i). omega arith) same)
      | inr n ↦ n
    ]))

-- ---- frames

-- beside the opening library stand the frames of its assertions
pub framed-opening : (t : Tables) (k : ℕ) (xs : List Assertion) → AreFramed t (standing (ranked_from k xs)) (map (frame t) xs)
framed-opening t k xs = record {
  long = length-map xs (frame t) ∙ sym (length-map (ranked_from k xs) (λ (e : Ranked). Some e) ∙ length-ranked_from k xs);
  framed = λ p e at. framed_at t k xs p e (standing-at (ranked_from k xs) p e at);
}
