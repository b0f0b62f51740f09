-- The library after a front of a history verifies, and stays where the front is settled.
use Rattle.std.proofs.Common.{◌≡◌, ℕ, zero, suc, ◌<◌, ◌≤◌, List, [], ◌∷◌, Some, length, take, get_or, refl, sym, ap, ◌∙◌, arith}
use Rattle.std.specs.List.{slice_get}
use Rattle.std.proofs.lemmas.Option.{slice_get-get_or}
use Rattle.library.specs.declared.library.Ranked.{Ranked}
use Rattle.library.specs.Library.{Setting, Verifies}
use Rattle.librarylaws.proofs.Editing.{transaction_verifies}
use Rattle.library.specs.Histories.{Entry, open_entry, void_entry, done_entry, EntryFits, EntriesFit, after_entry, after_all}
use Rattle.library.specs.Laws.{FrontsVerify, GrowthIsReflexive, GrowthIsTransitive, SettledFrontsStay}

-- ---- it verifies

entry_verifies : (s : Setting) (lib : List Ranked) (e : Entry) → Verifies s lib → EntryFits s.prelude e → Verifies s (after_entry s lib e)
entry_verifies s lib open_entry v fit = v
entry_verifies s lib void_entry v fit = v
entry_verifies s lib (done_entry cs replies) v fit = transaction_verifies s lib cs v fit

all_verify : (s : Setting) (lib : List Ranked) (es : List Entry) → Verifies s lib → EntriesFit s.prelude es
    → Verifies s (after_all s lib es)
all_verify s lib [] v fit = v
all_verify s lib (e ∷ es) v fit =
    all_verify s (after_entry s lib e) es (entry_verifies s lib e v (fit zero e (omega arith))) (λ i d lt. fit (suc i) d (omega arith))

-- those of a front fit
front_fits : (s : Setting) (h : List Entry) (k : ℕ) → EntriesFit s.prelude h → EntriesFit s.prelude (take k h)
front_fits s h zero fit i d lt = absurd (omega arith)
front_fits s [] (suc k) fit i d lt = absurd (omega arith)
front_fits s (e ∷ es) (suc k) fit zero d lt = fit zero d (omega arith)
front_fits s (e ∷ es) (suc k) fit (suc i) d lt = front_fits s es k (λ j f within. fit (suc j) f (omega arith)) i d (omega arith)

pub fronts_verify : FrontsVerify
fronts_verify s lib0 h k v fit = all_verify s lib0 (take k h) v (front_fits s h k fit)

-- ---- growth

pub growth_is_reflexive : GrowthIsReflexive
growth_is_reflexive h = record { longer = omega arith; kept = λ i e at settled. at }

pub growth_is_transitive : GrowthIsTransitive
growth_is_transitive f g h a b =
    let first = a.longer in
    let second = b.longer in
    record { longer = omega arith; kept = λ i e at settled. b.kept i e (a.kept i e at settled) settled }

-- ---- it stays

same_front : (k : ℕ) (g h : List Entry) → k ≤ length g → ((i : ℕ) → i < k → slice_get h i ≡ slice_get g i) → take k h ≡ take k g
same_front zero g h within same = refl
same_front (suc k) [] h within same = absurd (omega arith)
same_front (suc k) (x ∷ g) [] within same =
    let none : slice_get [] zero ≡ Some x = same zero (omega arith) in
    absurd cc
same_front (suc k) (x ∷ g) (y ∷ h) within same =
    let first : Some y ≡ Some x = same zero (omega arith) in
    let entry : y ≡ x = cc in
    ap (λ e. e ∷ take k h) entry ∙ ap (λ es. x ∷ es) (same_front k g h (omega arith) (λ i lt. same (suc i) (omega arith)))

pub settled_fronts_stay : SettledFrontsStay
settled_fronts_stay s lib0 g h k grows within settled =
    ap (after_all s lib0) (same_front k g h within (λ i lt.
    let e = get_or g i open_entry in
    let at : slice_get g i ≡ Some e = slice_get-get_or g i open_entry (omega arith) in
    grows.kept i e at (λ is_open. settled i lt (at ∙ ap (λ x. Some x) is_open)) ∙ sym at))
