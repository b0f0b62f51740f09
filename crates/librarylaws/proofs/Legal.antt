-- Histories with one more entry, and the entries of fronts.
use Rattle.std.proofs.Common.{◌≡◌, ℕ, zero, suc, ◌+◌, ◌<◌, List, [], ◌∷◌, ◌++◌, length, map, get_or, take, refl, ap, sym, subst, ◌∙◌, arith}
use Rattle.std.proofs.lemmas.List.{take_more, length-map, get_or-map}
use Rattle.std.specs.Prelude.{slice_get}
use Rattle.library.specs.declared.library.Ranked.{Ranked}
use Rattle.library.specs.declared.history.Entry.{Entry as CodeEntry}
use Rattle.library.specs.Library.{Setting}
use Rattle.library.specs.Histories.{Entry, done_entry, seen_entry, after_front, after_entry, after_all, IsRepeated, IsLegal}

module _ (s : Setting) where
  -- the library after it
  pub after_all-more : (lib : List Ranked) (h : List Entry) (e : Entry)
      → after_all s lib (h ++ e ∷ []) ≡ after_entry s (after_all s lib h) e
  after_all-more lib [] e = refl
  after_all-more lib (x ∷ h) e = after_all-more (after_entry s lib x) h e

  -- a history is legal with one more entry whose replies are the editor's
  pub legal_more : (lib : List Ranked) (h : List Entry) (e : Entry) → IsLegal s lib h → IsRepeated s (after_all s lib h) e
      → IsLegal s lib (h ++ e ∷ [])
  legal_more lib [] e legal repeated zero cs replies is =
      let k : e ≡ done_entry cs replies = cc in subst (λ x. IsRepeated s lib x) k repeated
  legal_more lib [] e legal repeated (suc i) cs replies is = cc
  legal_more lib (x ∷ h) e legal repeated zero cs replies is = legal zero cs replies is
  legal_more lib (x ∷ h) e legal repeated (suc i) cs replies is =
      legal_more (after_entry s lib x) h e (λ j. legal (suc j)) repeated i cs replies is

module _ (s : Setting) (lib : List Ranked) (h : List Entry) (i : ℕ) (e : Entry) where
  -- the first entries, with the next
  one_more : i < length h → e ≡ get_or h i e → take (i + 1) h ≡ take i h ++ e ∷ []
  one_more lt is = take_more h i e lt ∙ ap (λ x. take i h ++ x ∷ []) (sym is)

  pub after-more : i < length h → e ≡ get_or h i e → after_front s lib h (i + 1) ≡ after_entry s (after_front s lib h i) e
  after-more lt is = ap (after_all s lib) (one_more lt is) ∙ after_all-more s lib (take i h) e

  pub goes_on : i < length h → e ≡ get_or h i e → IsLegal s lib (take i h) → IsRepeated s (after_front s lib h i) e
      → IsLegal s lib (take (i + 1) h)
  goes_on lt is legal repeated = subst (λ g. IsLegal s lib g) (sym (one_more lt is)) (legal_more s lib (take i h) e legal repeated)

-- an entry that the program keeps, as the definitions see it
pub told_at : (h : List CodeEntry) (i : ℕ) (x : CodeEntry) → i < length h → x ≡ get_or h i x
    → (i < length (map seen_entry h)) × (seen_entry x ≡ get_or (map seen_entry h) i (seen_entry x))
told_at h i x lt is =
    (rw length-map lt, ap seen_entry is ∙ sym (get_or-map seen_entry h i x (seen_entry x) lt))

-- an entry of a front
pub get_in_front : (h : List Entry) (i j : ℕ) → i < j → slice_get (take j h) i ≡ slice_get h i
get_in_front h i zero lt = absurd (omega arith)
get_in_front [] i (suc j) lt = refl
get_in_front (x ∷ h) zero (suc j) lt = refl
get_in_front (x ∷ h) (suc i) (suc j) lt = get_in_front h i j (omega arith)
