-- Assertions without a proof that are to have another one.
use Rattle.std.proofs.Common.{◌≡◌, ◌≢◌, ◌∙◌, ℕ, Bool, true, false, cond, List, [], ◌∷◌, All, Some, None, refl, sym, ap, subst, inl, inr, append-nil}
use Rattle.std.specs.Prelude.{find}
use Rattle.std.specs.Str.{bytes_eq}
use Rattle.std.proofs.lemmas.Bool.{cases_Bool}
use Rattle.std.proofs.lemmas.List.Elements.{All-head, All-tail}
use Rattle.mmtext.specs.Words.{Word}
use Rattle.mmsyntax.proofs.Names.{same_bytes}
use Rattle.mmsyntax.specs.declared.statement.Assertion.{Assertion}
use Rattle.source.specs.Scopes.{Scope}
use Rattle.giving.specs.Staying.{Change}
use Rattle.items.specs.Items.{asserts, label_among, said}
use Rattle.items.specs.Rewriting.{text_for}
use Rattle.items.specs.Bare.{HasBare}
use Rattle.sourceediting.specs.Following.{Followed}
use Rattle.sourceediting.specs.Entries.{Edition, assertions_of}
use Rattle.sourceediting.specs.Reproved.{HasAnotherListing, AreOtherProofs}
use Rattle.sourceediting.specs.Refusals.{AreListedAnew, IsBareIn}

-- what is found passes the test, and is as all are
found_so : {A : Type 0} (P : A → Type 0) (test : A → Bool) (xs : List A) → All P xs → find test xs ≢ None
    → (x : A) × P x × (test x ≡ true)
found_so P test [] all some = absurd (some refl)
found_so P test (x ∷ xs) all some = elim (cases_Bool (test x)) [
  | inl y ↦ (x, All-head P x xs all, y)
  | inr n ↦ found_so P test xs (All-tail P x xs all) (λ none. some (ap (λ b. cond b (Some x) (find test xs)) n ∙ none))
]

-- an item has one label at most
one_label : (b : Bool) (label w : Word) (ws : List Word) → cond b (label ∷ []) [] ≡ w ∷ ws → ws ≡ []
one_label true label w ws e = let same : [] ≡ ws = cc in sym same
one_label false label w ws e = absurd cc

one_among : (vs : List Word) (w : Word) (ws : List Word) → label_among vs ≡ w ∷ ws → ws ≡ []
one_among [] w ws e = absurd cc
one_among (v ∷ []) w ws e = absurd cc
one_among (label ∷ mark ∷ vs) w ws e = one_label (asserts mark) label w ws e

module _ (living : List Followed) (edited : List Assertion) (source : List ℕ) (proofs : List Change) where
  pub bare_in : HasBare proofs source → AreListedAnew living edited proofs → IsBareIn living edited source
  bare_in (x, stands, bare) (opened, listed) = by_labels (label_among (said x)) refl
    where
      by_labels : (ws : List Word) → label_among (said x) ≡ ws → IsBareIn living edited source
      by_labels [] e = absurd (bare.wanted (ap (text_for proofs) e))
      by_labels (w ∷ ws) e =
          let found = found_so (λ (p : Change). HasAnotherListing opened edited living p.0) (λ (p : Change). bytes_eq w p.0) proofs listed
          (λ none. bare.wanted (ap (text_for proofs) e ∙ none)) in record {
            item = x;
            stands = stands;
            bare = bare.bare;
            label = w;
            labelled = append-nil (label_among (said x)) ∙ (e ∙ ap (λ vs. w ∷ vs) (one_among (said x) w ws e));
            opened = opened;
            listed = subst (HasAnotherListing opened edited living) (sym (same_bytes w found.0.0 found.2)) found.1;
          }

-- other proofs are of those that are listed anew
pub listed_anew : (source : List ℕ) (s : Scope) (e : Edition) (living : List Followed) (proofs : List Change)
    → AreOtherProofs source s e living proofs → AreListedAnew living (assertions_of e) proofs
listed_anew source s e living proofs all = (e.opened.assertions, λ k d lt. (all k d lt).0)
