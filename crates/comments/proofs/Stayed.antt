-- The comments of a source and of a text, compared.
use Rattle.std.proofs.Common.{◌≡◌, ◌∙◌, ℕ, ◌<◌, Bool, true, false, List, [], ◌∷◌, map, length, get_or, Vec, Global, refl, sym, ap, subst, inl, inr}
use Rattle.std.specs.Prelude.{All, IsTrue, IsPermutation}
use Rattle.std.proofs.lemmas.List.Elements.{All-head}
use Rattle.std.proofs.lemmas.List.Sorted.{IsPermutation-map, IsPermutation-sym, IsPermutation-trans}
use Rattle.std.specs.Ordering.{is_lt, nat_cmp}
use Rattle.std.specs.Cmp.Lexicographic.{slice_cmp}
use Rattle.std.specs.List.Sorted.{IsSortedBy}
use Rattle.std.proofs.lemmas.List.{get_or-map}
use Rattle.mmtext.specs.Words.{Word}
use Rattle.comments.proofs.InOrder.{same_sorted}
use Rattle.source.specs.Scopes.{is_in}
use Rattle.giving.specs.Staying.{Change}
use Rattle.source.specs.Flags.{kept}
use Rattle.commentwords.specs.Words.{at_first}
use Rattle.commentwords.proofs.Unchanged.{words_same}
use Rattle.comments.specs.Comments.{Comment, comments, reading, reading_then}
use Rattle.comments.specs.Deleted.{IsOfDeleted}
use Rattle.comments.specs.Kept.{AreKept, AreLost}
use Rattle.comments.specs.Walks.{seen_texts, AreTexts}
use Rattle.comments.proofs.KeptBy.{kept_all}

-- ---- where nothing changes, and nothing is gone

reads_same : (xs : List Comment) → map (reading_then []) xs ≡ map (λ c. reading c.words) xs
reads_same [] = refl
reads_same (x ∷ xs) =
    ap (λ ws. reading ws ∷ map (reading_then []) xs) (words_same at_first x.words)
    ∙ ap (λ ts. reading x.words ∷ ts) (reads_same xs)

never : (b : Bool) → b ≡ false → IsTrue b → ⊥
never b isnt is = let e : ◌≡◌ {A = Bool} false true = sym isnt ∙ is in absurd cc

none_gone : (ws : List Word) → All (λ label. IsTrue (is_in [] label)) ws → ws ≡ []
none_gone [] h = refl
none_gone (w ∷ ws) h = absurd (never (is_in [] w) refl (All-head (λ label. IsTrue (is_in [] label)) w ws h))

none_deleted : (source : List ℕ) (c : Comment) → IsOfDeleted [] source c → ⊥
none_deleted source c h = elim h [
  | inl front ↦ never (is_in [] front.label.text) refl front.deleted
  | inr inside ↦ inside.block.some (none_gone _ inside.block.each)
]

pub texts_there : (out : List ℕ) (texts : List (List ℕ)) → AreTexts [] [] out texts → texts ≡ map (λ c. reading c.words) (comments out)
texts_there out texts a =
    a.same
    ∙ ap (map (reading_then [])) (kept_all (IsOfDeleted [] out) (none_deleted out) a.stay (comments out) a.many a.left_out)
    ∙ reads_same (comments out)

-- ---- texts in order

abbrev items_of : Vec ℕ Global → List ℕ
items_of v = v.items

abbrev Sorted : List (Vec ℕ Global) → Type 0
Sorted us = IsSortedBy (λ x y. is_lt (slice_cmp nat_cmp x.items y.items)) us

-- at each place stands the same text
pub at_place : (ones others : List (Vec ℕ Global)) (i : ℕ) (d e : Vec ℕ Global) → i < length ones → i < length others
    → seen_texts ones ≡ seen_texts others → (get_or ones i d).items ≡ (get_or others i e).items
at_place ones others i d e within there same =
    sym (get_or-map items_of ones i d [] within)
    ∙ ap (λ (ts : List (List ℕ)). get_or ts i []) same
    ∙ get_or-map items_of others i e [] there

-- the texts that are there are those that are wanted, in another order
same_texts : (wanted there us vs : List (Vec ℕ Global)) → IsPermutation wanted us → IsPermutation there vs → seen_texts us ≡ seen_texts vs
    → IsPermutation (seen_texts there) (seen_texts wanted)
same_texts wanted there us vs p q same =
    let items : Vec ℕ Global → List ℕ = λ v. v.items in
    let one : IsPermutation (seen_texts wanted) (seen_texts us) = IsPermutation-map items wanted us p in
    let other : IsPermutation (seen_texts there) (seen_texts us) =
    subst (IsPermutation (seen_texts there)) (sym same) (IsPermutation-map items there vs q) in
    IsPermutation-trans (seen_texts there) (seen_texts us) (seen_texts wanted) other
    (IsPermutation-sym (seen_texts wanted) (seen_texts us) one)

pub kept_by : (cs : List Change) (gone : List Word) (source out : List ℕ) (wanted there us vs : List (Vec ℕ Global))
    → AreTexts cs gone source (seen_texts wanted) → AreTexts [] [] out (seen_texts there) → IsPermutation wanted us → IsPermutation there vs
    → seen_texts us ≡ seen_texts vs → AreKept cs gone source out
kept_by cs gone source out wanted there us vs a b p q same = record {
  stay = a.stay;
  many = a.many;
  left = a.left_out;
  same =
      subst (λ xs. IsPermutation xs (map (reading_then cs) (kept a.stay (comments source)))) (texts_there out (seen_texts there) b)
      (subst (IsPermutation (seen_texts there)) a.same (same_texts wanted there us vs p q same));
}

-- texts in order that differ
pub lost_by : (cs : List Change) (gone : List Word) (source out : List ℕ) (wanted there us vs : List (Vec ℕ Global))
    → AreTexts cs gone source (seen_texts wanted) → AreTexts [] [] out (seen_texts there) → IsPermutation wanted us → IsPermutation there vs
    → Sorted us → Sorted vs → (seen_texts us ≡ seen_texts vs → ⊥) → AreLost cs gone source out
lost_by cs gone source out wanted there us vs a b p q one other differ = record {
  stay = a.stay;
  many = a.many;
  left = a.left_out;
  differ = λ same.
      let ts = map (reading_then cs) (kept a.stay (comments source)) in
      let texts : IsPermutation (seen_texts there) (seen_texts wanted) =
      subst (λ (xs : List Word). IsPermutation xs (seen_texts wanted)) (sym (texts_there out (seen_texts there) b))
      (subst (IsPermutation (map (λ c. reading c.words) (comments out))) (sym a.same) same) in
      differ (same_sorted items_of wanted there us vs p q one other
      (IsPermutation-sym (seen_texts there) (seen_texts wanted) texts));
}
