-- The theorems that cite an assertion, one more of them.
use Rattle.std.proofs.Common.{◌≡◌, ◌∙◌, ℕ, ◌+◌, ◌<◌, Bool, true, false, List, [], ◌∷◌, ◌++◌, length, map, take, get_or, suc, Option, Some, None, Bor}
use Rattle.std.proofs.Common.{refl, sym, ap, inl, inr, arith}
use Rattle.std.specs.Prelude.{filter, slice_get}
use Rattle.std.specs.Option.{option_map, option_and_then}
use Rattle.std.proofs.lemmas.List.{map-append, append_assoc, map_more}
use Rattle.std.proofs.lemmas.Option.{slice_get_cases}
use Rattle.std.proofs.lemmas.List.Elements.{filter-append}
use Rattle.mmtext.specs.Words.{Word}
use Rattle.mmtext.specs.Text.{Token}
use Rattle.source.specs.Scopes.{Assertion}
use Rattle.source.specs.Views.{seen_words}
use Rattle.spreading.specs.Words.{word_at}
use Rattle.spreading.specs.Spreading.{Star, cites, replaced_in, replaced_in_each}
use Rattle.spreading.specs.Views.{citer}
use Rattle.std.specs.Prelude.{codes}
use Rattle.mmsyntax.proofs.Items.{take_next}

-- ---- who cites

abbrev pub citing_in : Word → List Assertion → List Word
citing_in w xs = map (λ a. a.label) (filter (λ a. cites w a.proof) xs)

abbrev pub listed : Option Word → List Word
listed None = []
listed (Some w) = w ∷ []

pub listed_none : (o : Option (Bor (List ℕ))) → ((w : Bor (List ℕ)) → o ≡ Some w → ⊥) → [] ≡ listed (option_map (λ w. w.now) o)
listed_none None n = refl
listed_none (Some w) n = absurd (n w refl)

one_citing : (w : Word) (x : Assertion) → citing_in w (x ∷ []) ≡ listed (citer w x)
one_citing w x = at (cites w x.proof) refl
  where
    at : (b : Bool) → cites w x.proof ≡ b → citing_in w (x ∷ []) ≡ listed (citer w x)
    at true e = rw e refl
    at false e = rw e refl

module _ (w : Word) (xs : List Assertion) (k : ℕ) (x : Assertion) (at : slice_get xs k ≡ Some x) where
  more : citing_in w (take (k + 1) xs) ≡ citing_in w (take k xs) ++ listed (citer w x)
  more =
      ap (citing_in w) (take_next xs k x at)
      ∙ (ap (map (λ a. a.label)) (filter-append (λ a. cites w a.proof) (take k xs) (x ∷ []))
      ∙ (map-append (λ (a : Assertion). a.label) (filter (λ a. cites w a.proof) (take k xs)) (filter (λ a. cites w a.proof) (x ∷ []))
      ∙ ap (λ ws. citing_in w (take k xs) ++ ws) (one_citing w x)))

  citing_there : (o : Option Word) → o ≡ option_and_then (citer w) (slice_get xs k) → (now : List Word) → now ≡ citing_in w (take k xs)
      → now ++ listed o ≡ citing_in w (take (k + 1) xs)
  citing_there o is now so_far =
      ap (λ ws. ws ++ listed o) so_far
      ∙ (ap (λ v. citing_in w (take k xs) ++ listed v) (is ∙ ap (option_and_then (citer w)) at) ∙ sym more)

pub citing_next : (w : Word) (xs : List Assertion) (k : ℕ) → k < length xs → (o : Option Word)
    → o ≡ option_and_then (citer w) (slice_get xs k) → (now : List Word) → now ≡ citing_in w (take k xs)
    → now ++ listed o ≡ citing_in w (take (k + 1) xs)
citing_next w xs k lt = elim (slice_get_cases xs k).1 [
  | inl h ↦ citing_there w xs k h.0 h.2
  | inr h ↦ absurd (omega arith)
]

pub citer_there : (w : Word) (o : Option Assertion) → cites w (option_and_then (λ a. a.proof) o) ≡ true
    → option_map (λ a. a.label) o ≡ option_and_then (citer w) o
citer_there w None e = refl
citer_there w (Some a) e = rw e refl

pub citer_none : (w : Word) (o : Option Assertion) → cites w (option_and_then (λ a. a.proof) o) ≡ false
    → None ≡ option_and_then (citer w) o
citer_none w None e = refl
citer_none w (Some a) e = rw e refl

-- ---- a transaction for each

-- a word of a list, and the words behind it
pub one_further : (words others : List (Bor (List ℕ))) (first : Bor (List ℕ)) (k : ℕ) (d : Bor (List ℕ)) → words ≡ first ∷ others
    → k < length others
    → seen_words (take (suc (k + 1)) words) ≡ first.now ∷ (seen_words (take k others) ++ (get_or others k d).now ∷ [])
one_further words others first k d is lt =
    ap (λ ws. seen_words (take (suc (k + 1)) ws)) is
    ∙ ap (λ ws. first.now ∷ ws) (map_more (λ (w : Bor (List ℕ)). w.now) others k d lt)

pub so_far : (words others : List (Bor (List ℕ))) (first : Bor (List ℕ)) (k : ℕ) → words ≡ first ∷ others
    → seen_words (take (suc k) words) ≡ first.now ∷ seen_words (take k others)
so_far words others first k is = ap (λ ws. seen_words (take (suc k) ws)) is

module _ (x : Star) where
  abbrev pub between : List Token
  between = word_at x.verb.place (codes "commit") ∷ word_at x.verb.place (codes "begin") ∷ []

  each_more : (w : Word) (ws : List Word) (v : Word)
      → replaced_in_each x (w ∷ (ws ++ v ∷ [])) ≡ replaced_in_each x (w ∷ ws) ++ (between ++ replaced_in x v)
  each_more w [] v = refl
  each_more w (u ∷ ws) v = ap (λ ts. replaced_in x w ++ (between ++ ts)) (each_more u ws v)

  -- behind what stood there, one more
  pub put_next : (start now : List Token) (w v : Word) (ws : List Word) → now ≡ start ++ replaced_in_each x (w ∷ ws)
      → (now ++ between) ++ replaced_in x v ≡ start ++ replaced_in_each x (w ∷ (ws ++ v ∷ []))
  put_next start now w v ws is =
      append_assoc now between (replaced_in x v)
      ∙ (ap (λ ts. ts ++ (between ++ replaced_in x v)) is
      ∙ (append_assoc start (replaced_in_each x (w ∷ ws)) (between ++ replaced_in x v)
      ∙ ap (λ ts. start ++ ts) (sym (each_more w ws v))))
