-- A command around its proof, as the code finds its two ends.
use Rattle.std.proofs.Common.{◌≡◌, ◌∙◌, ℕ, suc, ◌+◌, cond, ltb, List, [], ◌∷◌, map, take, drop, Option, Some, None}
use Rattle.std.proofs.Common.{refl, sym, ap, ap₂, arith, codes}
use Rattle.std.specs.Prelude.{position, not}
use Rattle.std.specs.List.{position_or_len}
use Rattle.std.proofs.lemmas.List.{length-map, drop-map, take-map}
use Rattle.mmtext.specs.Words.{Word}
use Rattle.mmtext.specs.Views.{seen}
use Rattle.mmtext.specs.declared.token.Token.{Token as CodeToken}
use Rattle.spreading.specs.Words.{says}
use Rattle.expanding.specs.Cuts.{cut_at, cut_behind, cut_of}
use Rattle.spreading.proofs.Counted.{is_word}

-- ---- places of words

place_or_length : (w : Word) (ts : List CodeToken) → position_or_len (λ t. says t w) (map seen ts) ≡ position_or_len (is_word w) ts
place_or_length w [] = refl
place_or_length w (t ∷ ts) = ap (λ n. cond (not (is_word w t)) (1 + n) 0) (place_or_length w ts)

pub place_seen : (w : Word) (ts : List CodeToken) → position (λ t. says t w) (map seen ts) ≡ position (is_word w) ts
place_seen w ts =
    ap₂ (λ n long. cond (ltb n long) (Some n) None) (place_or_length w ts) (length-map ts seen)

-- ---- cuts

module _ (p : List CodeToken) where
  pub uncut : None ≡ position (is_word (codes "$=")) p → None ≡ cut_of (map seen p)
  uncut none = ap (cut_at (map seen p)) (none ∙ sym (place_seen (codes "$=") p))

  module _ (n : ℕ) (begins : Some n ≡ position (is_word (codes "$=")) p) (front rest : List CodeToken) (up_to : front ≡ take (n + 1) p)
      (behind : rest ≡ drop (n + 1) p) where
    one_more : n + 1 ≡ suc n
    one_more = omega arith

    front_seen : map seen front ≡ take (suc n) (map seen p)
    front_seen = ap (map seen) (up_to ∙ ap (λ m. take m p) one_more) ∙ sym (take-map seen (suc n) p)

    rest_seen : map seen rest ≡ drop (suc n) (map seen p)
    rest_seen = ap (map seen) (behind ∙ ap (λ m. drop m p) one_more) ∙ sym (drop-map seen (suc n) p)

    begun : (o : Option ℕ) → o ≡ position (is_word (codes "$.")) rest → cut_behind (map seen front) (map seen rest) o ≡ cut_of (map seen p)
    begun o ends =
        ap (cut_behind (map seen front) (map seen rest)) (ends ∙ sym (place_seen (codes "$.") rest))
        ∙ (ap₂ (λ xs ys. cut_behind xs ys (position (λ t. says t (codes "$.")) ys)) front_seen rest_seen
        ∙ ap (cut_at (map seen p)) (begins ∙ sym (place_seen (codes "$=") p)))

    pub unended : None ≡ position (is_word (codes "$.")) rest → None ≡ cut_of (map seen p)
    unended none = begun None none

    pub cut_there : (m : ℕ) → Some m ≡ position (is_word (codes "$.")) rest → (proof back : List CodeToken) → proof ≡ take m rest
        → back ≡ drop m rest
        → Some (record { front = map seen front; proof = map seen proof; back = map seen back }) ≡ cut_of (map seen p)
    cut_there m ends proof back before from =
        ap₂ (λ x y. Some (record { front = map seen front; proof = x; back = y })) (ap (map seen) before ∙ sym (take-map seen m rest))
        (ap (map seen) from ∙ sym (drop-map seen m rest))
        ∙ begun (Some m) ends
