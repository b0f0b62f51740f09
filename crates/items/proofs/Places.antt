-- Where the first token from a place on begins.
use Rattle.std.proofs.Common.{◌≡◌, ◌∙◌, ℕ, suc, ◌≤◌, Bool, true, false, cond, List, [], ◌∷◌, sym, ap, arith}
use Rattle.std.proofs.lemmas.Bool.{cond-false}
use Rattle.mmtext.specs.Text.{Token, is_white, ends_token, with_byte, tokens_from}

pub with_place : (p b : ℕ) (e : Bool) (us ts : List Token) (t : Token) → with_byte p b e us ≡ t ∷ ts → t.place ≡ p
with_place p b true us ts t h = let e : record { place = p; text = b ∷ [] } ≡ t = cc in sym (ap (λ (x : Token). x.place) e)
with_place p b false [] ts t h = let e : record { place = p; text = b ∷ [] } ≡ t = cc in sym (ap (λ (x : Token). x.place) e)
with_place p b false (u ∷ us) ts t h =
    let e : record { place = p; text = b ∷ u.text } ≡ t = cc in sym (ap (λ (x : Token). x.place) e)

first_at : (p b : ℕ) (w e : Bool) (us ts : List Token) (t : Token) → (us ≡ t ∷ ts → suc p ≤ t.place)
    → cond w us (with_byte p b e us) ≡ t ∷ ts → p ≤ t.place
first_at p b true e us ts t later h = let l = later h in omega arith
first_at p b false e us ts t later h = let same = with_place p b e us ts t h in omega arith

-- a token begins at the place from which it was looked for, or later
pub first_place : (p : ℕ) (bs : List ℕ) (t : Token) (ts : List Token) → tokens_from p bs ≡ t ∷ ts → p ≤ t.place
unfolding tokens_from
first_place p [] t ts h = absurd cc
first_place p (b ∷ bs) t ts h =
    first_at p b (is_white b) (ends_token bs) (tokens_from (suc p) bs) ts t (first_place (suc p) bs t ts) h

-- where no token ends before bytes, one begins there
pub begins_there : (p : ℕ) (bs : List ℕ) → ends_token bs ≡ false → (u : Token) (us : List Token) → tokens_from p bs ≡ u ∷ us → u.place ≡ p
unfolding tokens_from
begins_there p [] goes_on u us h = absurd cc
begins_there p (b ∷ bs) goes_on u us h =
    with_place p b (ends_token bs) (tokens_from (suc p) bs) us u
    (sym (cond-false (is_white b) (tokens_from (suc p) bs) (with_byte p b (ends_token bs) (tokens_from (suc p) bs)) goes_on) ∙ h)
