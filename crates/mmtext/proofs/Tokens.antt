-- Tokens of a text from a place on.
use Rattle.std.proofs.Common.{◌≡◌, ℕ, zero, suc, ◌+◌, ◌-◌, ◌<◌, ◌≤◌, true, false, List, [], ◌∷◌, length, get_or, take, drop, refl, sym}
use Rattle.std.proofs.Common.{ap, ◌∙◌, arith}
use Rattle.std.proofs.lemmas.Bool.{cond-true, cond-false}
use Rattle.std.proofs.lemmas.List.{get_or-drop, length-drop, length-take, drop-drop, drop_all}
use Rattle.mmtext.specs.Text.{is_white, ends_token, with_byte, tokens_from}

-- white space is passed over
pub white_at : (p : ℕ) (xs : List ℕ) → 0 < length xs → is_white (get_or xs 0 0) ≡ true → tokens_from p xs ≡ tokens_from (suc p) (drop 1 xs)
unfolding tokens_from
white_at p [] lt h = absurd (omega arith)
white_at p (b ∷ bs) lt h = cond-true (is_white b) (tokens_from (suc p) bs) (with_byte p b (ends_token bs) (tokens_from (suc p) bs)) h

-- printable bytes up to white space or the end are a token
pub word_at : (p n : ℕ) (xs : List ℕ) → 0 < n → n ≤ length xs → ((k : ℕ) → k < n → is_white (get_or xs k 0) ≡ false)
    → ends_token (drop n xs) ≡ true
    → tokens_from p xs ≡ record { place = p; text = take n xs } ∷ tokens_from (p + n) (drop n xs)
unfolding tokens_from
word_at p zero xs pos le h e = absurd (omega arith)
word_at p (suc n) [] pos le h e = absurd (omega arith)
word_at p (suc zero) (b ∷ bs) pos le h e =
    cond-false (is_white b) (tokens_from (suc p) bs) (with_byte p b (ends_token bs) (tokens_from (suc p) bs)) (h 0 (omega arith))
    ∙ ap (λ v. with_byte p b v (tokens_from (suc p) bs)) e
    ∙ ap (λ q. record { place = p; text = b ∷ [] } ∷ tokens_from q bs) (let q : suc p ≡ p + 1 = omega arith in q)
word_at p (suc (suc n)) (b ∷ []) pos le h e = absurd (omega arith)
word_at p (suc (suc n)) (b ∷ c ∷ cs) pos le h e =
    let later = word_at (suc p) (suc n) (c ∷ cs) (omega arith) (omega arith) (λ k lt. h (suc k) (omega arith)) e in
    cond-false (is_white b) (tokens_from (suc p) (c ∷ cs)) (with_byte p b (is_white c) (tokens_from (suc p) (c ∷ cs))) (h 0 (omega arith))
    ∙ ap (λ v. with_byte p b v (tokens_from (suc p) (c ∷ cs))) (h 1 (omega arith))
    ∙ ap (λ ts. with_byte p b false ts) later
    ∙ ap (λ q. record { place = p; text = b ∷ c ∷ take n cs } ∷ tokens_from q (drop n cs))
    (let q : suc p + suc n ≡ p + suc (suc n) = omega arith in q)

-- ---- as the two loops of the scanner go

pub passes_white : (text : List ℕ) (from i : ℕ) → i < length text → is_white (get_or text i 0) ≡ true
    → tokens_from from (drop from text) ≡ tokens_from i (drop i text)
    → tokens_from from (drop from text) ≡ tokens_from (i + 1) (drop (i + 1) text)
passes_white text from i lt h so_far =
    let one : i + 1 ≡ suc i = omega arith in
    so_far ∙ white_at i (drop i text) (omega (arith, length-drop i text)) (rw get_or-drop (let z : i + 0 ≡ i = omega arith in rw z h))
    ∙ ap (tokens_from (suc i)) (drop-drop 1 i text) ∙ ap (λ k. tokens_from k (drop (i + 1) text)) (sym one)

pub ends_at : (text : List ℕ) (i : ℕ) → (i < length text → is_white (get_or text i 0) ≡ true) → ends_token (drop i text) ≡ true
ends_at [] zero h = refl
ends_at [] (suc i) h = refl
ends_at (b ∷ bs) zero h = h (omega arith)
ends_at (b ∷ bs) (suc i) h = ends_at bs i (λ lt. h (omega arith))

pub takes_word : (text : List ℕ) (from start end after : ℕ) → start < end → end ≤ length text
    → ((k : ℕ) → start ≤ k → k < end → is_white (get_or text k 0) ≡ false) → (end < length text → is_white (get_or text end 0) ≡ true)
    → tokens_from from (drop from text) ≡ tokens_from start (drop start text) → after ≡ end
    → tokens_from from (drop from text) ≡ record { place = start; text = take (end - start) (drop start text) } ∷ tokens_from after
    (drop after text)
takes_word text from start end after lt le inside ends so_far same =
    let n = end - start in
    let sum : start + n ≡ after = omega arith in
    so_far
    ∙ word_at start n (drop start text) (omega arith) (omega (arith, length-drop start text))
    (λ k h. rw get_or-drop (inside (start + k) (omega arith) (omega arith)))
    (ap ends_token (drop-drop n start text) ∙ ends_at text (start + n) (let e : start + n ≡ end = omega arith in rw e ends))
    ∙ ap (λ q. record { place = start; text = take n (drop start text) } ∷ tokens_from (start + n) q) (drop-drop n start text)
    ∙ ap (λ k. record { place = start; text = take n (drop start text) } ∷ tokens_from k (drop k text)) sum

pub length-part : (text : List ℕ) (start end : ℕ) → start ≤ end → end ≤ length text
    → start + length (take (end - start) (drop start text)) ≡ end
length-part text start end le within = omega (arith, length-take (end - start) (drop start text), length-drop start text)

pub nothing_at : (text : List ℕ) (from i : ℕ) → length text ≤ i → tokens_from from (drop from text) ≡ tokens_from i (drop i text)
    → tokens_from from (drop from text) ≡ []
unfolding tokens_from
nothing_at text from i le so_far = so_far ∙ ap (tokens_from i) (drop_all i text le)
