-- The tokens of lines, and the bytes of tokens.
use Rattle.std.proofs.Common.{◌≡◌, ◌≢◌, ℕ, zero, suc, ◌+◌, ◌<◌, Bool, true, false, cond, List, [], ◌∷◌, ◌++◌, length, get_or, drop}
use Rattle.std.proofs.Common.{Option, Some, None, refl, sym, ap, subst, ◌∙◌, inl, inr, arith, append_assoc, length-append}
use Rattle.std.specs.Prelude.{◌||◌, IsTrue, codes}
use Rattle.std.specs.Option.{option_map}
use Rattle.std.specs.List.{flat_map, AllByRecursion}
use Rattle.std.specs.Str.{bytes_eq}
use Rattle.std.proofs.lemmas.Bool.{cases_Bool, cond-true, cond-false}
use Rattle.std.proofs.lemmas.Bool.Decides.{nat_tests}
use Rattle.std.proofs.lemmas.List.{append-nil, take_at, drop_at}
use Rattle.std.proofs.lemmas.List.Concat.{flat_map-cons}
use Rattle.mmtext.specs.Words.{Word}
use Rattle.mmtext.specs.Text.{Token, is_white, is_printable, is_lawful, ends_token, with_byte, tokens_from, tokens, IsClean}
use Rattle.mmtext.specs.Text.{has_comment_mark}
use Rattle.mmtext.specs.Comments.{words_of, without_comments}
use Rattle.mmsyntax.specs.Grammar.{Statement, constants, variables, float, alone, block, claim_spelling, piece_spelling, spelling}
use Rattle.mmsyntax.specs.Layout.{spaced, line, indented, statement_text}
pub use Rattle.mmsyntax.specs.Preludes.{IsPrintable, IsWord}
use Rattle.mmtext.proofs.Tokens.{word_at}
use Rattle.mmsyntax.proofs.Distinct.{all_left, all_right, all_append, all_weaker}

-- ---- printable bytes

-- a lawful byte that isn't white is printable, and the other way round
printable_where : (b : ℕ) → is_white b ≡ false → is_lawful b ≡ true → IsPrintable b
printable_where b white lawful = sym (ap (λ x. x || is_printable b) white) ∙ lawful

printable-not_white : (b : ℕ) → IsPrintable b → is_white b ≡ false
printable-not_white b h = grind (arith, nat_tests)

printable-lawful : (b : ℕ) → IsPrintable b → is_lawful b ≡ true
printable-lawful b h = elim (is_white b) as (λ x. (x || is_printable b) ≡ true) [ true ↦ refl | false ↦ h ]

-- ---- the tokens of a clean text are words

starts_word : (p b : ℕ) (e : Bool) (ts : List Token) → IsPrintable b → AllByRecursion IsWord (words_of ts)
    → AllByRecursion IsWord (words_of (with_byte p b e ts))
starts_word p b true ts h g = (((λ x. absurd cc), (h, tt)), g)
starts_word p b false [] h g = (((λ x. absurd cc), (h, tt)), tt)
starts_word p b false (t ∷ ts) h g = (((λ x. absurd cc), (h, g.0.1)), g.1)

words_from : (p : ℕ) (bytes : List ℕ) → AllByRecursion (λ b. is_lawful b ≡ true) bytes
    → AllByRecursion IsWord (words_of (tokens_from p bytes))
unfolding tokens_from
words_from p [] h = tt
words_from p (b ∷ bs) h = elim (cases_Bool (is_white b)) [
  | inl y ↦ subst (λ ts. AllByRecursion IsWord (words_of ts)) (sym (cond-true (is_white b) (tokens_from (suc p) bs) _ y))
      (words_from (suc p) bs h.1)
  | inr n ↦ subst (λ ts. AllByRecursion IsWord (words_of ts))
      (sym (cond-false (is_white b) (tokens_from (suc p) bs) (with_byte p b (ends_token bs) (tokens_from (suc p) bs)) n))
      (starts_word p b (ends_token bs) (tokens_from (suc p) bs) (printable_where b n h.0) (words_from (suc p) bs h.1))
]

by_index : (bytes : List ℕ) → ((k : ℕ) → k < length bytes → IsTrue (is_lawful (get_or bytes k 0)))
    → AllByRecursion (λ b. is_lawful b ≡ true) bytes
by_index [] h = tt
by_index (b ∷ bs) h = (h 0 (omega arith), by_index bs (λ k lt. h (suc k) (omega arith)))

to_index : (P : ℕ → Type 0) (bytes : List ℕ) → AllByRecursion P bytes → (k : ℕ) → k < length bytes → P (get_or bytes k 0)
to_index P [] h k lt = absurd (omega arith)
to_index P (b ∷ bs) h zero lt = h.0
to_index P (b ∷ bs) h (suc k) lt = to_index P bs h.1 k (omega arith)

words_are : (bytes : List ℕ) → IsClean bytes → AllByRecursion IsWord (words_of (tokens bytes))
words_are bytes clean = words_from 0 bytes (by_index bytes clean)

-- ---- the words outside of comments

one_more : (P : Word → Type 0) (w : Word) (o : Option (List Word)) (vs : List Word) → option_map (λ us. w ∷ us) o ≡ Some vs → P w
    → ((us : List Word) → o ≡ Some us → AllByRecursion P us) → AllByRecursion P vs
one_more P w None vs h p f = absurd cc
one_more P w (Some us) vs h p f = let e : w ∷ us ≡ vs = cc in subst (AllByRecursion P) e (p, f us refl)

-- a word that opens no comment
abbrev pub IsWritten : Word → Type 0
IsWritten w = IsWord w × (bytes_eq w (codes "$(") ≡ false)

outside_words : (c : Bool) (ws vs : List Word) → without_comments c ws ≡ Some vs
    → AllByRecursion IsWord ws → AllByRecursion IsWritten vs
outside_words false [] vs h all = let e : [] ≡ vs = cc in subst (AllByRecursion IsWritten) e tt
outside_words true [] vs h all = absurd cc
outside_words false (w ∷ ws) vs h all = elim (cases_Bool (bytes_eq w (codes "$("))) [
  | inl y ↦ outside_words true ws vs (sym (cond-true (bytes_eq w (codes "$(")) (without_comments true ws) _ y) ∙ h) all.1
  | inr n ↦
      let more = option_map (λ vs. w ∷ vs) (without_comments false ws) in
      let rest = sym (cond-false (bytes_eq w (codes "$(")) (without_comments true ws) more n) ∙ h in
      one_more IsWritten w (without_comments false ws) vs rest (all.0, n) (λ us e. outside_words false ws us e all.1)
]
outside_words true (w ∷ ws) vs h all = elim (cases_Bool (bytes_eq w (codes "$)"))) [
  | inl y ↦ outside_words false ws vs (sym (cond-true (bytes_eq w (codes "$)")) (without_comments false ws) _ y) ∙ h) all.1
  | inr n ↦
      let more = cond (has_comment_mark w) None (without_comments true ws) in
      let rest = sym (cond-false (bytes_eq w (codes "$)")) (without_comments false ws) more n) ∙ h in
      elim (cases_Bool (has_comment_mark w)) [
        | inl y ↦ absurd (let e : None ≡ Some vs = sym (cond-true (has_comment_mark w) None (without_comments true ws) y) ∙ rest in cc)
        | inr m ↦ outside_words true ws vs (sym (cond-false (has_comment_mark w) None (without_comments true ws) m) ∙ rest) all.1
      ]
]

-- the words of a clean text outside of comments are words that open none
pub written_words : (bytes : List ℕ) (vs : List Word) → IsClean bytes
    → without_comments false (words_of (tokens bytes)) ≡ Some vs → AllByRecursion IsWritten vs
written_words bytes vs clean h = outside_words false (words_of (tokens bytes)) vs h (words_are bytes clean)

pub plain : (ws : List Word) → AllByRecursion IsWritten ws → AllByRecursion IsWord ws
plain ws h = all_weaker IsWritten IsWord ws (λ w x. x.0) h

pub clean_words : (bytes : List ℕ) (vs : List Word) → IsClean bytes
    → without_comments false (words_of (tokens bytes)) ≡ Some vs → AllByRecursion IsWord vs
clean_words bytes vs clean h = plain vs (written_words bytes vs clean h)

pub no_comment : (ws : List Word) → AllByRecursion IsWritten ws → without_comments false ws ≡ Some ws
no_comment [] h = refl
no_comment (w ∷ ws) h =
    cond-false (bytes_eq w (codes "$(")) (without_comments true ws) (option_map (λ vs. w ∷ vs) (without_comments false ws)) h.0.1
    ∙ ap (λ o. option_map (λ vs. w ∷ vs) o) (no_comment ws h.1)

-- ---- the tokens of lines

-- the words of bytes, wherever they stand
first_word : (p : ℕ) (w : Word) (x : ℕ) (rest : List ℕ) → IsWord w → is_white x ≡ true
    → words_of (tokens_from p (w ++ x ∷ rest)) ≡ w ∷ words_of (tokens_from (p + length w) (x ∷ rest))
first_word p w x rest h white =
    let pos : 0 < length w = not_empty w h.0 in
    let inside : (k : ℕ) → k < length w → is_white (get_or (w ++ x ∷ rest) k 0) ≡ false = within w (x ∷ rest) h.1 in
    ap words_of (word_at p (length w) (w ++ x ∷ rest) pos (omega (arith, length-append w (x ∷ rest))) inside
    (ap ends_token (drop_at w (x ∷ rest) (length w) refl) ∙ white))
    ∙ ap (λ v. v ∷ words_of (tokens_from (p + length w) (drop (length w) (w ++ x ∷ rest)))) (take_at w (x ∷ rest) (length w) refl)
    ∙ ap (λ bs. w ∷ words_of (tokens_from (p + length w) bs)) (drop_at w (x ∷ rest) (length w) refl)
  where
    not_empty : (v : Word) → v ≢ [] → 0 < length v
    not_empty [] g = absurd (g refl)
    not_empty (b ∷ bs) g = omega arith

    within : (v more : List ℕ) → AllByRecursion IsPrintable v → (k : ℕ) → k < length v → is_white (get_or (v ++ more) k 0) ≡ false
    within [] more g k lt = absurd (omega arith)
    within (b ∷ bs) more g zero lt = printable-not_white b g.0
    within (b ∷ bs) more g (suc k) lt = within bs more g.1 k (omega arith)

pub white_first : (p x : ℕ) (rest : List ℕ) → is_white x ≡ true → tokens_from p (x ∷ rest) ≡ tokens_from (suc p) rest
unfolding tokens_from
white_first p x rest white = cond-true (is_white x) (tokens_from (suc p) rest)
    (with_byte p x (ends_token rest) (tokens_from (suc p) rest)) white

-- a word before the spaced ones
next : (p : ℕ) (w : Word) (ws : List Word) (rest : List ℕ) → IsWord w
    → words_of (tokens_from p (w ++ (spaced ws ++ 10 ∷ rest))) ≡ w ∷ words_of (tokens_from (p + length w) (spaced ws ++ 10 ∷ rest))
next p w [] rest h = first_word p w 10 rest h refl
next p w (v ∷ ws) rest h =
    let split : spaced (v ∷ ws) ++ 10 ∷ rest ≡ 32 ∷ (v ++ (spaced ws ++ 10 ∷ rest)) =
    ap (λ x. x ++ 10 ∷ rest) (flat_map-cons (λ u. 32 ∷ u) v ws) ∙ ap (λ x. 32 ∷ x) (append_assoc v (spaced ws) (10 ∷ rest)) in
    ap (λ bs. words_of (tokens_from p (w ++ bs))) split ∙ first_word p w 32 (v ++ (spaced ws ++ 10 ∷ rest)) h refl
    ∙ ap (λ bs. w ∷ words_of (tokens_from (p + length w) bs)) (sym split)

-- words with a space before each, up to the end of the line
spaced_words : (p : ℕ) (ws : List Word) (rest : List ℕ) → AllByRecursion IsWord ws
    → (q : ℕ) × (words_of (tokens_from p (spaced ws ++ 10 ∷ rest)) ≡ ws ++ words_of (tokens_from q rest))
spaced_words p [] rest h = (suc p, ap words_of (white_first p 10 rest refl))
spaced_words p (w ∷ ws) rest h =
    let later = spaced_words (suc p + length w) ws rest h.1 in
    let split : spaced (w ∷ ws) ++ 10 ∷ rest ≡ 32 ∷ (w ++ (spaced ws ++ 10 ∷ rest)) =
    ap (λ x. x ++ 10 ∷ rest) (flat_map-cons (λ v. 32 ∷ v) w ws) ∙ ap (λ x. 32 ∷ x) (append_assoc w (spaced ws) (10 ∷ rest)) in (
      later.0,
      ap (λ bs. words_of (tokens_from p bs)) split ∙ ap words_of (white_first p 32 (w ++ (spaced ws ++ 10 ∷ rest)) refl)
          ∙ next (suc p) w ws rest h.0 ∙ ap (λ x. w ∷ x) later.1,
    )

-- wherever the bytes stand, they say the words and then what follows
abbrev pub Says : List ℕ → List Word → Type 0
Says bytes ws = (p : ℕ) (rest : List ℕ) → (q : ℕ) × (words_of (tokens_from p (bytes ++ rest)) ≡ ws ++ words_of (tokens_from q rest))

pub says_append : (a b : List ℕ) (ws vs : List Word) → Says a ws → Says b vs → Says (a ++ b) (ws ++ vs)
says_append a b ws vs h g = λ p rest.
    let x = h p (b ++ rest) in
    let y = g x.0 rest in (
      y.0,
      ap (λ bs. words_of (tokens_from p bs)) (append_assoc a b rest) ∙ x.1 ∙ ap (λ z. ws ++ z) y.1
          ∙ sym (append_assoc ws vs (words_of (tokens_from y.0 rest))),
    )

says_flat : {A : Type 0} (f : A → List ℕ) (g : A → List Word) (xs : List A) → AllByRecursion (λ x. Says (f x) (g x)) xs
    → Says (flat_map f xs) (flat_map g xs)
says_flat f g [] h = λ p rest. (p, refl)
says_flat f g (x ∷ xs) h =
    subst (λ bs. Says bs (flat_map g (x ∷ xs))) (sym (flat_map-cons f x xs))
    (subst (λ ws. Says (f x ++ flat_map f xs) ws) (sym (flat_map-cons g x xs))
    (says_append (f x) (flat_map f xs) (g x) (flat_map g xs) h.0 (says_flat f g xs h.1)))

pub says_line : (ws : List Word) → AllByRecursion IsWord ws → Says (line ws) ws
says_line [] h = λ p rest. (suc p, ap words_of (white_first p 10 rest refl))
says_line (w ∷ ws) h = λ p rest.
    let later = spaced_words (p + length w) ws rest h.1 in
    let split : line (w ∷ ws) ++ rest ≡ w ++ (spaced ws ++ 10 ∷ rest) =
    append_assoc w (spaced ws ++ 10 ∷ []) rest ∙ ap (λ x. w ++ x) (append_assoc (spaced ws) (10 ∷ []) rest) in
    (later.0, ap (λ bs. words_of (tokens_from p bs)) split ∙ next p w ws rest h.0 ∙ ap (λ x. w ∷ x) later.1)

says_indented : (ws : List Word) → AllByRecursion IsWord ws → Says (indented ws) ws
says_indented ws h = λ p rest.
    let later = says_line ws h (suc (suc p)) rest in
    (later.0, ap words_of (white_first p 32 (32 ∷ (line ws ++ rest)) refl ∙ white_first (suc p) 32 (line ws ++ rest) refl) ∙ later.1)

-- facts of each word of a list of lists
all_parts : {A : Type 0} (P : Word → Type 0) (g : A → List Word) (xs : List A) → AllByRecursion P (flat_map g xs)
    → AllByRecursion (λ x. AllByRecursion P (g x)) xs
all_parts P g [] h = tt
all_parts P g (x ∷ xs) h =
    let all = subst (AllByRecursion P) (flat_map-cons g x xs) h in
    (all_left P (g x) (flat_map g xs) all, all_parts P g xs (all_right P (g x) (flat_map g xs) all))

pub statement_says : (s : Statement) → AllByRecursion IsWord (spelling s) → Says (statement_text s) (spelling s)
statement_says (constants ws) h = says_line (spelling (constants ws)) h
statement_says (variables ws) h = says_line (spelling (variables ws)) h
statement_says (float label c v) h = says_line (spelling (float label c v)) h
statement_says (alone claim) h = says_line (claim_spelling claim) h
statement_says (block pieces claim) h =
    let parts = flat_map piece_spelling pieces in
    let inner = all_left IsWord parts (claim_spelling claim ++ codes "$}" ∷ []) h.1 in
    let end = all_right IsWord parts (claim_spelling claim ++ codes "$}" ∷ []) h.1 in
    let pieces_say = all_weaker (λ p. AllByRecursion IsWord (piece_spelling p))
    (λ p. Says (indented (piece_spelling p)) (piece_spelling p)) pieces (λ p g. says_indented (piece_spelling p) g)
    (all_parts IsWord piece_spelling pieces inner) in
    says_append (line (codes "${" ∷ [])) _ (codes "${" ∷ []) (parts ++ (claim_spelling claim ++ codes "$}" ∷ []))
    (says_line (codes "${" ∷ []) (h.0, tt))
    (says_append (flat_map (λ p. indented (piece_spelling p)) pieces) _ parts (claim_spelling claim ++ codes "$}" ∷ [])
    (says_flat (λ p. indented (piece_spelling p)) piece_spelling pieces pieces_say)
    (says_append (indented (claim_spelling claim)) (line (codes "$}" ∷ [])) (claim_spelling claim) (codes "$}" ∷ [])
    (says_indented (claim_spelling claim) (all_left IsWord (claim_spelling claim) (codes "$}" ∷ []) end))
    (says_line (codes "$}" ∷ []) (all_right IsWord (claim_spelling claim) (codes "$}" ∷ []) end))))

pub no_tokens : (p : ℕ) → words_of (tokens_from p []) ≡ []
unfolding tokens_from
no_tokens p = refl

pub said : (bytes : List ℕ) (ws : List Word) → Says bytes ws → words_of (tokens bytes) ≡ ws
said bytes ws h =
    let x = h 0 [] in
    ap (λ bs. words_of (tokens_from 0 bs)) (sym (append-nil bytes)) ∙ x.1 ∙ ap (λ z. ws ++ z) (no_tokens x.0) ∙ append-nil ws

-- the words of the lines of statements are theirs
pub statements_words : (ss : List Statement) → AllByRecursion IsWritten (flat_map spelling ss)
    → without_comments false (words_of (tokens (flat_map statement_text ss))) ≡ Some (flat_map spelling ss)
statements_words ss h =
    let all = all_parts IsWord spelling ss (plain (flat_map spelling ss) h) in
    ap (without_comments false) (said (flat_map statement_text ss) (flat_map spelling ss)
    (says_flat statement_text spelling ss (all_weaker (λ s. AllByRecursion IsWord (spelling s))
    (λ s. Says (statement_text s) (spelling s)) ss statement_says all)))
    ∙ no_comment (flat_map spelling ss) h

pub statement_words : (s : Statement) → AllByRecursion IsWritten (spelling s)
    → without_comments false (words_of (tokens (statement_text s))) ≡ Some (spelling s)
statement_words s h =
    ap (without_comments false) (said (statement_text s) (spelling s) (statement_says s (plain (spelling s) h))) ∙ no_comment (spelling s) h

-- ---- the bytes of lines

abbrev pub AreLawful : List ℕ → Type 0
AreLawful bytes = AllByRecursion (λ b. is_lawful b ≡ true) bytes

pub lawful_append : (a b : List ℕ) → AreLawful a → AreLawful b → AreLawful (a ++ b)
lawful_append a b h g = all_append (λ b. is_lawful b ≡ true) a b h g

lawful_word : (w : Word) → AllByRecursion IsPrintable w → AreLawful w
lawful_word [] h = tt
lawful_word (b ∷ bs) h = (printable-lawful b h.0, lawful_word bs h.1)

lawful_flat : {A : Type 0} (f : A → List ℕ) (xs : List A) → AllByRecursion (λ x. AreLawful (f x)) xs → AreLawful (flat_map f xs)
lawful_flat f [] h = tt
lawful_flat f (x ∷ xs) h = subst AreLawful (sym (flat_map-cons f x xs)) (lawful_append (f x) (flat_map f xs) h.0 (lawful_flat f xs h.1))

pub lawful_line : (ws : List Word) → AllByRecursion IsWord ws → AreLawful (line ws)
lawful_line [] h = (refl, tt)
lawful_line (w ∷ ws) h =
    let later = all_weaker IsWord (λ v. AreLawful (32 ∷ v)) ws (λ v g. (refl, lawful_word v g.1)) h.1 in
    lawful_append w (spaced ws ++ 10 ∷ []) (lawful_word w h.0.1)
    (lawful_append (spaced ws) (10 ∷ []) (lawful_flat (λ v. 32 ∷ v) ws later) (refl, tt))

lawful_indented : (ws : List Word) → AllByRecursion IsWord ws → AreLawful (indented ws)
lawful_indented ws h = (refl, (refl, lawful_line ws h))

pub lawful_statement : (s : Statement) → AllByRecursion IsWord (spelling s) → AreLawful (statement_text s)
lawful_statement (constants ws) h = lawful_line (spelling (constants ws)) h
lawful_statement (variables ws) h = lawful_line (spelling (variables ws)) h
lawful_statement (float label c v) h = lawful_line (spelling (float label c v)) h
lawful_statement (alone claim) h = lawful_line (claim_spelling claim) h
lawful_statement (block pieces claim) h =
    let parts = flat_map piece_spelling pieces in
    let inner = all_parts IsWord piece_spelling pieces (all_left IsWord parts (claim_spelling claim ++ codes "$}" ∷ []) h.1) in
    let end = all_right IsWord parts (claim_spelling claim ++ codes "$}" ∷ []) h.1 in
    lawful_append (line (codes "${" ∷ [])) _ (lawful_line (codes "${" ∷ []) (h.0, tt))
    (lawful_append (flat_map (λ p. indented (piece_spelling p)) pieces) _
    (lawful_flat (λ p. indented (piece_spelling p)) pieces
    (all_weaker (λ p. AllByRecursion IsWord (piece_spelling p)) (λ p. AreLawful (indented (piece_spelling p))) pieces
    (λ p g. lawful_indented (piece_spelling p) g) inner))
    (lawful_append (indented (claim_spelling claim)) (line (codes "$}" ∷ []))
    (lawful_indented (claim_spelling claim) (all_left IsWord (claim_spelling claim) (codes "$}" ∷ []) end))
    (lawful_line (codes "$}" ∷ []) (all_right IsWord (claim_spelling claim) (codes "$}" ∷ []) end))))

pub clean_lawful : (bytes : List ℕ) → AreLawful bytes → IsClean bytes
clean_lawful bytes h = λ k lt. to_index (λ b. is_lawful b ≡ true) bytes h k lt

pub clean_statements : (ss : List Statement) → AllByRecursion IsWritten (flat_map spelling ss) → IsClean (flat_map statement_text ss)
clean_statements ss h =
    let all = all_parts IsWord spelling ss (plain (flat_map spelling ss) h) in
    clean_lawful (flat_map statement_text ss)
    (lawful_flat statement_text ss (all_weaker (λ s. AllByRecursion IsWord (spelling s))
    (λ s. AreLawful (statement_text s)) ss lawful_statement all))

pub clean_statement : (s : Statement) → AllByRecursion IsWritten (spelling s) → IsClean (statement_text s)
clean_statement s h = clean_lawful (statement_text s) (lawful_statement s (plain (spelling s) h))
