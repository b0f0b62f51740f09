-- Bytes that tell words wherever they stand: lines, statements, and lines that are set in.
use Rattle.std.proofs.Common.{◌≡◌, ℕ, suc, Bool, true, false, eqb, List, [], ◌∷◌, ◌++◌, refl, sym, ap, ◌∙◌, inl, inr, arith}
use Rattle.std.specs.List.{AllByRecursion}
use Rattle.std.proofs.lemmas.Bool.{cases_Bool, cond-false}
use Rattle.std.proofs.lemmas.Bool.Decides.{nat_tests}
use Rattle.mmtext.specs.Words.{Word}
use Rattle.mmtext.specs.Text.{Token, is_white, ends_token, with_byte, tokens_from}
use Rattle.mmtext.specs.Comments.{words_of}
use Rattle.mmsyntax.specs.Grammar.{Statement, spelling}
use Rattle.mmsyntax.specs.Layout.{line, statement_text}
use Rattle.mmsyntax.proofs.Distinct.{all_append}
use Rattle.mmsyntax.proofs.Lines.{IsWritten, plain, white_first, no_tokens, Says, says_append, says_line, statement_says}
use Rattle.mmsyntax.proofs.Lines.{AreLawful, lawful_append, lawful_line, lawful_statement}
use Rattle.historytext.specs.Layout.{set_in}

-- lawful bytes whose words are these, of which none opens a comment
pub record Told (bytes : List ℕ) (ws : List Word) : Type 0 where
  pub says : Says bytes ws
  pub lawful : AreLawful bytes
  pub written : AllByRecursion IsWritten ws

pub told_nothing : Told [] []
told_nothing = record { says = λ p rest. (p, refl); lawful = tt; written = tt }

pub told_append : (a b : List ℕ) (ws vs : List Word) → Told a ws → Told b vs → Told (a ++ b) (ws ++ vs)
told_append a b ws vs h g = record {
  says = says_append a b ws vs h.says g.says;
  lawful = lawful_append a b h.lawful g.lawful;
  written = all_append IsWritten ws vs h.written g.written;
}

pub told_line : (ws : List Word) → AllByRecursion IsWritten ws → Told (line ws) ws
told_line ws h = record { says = says_line ws (plain ws h); lawful = lawful_line ws (plain ws h); written = h }

pub told_statement : (s : Statement) → AllByRecursion IsWritten (spelling s) → Told (statement_text s) (spelling s)
told_statement s h =
    let words = plain (spelling s) h in
    record { says = statement_says s words; lawful = lawful_statement s words; written = h }

-- ---- spaces before a line

behind_space : (p : ℕ) (bytes : List ℕ) → words_of (tokens_from p (32 ∷ bytes)) ≡ words_of (tokens_from (suc p) bytes)
behind_space p bytes = ap words_of (white_first p 32 bytes refl)

pub told_space : (bytes : List ℕ) (ws : List Word) → Told bytes ws → Told (32 ∷ bytes) ws
told_space bytes ws h = record {
  says = λ p rest. let x = h.says (suc p) rest in (x.0, behind_space p (bytes ++ rest) ∙ x.1);
  lawful = (refl, h.lawful);
  written = h.written;
}

-- ---- the words of bytes are the same at each place

-- the words behind one byte more are the same where those behind it are
with_byte_words : (p q b : ℕ) (ends : Bool) (ts us : List Token) → words_of ts ≡ words_of us
    → words_of (with_byte p b ends ts) ≡ words_of (with_byte q b ends us)
with_byte_words p q b true ts us same = ap (λ ws. (b ∷ []) ∷ ws) same
with_byte_words p q b false [] [] same = refl
with_byte_words p q b false [] (u ∷ us) same = cc
with_byte_words p q b false (t ∷ ts) [] same = cc
with_byte_words p q b false (t ∷ ts) (u ∷ us) same = cc

white_words : (p b : ℕ) (bs : List ℕ) → is_white b ≡ true → words_of (tokens_from p (b ∷ bs)) ≡ words_of (tokens_from (suc p) bs)
white_words p b bs white = ap words_of (white_first p b bs white)

printable_words : (p b : ℕ) (bs : List ℕ) → is_white b ≡ false
    → words_of (tokens_from p (b ∷ bs)) ≡ words_of (with_byte p b (ends_token bs) (tokens_from (suc p) bs))
unfolding tokens_from
printable_words p b bs printable =
    let more = tokens_from (suc p) bs in
    ap words_of (cond-false (is_white b) more (with_byte p b (ends_token bs) more) printable)

-- the same byte before the same words, where a word ends or where none does
same_byte : (p q b : ℕ) (bs cs : List ℕ) → (is_white b ≡ false → ends_token bs ≡ ends_token cs)
    → words_of (tokens_from (suc p) bs) ≡ words_of (tokens_from (suc q) cs)
    → words_of (tokens_from p (b ∷ bs)) ≡ words_of (tokens_from q (b ∷ cs))
same_byte p q b bs cs ends same = elim (cases_Bool (is_white b)) [
  | inl y ↦ white_words p b bs y ∙ same ∙ sym (white_words q b cs y)
  | inr n ↦
      printable_words p b bs n
      ∙ ap (λ e. words_of (with_byte p b e (tokens_from (suc p) bs))) (ends n)
      ∙ with_byte_words p q b (ends_token cs) (tokens_from (suc p) bs) (tokens_from (suc q) cs) same
      ∙ sym (printable_words q b cs n)
]

same_words : (p q : ℕ) (bytes : List ℕ) → words_of (tokens_from p bytes) ≡ words_of (tokens_from q bytes)
same_words p q [] = no_tokens p ∙ sym (no_tokens q)
same_words p q (b ∷ bs) = same_byte p q b bs bs (λ _. refl) (same_words (suc p) (suc q) bs)

-- ---- lines that are set in

not_feed : (b : ℕ) → is_white b ≡ false → eqb b 10 ≡ false
not_feed b h = grind (arith, nat_tests)

same_end : (begins : Bool) (bytes rest : List ℕ) → begins ≡ false → ends_token (set_in begins bytes ++ rest) ≡ ends_token (bytes ++ rest)
same_end true bytes rest h = absurd cc
same_end false [] rest h = refl
same_end false (b ∷ bs) rest h = refl

set_in_words : (begins : Bool) (bytes rest : List ℕ) (p q : ℕ)
    → words_of (tokens_from p (set_in begins bytes ++ rest)) ≡ words_of (tokens_from q (bytes ++ rest))
set_in_words true [] rest p q = same_words p q rest
set_in_words false [] rest p q = same_words p q rest
set_in_words false (b ∷ bs) rest p q =
    same_byte p q b (set_in (eqb b 10) bs ++ rest) (bs ++ rest) (λ h. same_end (eqb b 10) bs rest (not_feed b h))
    (set_in_words (eqb b 10) bs rest (suc p) (suc q))
set_in_words true (b ∷ bs) rest p q =
    let behind = b ∷ (set_in (eqb b 10) bs ++ rest) in
    let n = suc (suc (suc (suc p))) in
    behind_space p (32 ∷ 32 ∷ 32 ∷ behind) ∙ behind_space (suc p) (32 ∷ 32 ∷ behind)
    ∙ behind_space (suc (suc p)) (32 ∷ behind) ∙ behind_space (suc (suc (suc p))) behind
    ∙ same_byte n q b (set_in (eqb b 10) bs ++ rest) (bs ++ rest) (λ h. same_end (eqb b 10) bs rest (not_feed b h))
    (set_in_words (eqb b 10) bs rest (suc n) (suc q))

lawful_set_in : (begins : Bool) (bytes : List ℕ) → AreLawful bytes → AreLawful (set_in begins bytes)
lawful_set_in true [] h = tt
lawful_set_in false [] h = tt
lawful_set_in false (b ∷ bs) h = (h.0, lawful_set_in (eqb b 10) bs h.1)
lawful_set_in true (b ∷ bs) h = (refl, (refl, (refl, (refl, (h.0, lawful_set_in (eqb b 10) bs h.1)))))

pub told_set_in : (bytes : List ℕ) (ws : List Word) → Told bytes ws → Told (set_in true bytes) ws
told_set_in bytes ws h = record {
  says = λ p rest. let x = h.says p rest in (x.0, set_in_words true bytes rest p p ∙ x.1);
  lawful = lawful_set_in true bytes h.lawful;
  written = h.written;
}
