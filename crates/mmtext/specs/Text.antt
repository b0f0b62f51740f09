-- Bytes, and the tokens of a text with their places (Metamath book, section 4.1.1).
use Rattle.std.specs.Prelude.{◌<◌, ℕ, suc, Bool, true, false, ◌||◌, ◌&&◌, ◌==◌, nat_lt, List, [], ◌∷◌, length, Option, IsTrue, position}
use Rattle.std.specs.Prelude.{slice_index, if◌then◌else◌, codes}
use mathlib.Core.Bool.{not}
use Rattle.std.specs.Str.{bytes_eq}
use Rattle.mmtext.specs.declared.mark.Mark.{Mark}
use Rattle.mmtext.specs.declared.mark.Mark.TheVariants as mark
use Rattle.mmtext.specs.Words.{has_dollar}

-- white space: space, tab, line feed, form feed, carriage return (section 4.1.1)
abbrev pub is_white : ℕ → Bool
is_white b = (b == 32) || (b == 9) || (b == 10) || (b == 12) || (b == 13)

-- the 94 printable characters, of which tokens consist (section 4.1.1)
abbrev pub is_printable : ℕ → Bool
is_printable b = nat_lt 32 b && nat_lt b 127

-- a byte that a text may have: no other character stands in one (section 4.1.1)
abbrev pub is_lawful : ℕ → Bool
is_lawful b = is_white b || is_printable b

-- every byte before a place may stand in a text
abbrev pub IsCleanBefore : ℕ → List ℕ → Type 0
IsCleanBefore place bytes = (k : ℕ) → k < place → IsTrue (is_lawful (slice_index bytes k))

-- every byte may stand in a text (section 4.1.1)
abbrev pub IsClean : List ℕ → Type 0
IsClean bytes = IsCleanBefore (length bytes) bytes

-- the place of the first byte that may not stand in a text
abbrev pub bad_byte : List ℕ → Option ℕ
bad_byte bytes = position (λ b. not (is_lawful b)) bytes

-- a token, and the place in the text at which it begins
pub record Token : Type 0 where
  pub place : ℕ
  pub text : List ℕ

-- no printable byte follows: white space separates tokens (section 4.1.1)
abbrev pub ends_token : List ℕ → Bool
ends_token [] = true
ends_token (b ∷ bs) = is_white b

-- a printable byte is a token of its own before white space, and else the first byte of the token that follows
abbrev pub with_byte : ℕ → ℕ → Bool → List Token → List Token
with_byte place b false (t ∷ ts) = record { place = place; text = b ∷ t.text } ∷ ts
with_byte place b false [] = record { place = place; text = b ∷ [] } ∷ []
with_byte place b true ts = record { place = place; text = b ∷ [] } ∷ ts

-- the tokens of bytes of which the first stands at a place of the text: the maximal runs of printable bytes (section 4.1.1)
unfoldable pub tokens_from : ℕ → List ℕ → List Token
tokens_from place [] = []
tokens_from place (b ∷ bs) =
    if is_white b then tokens_from (suc place) bs else with_byte place b (ends_token bs) (tokens_from (suc place) bs)

-- the tokens of a text
abbrev pub tokens : List ℕ → List Token
tokens bytes = tokens_from 0 bytes

-- the keywords (section 4.1.1, and 4.1.2 for $( $) $[ $]); Stray has a $ and is none of them
abbrev pub dollar_mark : List ℕ → Mark
dollar_mark w =
    if bytes_eq w (codes "$c") then mark.Constants else (
    if bytes_eq w (codes "$v") then mark.Variables else (
    if bytes_eq w (codes "$f") then mark.Floating else (
    if bytes_eq w (codes "$a") then mark.Axiom else (
    if bytes_eq w (codes "$.") then mark.End else (
    if bytes_eq w (codes "$p") then mark.Provable else (
    if bytes_eq w (codes "$e") then mark.Essential else (
    if bytes_eq w (codes "$d") then mark.Disjoint else (
    if bytes_eq w (codes "${") then mark.Opening else (
    if bytes_eq w (codes "$}") then mark.Closing else (
    if bytes_eq w (codes "$=") then mark.Proof else (
    if bytes_eq w (codes "$(") then mark.Comment else (
    if bytes_eq w (codes "$)") then mark.Uncomment else (
    if bytes_eq w (codes "$[") then mark.Include else (
    if bytes_eq w (codes "$]") then mark.Included else mark.Stray))))))))))))))

-- what a token is by itself: a keyword, a stray $-token, or a word
unfoldable pub mark_of : List ℕ → Mark
mark_of w = if has_dollar w then dollar_mark w else mark.Plain

-- ( or ) comes first
abbrev pub begins_comment_mark : List ℕ → Bool
begins_comment_mark [] = false
begins_comment_mark (c ∷ cs) = (c == 40) || (c == 41)

-- $( or $) stands somewhere in a word: within a comment neither may (section 4.1.2)
abbrev pub has_comment_mark : List ℕ → Bool
has_comment_mark [] = false
has_comment_mark (b ∷ bs) = ((b == 36) && begins_comment_mark bs) || has_comment_mark bs
