-- Where a byte of a text stands as an editor shows it: a line ends with a line feed; lines and columns count from 1, bytes from 0.
use Rattle.std.specs.Prelude.{ℕ, suc, nat_eq, nat_lt, nat_le, Bool, ◌||◌, ◌==◌, List, take, drop, filter, length}
use Rattle.std.specs.List.{after_last, before_first}
use Rattle.mmtext.specs.Text.{is_white}

-- one more than the line ends in front of it
abbrev pub line_at : List ℕ → ℕ → ℕ
line_at text place = suc (length (filter (nat_eq 10) (take place text)))

abbrev pub is_line_feed : ℕ → Bool
is_line_feed b = b == 10

-- what stands on its line in front of it
abbrev pub line_front : List ℕ → ℕ → List ℕ
line_front text place = after_last is_line_feed (take place text)

-- a byte that doesn't go on with a character of UTF-8: in a text of ASCII each
abbrev pub begins_character : ℕ → Bool
begins_character b = nat_lt b 128 || nat_le 192 b

-- columns count characters
abbrev pub column_at : List ℕ → ℕ → ℕ
column_at text place = suc (length (filter begins_character (line_front text place)))

-- a carriage return in front of a line feed isn't shown
abbrev pub ends_line : ℕ → Bool
ends_line b = (b == 10) || (b == 13)

-- what stands on its line from it on
abbrev pub line_rest : List ℕ → ℕ → List ℕ
line_rest text place = before_first ends_line (drop place text)

-- the word that begins there
abbrev pub word_from : List ℕ → ℕ → List ℕ
word_from text place = before_first is_white (drop place text)
