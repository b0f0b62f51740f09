-- The lines that tell what a step at fault asks for, and what it finds; each begins behind a line feed.
use Rattle.std.specs.Prelude.{ℕ, ◌-◌, nat_le, ◌==◌, List, ◌++◌, map, take, length, codes, if◌then◌else◌}
use Rattle.std.specs.List.{join_with_byte}
use Rattle.std.specs.Fmt.{decimal}
use Rattle.mmtext.specs.Words.{Word}
use Rattle.source.specs.Views.{seen_words}
use Rattle.locating.specs.Told.{shown}
use Rattle.explaining.specs.declared.finding.Finding.{Finding}
use Rattle.explaining.specs.declared.finding.Finding.TheVariants.{WrongType, HypothesisDiffers, NotDisjoint, StatementDiffers}

-- symbols with one space between them
abbrev pub spaced : List Word → List ℕ
spaced ws = join_with_byte 32 (map shown ws)

-- the first 400 symbols of an expression, and how many more there are
abbrev pub shown_expression : List Word → List ℕ
shown_expression ws =
    if length ws == 0 then codes "nothing" else (
    if nat_le (length ws) 400 then spaced ws
    else spaced (take 400 ws) ++ (codes " .. and " ++ (decimal (length ws - 400) ++ codes " more")))

-- the lines of a pair that isn't kept
abbrev pub keeps_apart : Word → Word → Word → List ℕ
keeps_apart cited first second =
    codes "\n  " ++ (shown cited ++ (codes " keeps apart: " ++ (shown first ++ (codes " " ++ shown second))))

abbrev pub put_for : Word → List Word → List ℕ
put_for variable e = codes "\n  put for " ++ (shown variable ++ (codes ": " ++ shown_expression e))

abbrev pub not_apart : Word → Word → List ℕ
not_apart one other = codes "\n  not apart here: " ++ (shown one ++ (codes " " ++ shown other))

-- what is cited, which of its hypotheses or pairs isn't met, and what was found; at the end what is stated and what is proved
abbrev pub finding_lines : Finding → List ℕ
finding_lines (WrongType cited float wanted found) =
    codes "\n  " ++ (shown float.now ++ (codes " of " ++ (shown cited.now ++ (codes " takes: " ++ (shown wanted.now
    ++ (codes "\n  found: " ++ shown_expression (seen_words found.items)))))))
finding_lines (HypothesisDiffers cited premise wanted found) =
    codes "\n  " ++ (shown premise.now ++ (codes " of " ++ (shown cited.now ++ (codes " says: "
    ++ (shown_expression (seen_words wanted.items) ++ (codes "\n  found: " ++ shown_expression (seen_words found.items)))))))
finding_lines (NotDisjoint cited first second for_first for_second one other) =
    keeps_apart cited.now first.now second.now
    ++ (put_for first.now (seen_words for_first.items)
    ++ (put_for second.now (seen_words for_second.items) ++ not_apart one.now other.now))
finding_lines (StatementDiffers wanted found) =
    codes "\n  stated: " ++ (shown_expression (seen_words wanted.items) ++ (codes "\n  proved: "
    ++ shown_expression (seen_words found.items)))
