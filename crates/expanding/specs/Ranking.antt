-- Where something is put in a source, as a rank of the library that is taken of it: behind all that are taken up to there, of which the
-- k-th has the rank 100 * k, and behind what scripts put there before, in their order.
use Rattle.std.specs.Prelude.{◌≡◌, ℕ, suc, Bool, ◌+◌, ◌*◌, nat_eq, nat_lt, List, [], ◌∷◌, ◌++◌, take, drop, filter, filter_map, length}
use Rattle.std.specs.Prelude.{Option, Some, None, if◌then◌else◌, codes}
use Rattle.std.specs.Option.{option_map}
use Rattle.std.specs.Fmt.{decimal}
use Rattle.mmtext.specs.Text.{Token}
use Rattle.source.specs.Scopes.{Scope}
use Rattle.spreading.specs.Words.{says, word_at}
use Rattle.spreading.specs.Forms.{is_beside, Part, AreParts, words_before_place, placed_at, beginning_of}
use Rattle.spreading.specs.Spreading.{assertion_at}

-- the most that scripts may put at one place
abbrev pub most_beside : ℕ
most_beside = 99

-- so many of the first n are taken, where flags say of each whether it is
abbrev pub taken_among : List Bool → ℕ → ℕ
taken_among flags n = length (filter (λ f. f) (take n flags))

-- so many assertions of the library stand in front of what is put beside the assertion with a label
abbrev pub gap_at : Scope → List Bool → Token → Token → Option ℕ
gap_at s flags how label = option_map (λ n. taken_among flags (if says how (codes "behind") then suc n else n)) (assertion_at s label.text)

abbrev pub gap_of_place : Scope → List Bool → List Token → Option ℕ
gap_of_place s flags (how ∷ label ∷ rest) = if is_beside how then gap_at s flags how label else None
gap_of_place s flags _ = None

-- of a command
abbrev pub gap_behind : Scope → List Bool → Part → Option ℕ → Option ℕ
gap_behind s flags p None = None
gap_behind s flags p (Some n) = gap_of_place s flags (drop n p)

abbrev pub gap_of : Scope → List Bool → Part → Option ℕ
gap_of s flags p = gap_behind s flags p (words_before_place p)

abbrev pub gaps_of : Scope → List Bool → List Part → List ℕ
gaps_of s flags ps = filter_map (gap_of s flags) ps

-- so many were put there before
abbrev pub many_at : List ℕ → ℕ → ℕ
many_at earlier gap = length (filter (nat_eq gap) earlier)

abbrev pub rank_at : List ℕ → ℕ → ℕ
rank_at earlier gap = 100 * gap + suc (many_at earlier gap)

abbrev pub ranked_words : List ℕ → Option ℕ → List Token → List Token
ranked_words earlier (Some gap) (how ∷ label ∷ rest) = word_at how.place (decimal (rank_at earlier gap)) ∷ rest
ranked_words earlier _ ts = ts

-- the words that say where something is put, and those behind them: a rank, behind what was put before
abbrev pub ranked_place : Scope → List Bool → List ℕ → List Token → List Token
ranked_place s flags earlier ts = ranked_words earlier (gap_of_place s flags ts) ts

abbrev pub ranked_part : Scope → List Bool → List ℕ → Part → List Token
ranked_part s flags earlier p = placed_at (words_before_place p) (ranked_place s flags earlier) p

-- parts, behind earlier ones that put something at these gaps
abbrev pub ranked : Scope → List Bool → List ℕ → List Part → List Token
ranked s flags earlier [] = []
ranked s flags earlier (p ∷ ps) = ranked_part s flags earlier p ++ ranked s flags (earlier ++ gaps_of s flags (p ∷ [])) ps

-- a part puts something where as many were put before as may be; the word that says so
abbrev pub crowded_at : List ℕ → Option ℕ → List Token → Option Token
crowded_at earlier (Some gap) (how ∷ rest) = if nat_lt (many_at earlier gap) most_beside then None else Some how
crowded_at earlier _ ts = None

abbrev pub crowded_behind : Scope → List Bool → List ℕ → Part → Option ℕ → Option Token
crowded_behind s flags earlier p None = None
crowded_behind s flags earlier p (Some n) = crowded_at earlier (gap_of_place s flags (drop n p)) (drop n p)

abbrev pub or_later : Option Token → Option Token → Option Token
or_later None later = later
or_later (Some t) later = Some t

-- the first such word
abbrev pub first_crowded : Scope → List Bool → List ℕ → List Part → Option Token
first_crowded s flags earlier [] = None
first_crowded s flags earlier (p ∷ ps) =
    or_later (crowded_behind s flags earlier p (words_before_place p))
    (first_crowded s flags (earlier ++ gaps_of s flags (p ∷ [])) ps)

-- ---- a script

-- the words of a script with ranks, the gaps at which it puts something, and the places at which its transactions begin, each in order
pub record IsRanked (s : Scope) (flags : List Bool) (earlier : List ℕ) (ts out : List Token) (gaps beginnings : List ℕ) : Type 0 where
  pub parts : List Part
  pub are_parts : AreParts ts parts
  pub none_crowded : first_crowded s flags earlier parts ≡ None
  pub ranked : out ≡ ranked s flags earlier parts
  pub gaps_are : gaps ≡ gaps_of s flags parts
  pub beginnings_are : beginnings ≡ filter_map beginning_of parts

-- a word of it puts something where no more may be put
pub record IsCrowded (s : Scope) (flags : List Bool) (earlier : List ℕ) (ts : List Token) (t : Token) : Type 0 where
  pub parts : List Part
  pub are_parts : AreParts ts parts
  pub first : first_crowded s flags earlier parts ≡ Some t
