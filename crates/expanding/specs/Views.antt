-- Of the code's inside, apart from the rules: how a text of words remembers where they stand, and what was put at each gap.
use Rattle.std.specs.Prelude.{◌≡◌, ◌<◌, ◌≤◌, ℕ, suc, Bool, List, [], ◌∷◌, ◌++◌, map, take, drop, length, slice_get, Option, Some, None, if◌then◌else◌}
use Rattle.std.specs.Prelude.{Vec}
use Rattle.std.specs.declared.alloc.Global.{Global}
use Rattle.mmtext.specs.Text.{Token}
use Rattle.mmtext.specs.declared.token.Token.{Token as CodeToken}
use Rattle.spreading.specs.Words.{text_of}
use Rattle.spreading.specs.Forms.{Part}
use Rattle.expanding.specs.Ranking.{taken_among, many_at, rank_at, most_beside}
use Rattle.expanding.specs.declared.laid.Stretch.{Stretch}
use Rattle.expanding.specs.declared.laid.Laid.{Laid}
use Rattle.expanding.specs.declared.ranking.Ranker.{Ranker}
use Rattle.mmtext.specs.Views.{seen}
use Rattle.expanding.specs.Cuts.{Cut}
use Rattle.expanding.specs.Discouraged.{Discouraged, modifies, uses}
use Rattle.expanding.specs.declared.cuts.Cut.{Cut as CodeCut}
use Rattle.expanding.specs.declared.discouraged.Discouraged.{Discouraged as CodeDiscouraged}
use Rattle.expanding.specs.declared.discouraged.Discouraged.TheVariants as code
use Rattle.mmtext.specs.Words.{Word}
use Rattle.source.specs.Scopes.{Assertion, Scope}
use Rattle.expanding.specs.declared.unranked.Unranked.{Unranked}
use Rattle.expanding.specs.declared.unranked.Unranked.TheVariants as unranked

-- a word's length and place
abbrev pub stretch_of : Token → ℕ × ℕ
stretch_of t = (length t.text, t.place)

abbrev pub seen_stretches : List Stretch → List (ℕ × ℕ)
seen_stretches ws = map (λ w. (w.length, w.place)) ws

-- the text is that of these words, and remembers them
pub record IsLaid (ts : List Token) (l : Laid) : Type 0 where
  pub text : l.text.items ≡ text_of ts
  pub words : seen_stretches l.words.items ≡ map stretch_of ts

-- for each front of the flags, how many of it are taken
pub record AreFronts (flags : List Bool) (fronts : List ℕ) : Type 0 where
  pub many : length fronts ≡ suc (length flags)
  pub each : (n : ℕ) → n ≤ length flags → slice_get fronts n ≡ Some (taken_among flags n)

-- for each gap, how many were put there
abbrev pub AreCounts : List ℕ → List ℕ → Type 0
AreCounts earlier counts = (gap : ℕ) → gap < length counts → slice_get counts gap ≡ Some (many_at earlier gap)

-- a ranker of the assertions that are taken, behind these gaps
pub record IsRanker (flags : List Bool) (earlier : List ℕ) (r : Ranker) : Type 0 where
  pub fronts : AreFronts flags r.fronts.items
  pub many : length r.counts.items ≡ suc (taken_among flags (length flags))
  pub counts : AreCounts earlier r.counts.items

-- a ranker for a source, of which so much is taken
pub record IsRankerOf (s : Scope) (flags : List Bool) (earlier : List ℕ) (r : Ranker) : Type 0 where
  pub ranker : IsRanker flags earlier r
  pub each : length flags ≡ length s.assertions

-- what is put at a gap gets a rank there, where fewer were put than may be
abbrev pub IsGiven : List Bool → List ℕ → ℕ → Option ℕ → Ranker → Type 0
IsGiven flags earlier gap (Some rank) r =
    (rank ≡ rank_at earlier gap) × (many_at earlier gap < most_beside) × IsRanker flags (earlier ++ gap ∷ []) r
IsGiven flags earlier gap None r = most_beside ≤ many_at earlier gap

-- one more gap, if there is one
abbrev pub with_gap : List ℕ → Option ℕ → List ℕ
with_gap earlier None = earlier
with_gap earlier (Some gap) = earlier ++ gap ∷ []

-- the place of a beginning, if there is one
abbrev pub with_beginning : List ℕ → Option ℕ → List ℕ
with_beginning places None = places
with_beginning places (Some place) = places ++ place ∷ []

-- what it tells where no more may be put
abbrev pub IsTooMany : Option Token → Unranked → Type 0
IsTooMany o (unranked.Crowded t) = o ≡ Some (seen t)
IsTooMany o unranked.NoMemory = Unit {0}

-- the words of scripts
abbrev pub seen_scripts : List (Vec CodeToken Global) → List (List Token)
seen_scripts scripts = map (λ ts. map seen ts.items) scripts

-- a command around its proof
abbrev pub seen_cut : CodeCut → Cut
seen_cut c = record { front = map seen c.front.now; proof = map seen c.proof.now; back = map seen c.back.now }

-- what a command does although it is discouraged
abbrev pub seen_discouraged : CodeDiscouraged → Discouraged
seen_discouraged (code.Modifies t) = modifies (seen t)
seen_discouraged (code.Uses t) = uses (seen t)

abbrev pub seen_found : ℕ × CodeDiscouraged → ℕ × Discouraged
seen_found found = (found.0, seen_discouraged found.1)
