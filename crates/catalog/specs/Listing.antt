-- Of the code's inside, apart from the rules: how often each assertion is cited, counted by places.
use Rattle.std.specs.Prelude.{◌≡◌, ◌<◌, ◌+◌, ℕ, Bool, true, false, cond, List, length, slice_index}
use Rattle.std.specs.List.{list_any}
use Rattle.mmsyntax.specs.declared.statement.Step.{Step}
use Rattle.library.specs.declared.library.Ranked.{Ranked}
use Rattle.library.specs.Library.{label_of}
use Rattle.library.specs.Edits.{is_citation, citers}
use Rattle.catalog.specs.Entries.{Entries, living, StandsIn}

-- whether some step cites the label
abbrev pub some_cites : List Step → List ℕ → Bool
some_cites steps label = list_any (is_citation label) steps

-- each assertion that some of the steps cites is counted once more than at first, and stamped with the number; the others have older
-- stamps
pub record AreNoted (entries : Entries) (number : ℕ) (steps : List Step) (first counts stamps : List ℕ) : Type 0 where
  pub counted : (p : ℕ) (e : Ranked) → StandsIn entries p e
      → slice_index counts p ≡ slice_index first p + cond (some_cites steps (label_of e)) 1 0
  pub stamped : (p : ℕ) (e : Ranked) → StandsIn entries p e → some_cites steps (label_of e) ≡ true → slice_index stamps p ≡ number
  pub older : (p : ℕ) (e : Ranked) → StandsIn entries p e → some_cites steps (label_of e) ≡ false → slice_index stamps p < number

-- by place, the number of assertions whose proof cites the one there
pub record AreCounted (entries : Entries) (counts : List ℕ) : Type 0 where
  pub long : length counts ≡ length entries
  pub counted : (p : ℕ) (e : Ranked) → StandsIn entries p e → slice_index counts p ≡ citers (living entries) (label_of e)
