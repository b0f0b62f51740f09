-- The scripts of a keeper on the way to those that are run: their words, these without the forms that a source does away with, these with
-- the proofs of the library that is taken for them, and these with its ranks.
use Rattle.std.specs.Prelude.{◌≡◌, ℕ, Bool, List, [], ◌∷◌, ◌++◌, map}
use Rattle.std.specs.List.{AllZip}
use Rattle.mmtext.specs.Text.{Token}
use Rattle.mmtext.specs.Laws.{Says}
use Rattle.source.specs.Scopes.{Assertion, Scope}
use Rattle.checking.specs.Checks.{Bytes}
use Rattle.spreading.specs.Words.{word_language, text_of}
use Rattle.spreading.specs.Spreading.{IsSpread}
use Rattle.expanding.specs.Ranking.{IsRanked}
use Rattle.mmsyntax.specs.Tables.{Contents}
use Rattle.pasting.specs.Places.{places_in}
use Rattle.pasting.specs.Pasted.{IsPasted, AreAdditions}

-- these are the words of each text outside of its comments
abbrev pub AreWordsOf : List Bytes → List (List Token) → Type 0
AreWordsOf texts scripts = AllZip (Says word_language) texts scripts

-- and these those of each by the source
abbrev pub AreSpread : Scope → List (List Token) → List (List Token) → Type 0
AreSpread s scripts outs = AllZip (IsSpread s) scripts outs

-- and these with the proofs of the library that is taken, as flags say which assertions of the source are; proofs may cite these too
abbrev pub ArePastedWith : Scope → List Bool → Contents → List Assertion → List (List Token) → List (List Token) → Type 0
ArePastedWith s flags db added scripts outs = AllZip (IsPasted (places_in s flags db) db.prelude s added) scripts outs

-- which are those that the scripts add
abbrev pub ArePasted : Scope → List Bool → Contents → List (List Token) → List (List Token) → Type 0
ArePasted s flags db scripts outs =
    (added : List Assertion) × AreAdditions (places_in s flags db) db.prelude scripts added × ArePastedWith s flags db added scripts outs

-- the words of a script with ranks, and the places where its transactions begin
pub record RankedScript : Type 0 where
  pub words : List Token
  pub beginnings : List ℕ

-- so is each, behind the scripts before it, which put something at these gaps; flags say which assertions of the source are taken
abbrev pub AreRanked : Scope → List Bool → List ℕ → List (List Token) → List RankedScript → List ℕ → Type 0
AreRanked s flags earlier [] [] after = after ≡ earlier
AreRanked s flags earlier [] (out ∷ outs) after = ⊥
AreRanked s flags earlier (ts ∷ scripts) [] after = ⊥
AreRanked s flags earlier (ts ∷ scripts) (out ∷ outs) after =
    (gaps : List ℕ) × IsRanked s flags earlier ts out.words gaps out.beginnings × AreRanked s flags (earlier ++ gaps) scripts outs after

-- their texts
abbrev pub texts_of : List RankedScript → List Bytes
texts_of outs = map (λ out. text_of out.words) outs

-- these are the words of scripts by the source
pub record IsSpreadOf (s : Scope) (texts : List Bytes) (scripts : List (List Token)) : Type 0 where
  pub words : List (List Token)
  pub are_words : AreWordsOf texts words
  pub are_spread : AreSpread s words scripts
