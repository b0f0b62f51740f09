-- What scripts ask of a source: a library, and themselves as they are read and run over it.
use Rattle.std.specs.Prelude.{◌≡◌, ℕ, List, []}
use Rattle.mmtext.specs.Text.{Token}
use Rattle.mmsyntax.specs.Tables.{Contents}
use Rattle.source.specs.Scopes.{Scope}
use Rattle.source.specs.Sources.{DeclaresText}
use Rattle.source.specs.Views.{seen_words}
use Rattle.taking.specs.Reasons.{Choice}
use Rattle.choosing.specs.declared.wish.Wish.{Wish}
use Rattle.choosing.specs.declared.wish.Wish.TheVariants.{These}
use Rattle.choosing.specs.Spoken.{wanted_labels, axiom_labels}
use Rattle.intake.specs.declared.taken.Taken.{Taken}
use Rattle.intake.specs.Intakes.{IsLibraryOf}
use Rattle.checking.specs.Checks.{Bytes, Orders, AreScripts}
use Rattle.expanding.specs.Asking.{spoken, asked}
use Rattle.editscripts.specs.Expanded.{ArePasted, RankedScript, AreRanked, texts_of, IsSpreadOf}
use Rattle.standins.specs.StandIns.{StandIn, stand_ins, with_stand_ins, raised, raise_by}

-- the wish of scripts: just the assertions of the source that they speak of, and those that the proofs need which they ask for; as
-- axioms all of them but these
abbrev pub IsAskedBy : Scope → List (List Token) → Wish → Type 0
IsAskedBy s scripts (These labels axioms) =
    (seen_words labels.now ≡ wanted_labels s (spoken s scripts) (asked scripts))
    × (seen_words axioms.now ≡ axiom_labels s (spoken s scripts) (asked scripts))
IsAskedBy s scripts _ = ⊥

-- a library is taken of a source by that wish
pub record IsTakenFor (s : Scope) (scripts : List (List Token)) (t : Taken) : Type 0 where
  pub wish : Wish
  pub by : IsAskedBy s scripts wish
  pub library : IsLibraryOf s wish t

-- these, and the library that is taken for them
pub record Asked (s : Scope) (texts : List Bytes) : Type 0 where
  pub spread : List (List Token)
  pub of_source : IsSpreadOf s texts spread
  pub taken : Taken
  pub for_scripts : IsTakenFor s spread taken

-- and their words with the proofs of that library, and with its ranks
pub record Ranked (s : Scope) (texts : List Bytes) : Type 0 where
  pub over : Asked s texts
  pub pasted : List (List Token)
  pub are_pasted : ArePasted s over.taken.chosen.items over.taken.database over.spread pasted
  pub ranked : List RankedScript
  pub gaps : List ℕ
  pub are_ranked : AreRanked s over.taken.chosen.items [] pasted ranked gaps

-- the library of a source that scripts ask for, and the scripts as they are read over it
pub record Begun (source : Bytes) (texts : List Bytes) : Type 0 where
  pub old : Scope
  pub declares : DeclaresText source old
  pub with_ranks : Ranked old texts
  pub read : List Orders
  pub ordered : AreScripts with_ranks.over.taken.database.prelude (texts_of with_ranks.ranked) read

abbrev pub taken_of : {source : Bytes} {texts : List Bytes} → Begun source texts → Taken
taken_of b = b.with_ranks.over.taken

abbrev pub choice_of : {source : Bytes} {texts : List Bytes} → Begun source texts → Choice
choice_of b = b.with_ranks.over.for_scripts.library.taken.choice

-- ---- what the scripts are run over

-- the theorems that the library has as axioms and that the scripts reprove lean on these
abbrev pub stand_ins_of : {source : Bytes} {texts : List Bytes} → Begun source texts → List StandIn
stand_ins_of b = stand_ins b.old (choice_of b) (taken_of b) b.with_ranks.over.spread b.read

abbrev pub opened_of : {source : Bytes} {texts : List Bytes} → Begun source texts → Contents
opened_of b = with_stand_ins (taken_of b).database (stand_ins_of b)

-- and the scripts as they are run over that
abbrev pub scripts_of : {source : Bytes} {texts : List Bytes} → Begun source texts → List Orders
scripts_of b = raised (raise_by (taken_of b).database (stand_ins_of b)) b.read
