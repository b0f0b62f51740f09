-- Of the code's inside, apart from the rules: how contracts see stand-ins.
use Rattle.std.specs.Prelude.{◌≡◌, ◌&&◌, List, map, find, Option, Some, None, if◌then◌else◌}
use Rattle.std.specs.Option.{option_map, unwrap_or}
use Rattle.std.specs.Str.{bytes_eq}
use Rattle.mmtext.specs.Words.{Word}
use Rattle.mmsyntax.specs.Tables.{Contents}
use Rattle.mmsyntax.specs.Layout.{HasSpelling}
use Rattle.derivation.specs.Databases.{AllCheck}
use Rattle.source.specs.Scopes.{is_in}
use Rattle.giving.specs.Staying.{Change}
use Rattle.sourceediting.specs.Following.{Followed}
use Rattle.standins.specs.StandIns.{StandIn, Scripts, with_stand_ins, raised, raise_by}
use Rattle.standins.specs.declared.standing.StandIn.{StandIn as CodeStandIn}
use Rattle.standins.specs.declared.call.Opened.{Opened}
use Rattle.standins.specs.declared.opening.Unopened.{Unopened}
use Rattle.standins.specs.declared.opening.Unopened.TheVariants as unopened

abbrev pub seen_stand_in : CodeStandIn → StandIn
seen_stand_in x = record { source = x.source; theorem = x.theorem; cited = x.cited }

abbrev pub seen_stand_ins : List CodeStandIn → List StandIn
seen_stand_ins xs = map seen_stand_in xs

-- the labels of an assertion in the source and in the library as it was taken, if it has both and they are among these
abbrev pub pair_of : (told again : List Word) → (first : Word) → Option Word → Option (Word × Word)
pair_of told again first None = None
pair_of told again first (Some source) = if is_in told source && is_in again first then Some (source, first) else None

abbrev pub leaning_pair : (told again : List Word) → Followed → Option (Word × Word)
leaning_pair told again f = pair_of told again f.first f.source

-- theorems with their axioms, as a look-up has them, and the axiom that it finds for a label
abbrev pub axiom_pairs : List StandIn → List Change
axiom_pairs ss = map (λ x. (x.theorem, x.cited)) ss

abbrev pub axiom_found : List Change → Word → Option Word
axiom_found cs w = option_map (λ c. c.1) (find (λ c. bytes_eq w c.0) cs)

-- the library that the scripts are run over
abbrev pub opened_database : Contents → Opened → Contents
opened_database db o = unwrap_or o.database db

-- a library with these stand-ins, and scripts as they are run over it
pub record IsOpened (ss : List StandIn) (db : Contents) (read : Scripts) (o : Opened) : Type 0 where
  pub stand_ins : seen_stand_ins o.stand_ins.items ≡ ss
  pub database : opened_database db o ≡ with_stand_ins db ss
  pub scripts : o.scripts.items ≡ raised (raise_by db ss) read

-- with its stand-ins it is no library, or one that doesn't verify; of want of memory nothing is known
abbrev pub IsUnopened : Contents → List StandIn → Unopened → Type 0
IsUnopened db ss unopened.Unlawful = HasSpelling (with_stand_ins db ss) → AllCheck (with_stand_ins db ss) → ⊥
IsUnopened db ss unopened.NoMemory = Unit {0}
