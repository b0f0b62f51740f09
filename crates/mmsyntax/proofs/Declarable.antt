-- What is spelled is declarable, and what is declarable is spelled: databases, and single units.
use Rattle.std.proofs.Common.{List, []}
use Rattle.std.specs.Prelude.{IsTrue}
use Rattle.std.proofs.lemmas.List.Elements.{All-from_recursion, recursion_from_All}
use Rattle.mmsyntax.specs.declared.statement.Assertion.{Assertion}
use Rattle.mmsyntax.specs.Tables.{Tables, Contents}
use Rattle.mmsyntax.specs.Layout.{HasSpelling, IsSoundPrelude, HasUnitSpelling, assertion_text, text_of}
use Rattle.mmsyntax.specs.Assertions.{IsUnit, is_lawful_label, IsDeclarable}
use Rattle.mmsyntax.specs.Laws.{SoundWhereApart}
use Rattle.mmsyntax.proofs.Sound.{IsSound, alone_sound}
use Rattle.mmsyntax.proofs.Canonical.{known_at, sound_of, sound_tables, spelled, unit_spells}

-- the prelude of what is spelled is sound by itself
pub prelude_sound : (t : Tables) (xs : List Assertion) → HasSpelling (record { prelude = t; assertions = xs }) → IsSoundPrelude t
prelude_sound t xs h =
    let s = sound_of (record { prelude = t; assertions = xs }) h in
    record {
      text = text_of (record { prelude = t; assertions = [] });
      spells =
          spelled (record { prelude = t; assertions = [] }) (alone_sound t _ s.tables);
    }

-- what is spelled is declarable
pub declarable : (db : Contents) → HasSpelling db → IsDeclarable db.prelude db.assertions
declarable db h =
    let t = db.prelude in
    let xs = db.assertions in
    let s = sound_of db h in
    record {
      prelude = prelude_sound t xs h;
      units = All-from_recursion (IsUnit t) xs s.units;
      lawful = All-from_recursion (λ a. IsTrue (is_lawful_label t a.label)) xs s.lawful;
      distinct = s.distinct;
      apart = s.apart;
      few = s.few;
    }

sound_again : (db : Contents) → IsDeclarable db.prelude db.assertions → IsSound (known_at db)
sound_again db d = record {
  tables = sound_tables db.prelude d.prelude;
  units = recursion_from_All (IsUnit db.prelude) db.assertions d.units;
  lawful = recursion_from_All (λ a. IsTrue (is_lawful_label db.prelude a.label)) db.assertions d.lawful;
  distinct = d.distinct;
  apart = d.apart;
  few = d.few;
  unclosed = λ h. absurd cc;
}

pub spelled_where_declarable : (db : Contents) → IsDeclarable db.prelude db.assertions → HasSpelling db
spelled_where_declarable db d = record { text = text_of db; spells = spelled db (sound_again db d) }

pub spelled_where_unit : (t : Tables) (a : Assertion) → IsSoundPrelude t → IsUnit t a × IsTrue (is_lawful_label t a.label)
    → HasUnitSpelling t a
spelled_where_unit t a h both = record { text = assertion_text t a; spells = unit_spells t a h both.0 both.1 }

-- a prelude that is sound is spelled by its own text, and only such a one is spelled
pub sound_where_apart : SoundWhereApart
sound_where_apart t = (
  sound_tables t,
  λ s. record {
    text = text_of (record { prelude = t; assertions = [] });
    spells = spelled (record { prelude = t; assertions = [] }) (alone_sound t _ s);
  },
)
