-- What has a spelling is spelled by its canonical text.
use Rattle.std.proofs.Common.{◌≡◌, ℕ, true, false, List, [], ◌∷◌, ◌++◌, map, refl, sym, ap, subst, ◌∙◌, arith}
use Rattle.std.specs.Prelude.{All, IsTrue}
use Rattle.std.specs.List.{flat_map, AllByRecursion}
use Rattle.std.proofs.lemmas.List.Elements.{All-from_recursion}
use Rattle.std.proofs.lemmas.List.Folds.{flat_map-map}
use Rattle.std.proofs.lemmas.Grind.{flat_map-append}
use Rattle.mmsyntax.specs.declared.statement.Assertion.{Assertion}
use Rattle.mmsyntax.specs.Tables.{Contents, Tables}
use Rattle.mmsyntax.specs.Rows.{Known, nothing, prelude_alone}
use Rattle.mmsyntax.specs.Faults.{database_of}
use Rattle.mmsyntax.specs.Grammar.{spelling, Spells, SpellsUnit}
use Rattle.mmsyntax.specs.Layout.{unit_statement, canonical_prelude, prelude_text, statement_text, assertion_text}
use Rattle.mmsyntax.specs.Layout.{text_of, HasSpelling, IsSoundPrelude, HasUnitSpelling}
use Rattle.mmsyntax.specs.Assertions.{IsUnit, is_lawful_label}
use Rattle.mmsyntax.proofs.Lines.{clean_words, statements_words, clean_statements, statement_words, clean_statement}
use Rattle.mmsyntax.proofs.Sound.{bare, IsFloatSound, AreSound, IsSound, nothing_sound, alone_sound}
use Rattle.mmsyntax.proofs.Units.{statement_sound, all_sound, closed_tables}
use Rattle.mmsyntax.specs.Preludes.{IsWord}
use Rattle.mmsyntax.proofs.Preludes.{declare_append, prelude_declares}
use Rattle.mmsyntax.proofs.Blocks.{unit_declares, units_declare}
use Rattle.mmsyntax.proofs.Written.{canonical, canonical_written, unit_written}

-- ---- what is spelled is sound

-- a database as what is known, without labels of hypotheses
abbrev pub known_at : Contents → Known
known_at db = record { tables = db.prelude; units = record { assertions = db.assertions; hypothesis_labels = []; prelude_closed = true } }

settled : (k : Known) → IsSound k → IsSound (known_at (database_of k))
settled k s = record {
  tables = s.tables;
  units = s.units;
  lawful = s.lawful;
  distinct = s.distinct;
  apart = s.apart;
  few = s.few;
  unclosed = λ h. absurd cc;
}

known_sound : (bytes : List ℕ) (db : Contents) (s : Spells bytes db) → IsSound s.known
known_sound bytes db s = all_sound s.statements nothing s.known nothing_sound
    (clean_words bytes (flat_map spelling s.statements) s.clean s.words_are) s.declared

pub sound_of : (db : Contents) → HasSpelling db → IsSound (known_at db)
sound_of db h = subst (λ (d : Contents). IsSound (known_at d)) h.spells.whole (settled h.spells.known (known_sound h.text db h.spells))

pub sound_tables : (t : Tables) → IsSoundPrelude t → AreSound t
sound_tables t h = (sound_of (record { prelude = t; assertions = [] }) h).tables

-- ---- what is sound is spelled

-- the canonical text is the lines of the canonical statements
text_of-statements : (db : Contents) → text_of db ≡ flat_map statement_text (canonical db.prelude db.assertions)
text_of-statements db =
    let t = db.prelude in
    ap (λ x. prelude_text t ++ x) (sym (flat_map-map statement_text (unit_statement t) db.assertions))
    ∙ sym (flat_map-append statement_text (canonical_prelude t) (map (unit_statement t) db.assertions))

pub spelled : (db : Contents) → IsSound (known_at db) → Spells (text_of db) db
spelled db s =
    let t = db.prelude in
    let xs = db.assertions in
    let ss = canonical t xs in
    let words = canonical_written t s.tables xs s.units s.lawful in
    let units = units_declare t s.tables false [] [] xs s.units s.lawful s.apart s.distinct s.few tt in
    subst (λ (bytes : List ℕ). Spells bytes db) (sym (text_of-statements db)) (record {
      clean = clean_statements ss words;
      statements = ss;
      words_are = statements_words ss words;
      known = units.known;
      declared = declare_append nothing (bare t) units.known (canonical_prelude t) (map (unit_statement t) xs)
          (prelude_declares t s.tables) units.declares;
      whole = units.whole;
    })

pub spelled_again : (db : Contents) → HasSpelling db → Spells (text_of db) db
spelled_again db h = spelled db (sound_of db h)

-- ---- single units

pub unit_spells : (t : Tables) (a : Assertion) → IsSoundPrelude t → IsUnit t a → IsTrue (is_lawful_label t a.label)
    → SpellsUnit t (assertion_text t a) a
unit_spells t a sound u lawful =
    let s = sound_tables t sound in
    let words = unit_written t s a u lawful in
    let one = unit_declares t s true [] [] a u lawful refl refl (omega arith) tt in
    record {
      clean = clean_statement (unit_statement t a) words;
      words = spelling (unit_statement t a);
      words_are = statement_words (unit_statement t a) words;
      unit = record {
        statement = unit_statement t a;
        parts = refl;
        known = record { tables = t; units = record { assertions = a ∷ []; hypothesis_labels = one.behind; prelude_closed = true } };
        declared = one.declares;
        single = refl;
      };
    }

pub spelled_unit : (t : Tables) (a : Assertion) → IsSoundPrelude t → HasUnitSpelling t a → IsUnit t a × IsTrue (is_lawful_label t a.label)
spelled_unit t a sound h =
    let u = h.spells.unit in
    let before = alone_sound t true (sound_tables t sound) in
    let words = subst (AllByRecursion IsWord) u.parts (clean_words h.text h.spells.words h.spells.clean h.spells.words_are) in
    let s = statement_sound (prelude_alone t) u.statement u.known before words u.declared in
    let same : t ≡ u.known.tables = closed_tables (prelude_alone t) u.statement u.known refl before u.declared in
    let units = subst (AllByRecursion (IsUnit u.known.tables)) u.single s.units in
    let lawful = subst (AllByRecursion (λ x. IsTrue (is_lawful_label u.known.tables x.label))) u.single s.lawful in
    (subst (λ x. IsUnit x a) (sym same) units.0, subst (λ x. IsTrue (is_lawful_label x a.label)) (sym same) lawful.0)

pub unit_spelled_again : (t : Tables) (a : Assertion) → IsSoundPrelude t → HasUnitSpelling t a → SpellsUnit t (assertion_text t a) a
unit_spelled_again t a sound h = let both = spelled_unit t a sound h in unit_spells t a sound both.0 both.1

-- ---- places

-- the places in the $f of a prelude that is spelled are its own
pub floats_sound : (t : Tables) → IsSoundPrelude t → All (IsFloatSound t) t.floats
floats_sound t h = All-from_recursion (IsFloatSound t) t.floats (sound_tables t h).floats_sound
