-- What words of a text spell is spelled by the words of its canonical lines: commands, replies, entries, histories.
use Rattle.std.proofs.Common.{◌≡◌, ◌≢◌, ℕ, false, true, List, [], ◌∷◌, ◌++◌, length, map, refl, sym, ap, subst, ◌∙◌, arith, append-nil}
use Rattle.std.specs.Prelude.{codes, IsTrue}
use Rattle.std.specs.Fmt.{decimal}
use Rattle.std.specs.List.{flat_map, AllByRecursion}
use Rattle.std.proofs.lemmas.List.Concat.{flat_map-cons}
use Rattle.mmtext.specs.Words.{Word}
use Rattle.mmtext.specs.Comments.{without_comments}
use Rattle.mmsyntax.specs.declared.statement.Assertion.{Assertion}
use Rattle.mmsyntax.specs.Tables.{Tables}
use Rattle.mmsyntax.specs.Grammar.{Statement, spelling}
use Rattle.mmsyntax.specs.Layout.{line, step_word, unit_statement, statement_text, assertion_text, IsSoundPrelude, HasUnitSpelling}
use Rattle.mmsyntax.specs.Assertions.{IsUnit, is_lawful_label}
use Rattle.mmsyntax.proofs.Distinct.{all_append, all_left, all_right}
use Rattle.mmsyntax.proofs.Lines.{IsWritten, written_words, statement_words, clean_statement, clean_lawful, said, no_comment}
use Rattle.mmsyntax.proofs.Canonical.{sound_tables, spelled_unit}
use Rattle.mmsyntax.proofs.Blocks.{unit_declares}
use Rattle.mmsyntax.proofs.Written.{unit_written}
use Rattle.library.specs.declared.command.Command.{Command}
use Rattle.library.specs.declared.command.Command.TheVariants as command
use Rattle.library.specs.declared.command.Line.{Line}
use Rattle.library.specs.declared.command.Reply.{Reply}
use Rattle.library.specs.declared.command.Reply.TheVariants as reply
use Rattle.scripts.specs.Scripts.{DeclaresAlone, OtherSteps, Part, a_word, a_rank, a_unit, a_proof, parts, SpellsPart}
use Rattle.scripts.specs.Scripts.{SpellsCommand, SpellsEach, SpellsTransaction}
use Rattle.library.specs.declared.history.Entry.{Entry}
use Rattle.library.specs.declared.history.Entry.TheVariants as entry
use Rattle.historytext.specs.Grammar.{kind_word, SpellsLine, SpellsReply, SpellsEntry, SpellsHistory}
use Rattle.historytext.specs.Layout.{part_words, command_words, command_text, transaction_text, set_in, line_text, reply_text, entry_text, history_text}
use Rattle.historytext.proofs.Told.{Told, told_nothing, told_append, told_line, told_statement, told_space, told_set_in}
use Rattle.historytext.proofs.OtherSteps.{other_words}

-- bytes that tell words which spell a value
record Retold {A : Type 0} (spells : A → List Word → Type 0) (x : A) (bytes : List ℕ) : Type 0 where
  words : List Word
  spelled : spells x words
  told : Told bytes words

each_retold : {A : Type 0} (spells : A → List Word → Type 0) (text : A → List ℕ)
    → ((x : A) (ws : List Word) → AllByRecursion IsWritten ws → spells x ws → Retold spells x (text x))
    → (xs : List A) (ws : List Word) → AllByRecursion IsWritten ws → SpellsEach spells xs ws
    → Retold (SpellsEach spells) xs (flat_map text xs)
each_retold spells text again [] ws h s = record { words = []; spelled = refl; told = told_nothing }
each_retold spells text again (x ∷ xs) ws h s =
    let all = subst (AllByRecursion IsWritten) s.2 h in
    let one = again x s.0 (all_left IsWritten s.0 s.1 all) s.3 in
    let more = each_retold spells text again xs s.1 (all_right IsWritten s.0 s.1 all) s.4 in
    record {
      words = one.words ++ more.words;
      spelled = (one.words, more.words, refl, one.spelled, more.spelled);
      told = subst (λ bytes. Told bytes (one.words ++ more.words)) (sym (flat_map-cons text x xs))
          (told_append (text x) (flat_map text xs) one.words more.words one.told more.told);
    }

-- ---- assertions

-- the canonical lines of an assertion that a statement declares alone
pub record UnitRetold (t : Tables) (a : Assertion) : Type 0 where
  pub declares : DeclaresAlone t (unit_statement t a) a
  pub told : Told (assertion_text t a) (spelling (unit_statement t a))

-- its canonical statement declares a unit with a lawful label alone
pub unit_alone : (t : Tables) (a : Assertion) → IsSoundPrelude t → IsUnit t a → IsTrue (is_lawful_label t a.label) → UnitRetold t a
unit_alone t a sound unit lawful =
    let tables = sound_tables t sound in
    let again = unit_declares t tables true [] [] a unit lawful refl refl (omega arith) tt in
    record {
      declares = (
        record { tables = t; units = record { assertions = a ∷ []; hypothesis_labels = again.behind; prelude_closed = true } },
        again.declares,
        refl,
      );
      told = told_statement (unit_statement t a) (unit_written t tables a unit lawful);
    }

unit_retold : (t : Tables) (unit : Statement) (a : Assertion) → IsSoundPrelude t → AllByRecursion IsWritten (spelling unit)
    → DeclaresAlone t unit a → UnitRetold t a
unit_retold t unit a sound h d =
    let has : HasUnitSpelling t a = record {
      text = statement_text unit;
      spells = record {
        clean = clean_statement unit h;
        words = spelling unit;
        words_are = statement_words unit h;
        unit = record { statement = unit; parts = refl; known = d.0; declared = d.1; single = d.2 };
      };
    } in
    let is_unit = spelled_unit t a sound has in
    unit_alone t a sound is_unit.0 is_unit.1

-- ---- lines of replies

set_in_by_two : (bytes : List ℕ) (ws : List Word) → Told bytes ws → Told (32 ∷ 32 ∷ bytes) ws
set_in_by_two bytes ws h = told_space (32 ∷ bytes) ws (told_space bytes ws h)

line_retold : (l : Line) (ws : List Word) → AllByRecursion IsWritten ws → SpellsLine l ws → Retold SpellsLine l (line_text l)
line_retold l ws h s =
    let all = subst (AllByRecursion IsWritten) s.5 h in
    let rank = subst IsWritten s.2.digits all.0 in
    let citers = subst IsWritten s.4.digits all.1.1.1.0 in
    let words = decimal l.rank ∷ l.label ∷ kind_word l.kind ∷ decimal l.citers ∷ [] in
    record {
      words = words;
      spelled = (
        decimal l.rank,
        decimal l.citers,
        record { digits = refl; small = s.2.small },
        s.3,
        record { digits = refl; small = s.4.small },
        refl,
      );
      told = set_in_by_two (32 ∷ 32 ∷ line words) words
          (set_in_by_two (line words) words (told_line words (rank, (all.1.0, (all.1.1.0, (citers, tt))))));
    }

-- ---- transactions

module _ (t : Tables) (sound : IsSoundPrelude t) where
  -- the canonical words of a part
  part_again : (p : Part) (ws : List Word) → AllByRecursion IsWritten ws → SpellsPart t p ws
      → SpellsPart t p (part_words t p) × AllByRecursion IsWritten (part_words t p)
  part_again (a_word w) ws h s = ((s.0, refl), subst (AllByRecursion IsWritten) s.1 h)
  part_again (a_rank rank) ws h s =
      let number = subst IsWritten s.1.digits (subst (AllByRecursion IsWritten) s.2 h).0 in
      ((decimal rank, record { digits = refl; small = s.1.small }, refl), (number, tt))
  part_again (a_unit a) ws h s =
      let unit = unit_retold t s.0 a sound (subst (AllByRecursion IsWritten) s.2 h) s.1 in
      ((unit_statement t a, unit.declares, refl), unit.told.written)
  part_again (a_proof label steps) ws h s =
      let same : s.0 ≡ map (step_word t label) steps = other_words t label s.0 steps s.2 in
      let e : ws ≡ part_words t (a_proof label steps) = s.3 ∙ ap (λ vs. codes "$=" ∷ (vs ++ codes "$." ∷ [])) same in (
        (
          map (step_word t label) steps,
          subst (λ (vs : List Word). vs ≢ []) same s.1,
          subst (λ vs. OtherSteps t label [] vs steps) same s.2,
          refl,
        ),
        subst (AllByRecursion IsWritten) e h,
      )

  parts_again : (ps : List Part) (ws : List Word) → AllByRecursion IsWritten ws → SpellsEach (SpellsPart t) ps ws
      → SpellsEach (SpellsPart t) ps (flat_map (part_words t) ps) × AllByRecursion IsWritten (flat_map (part_words t) ps)
  parts_again [] ws h s = (refl, tt)
  parts_again (p ∷ ps) ws h s =
      let all = subst (AllByRecursion IsWritten) s.2 h in
      let one = part_again p s.0 (all_left IsWritten s.0 s.1 all) s.3 in
      let more = parts_again ps s.1 (all_right IsWritten s.0 s.1 all) s.4 in
      let first = part_words t p in
      let rest = flat_map (part_words t) ps in
      ((first, rest, refl, one.0, more.0), all_append IsWritten first rest one.1 more.1)

  -- the lines of a command: an assertion that is added stands in those of its own
  command_told : (c : Command) → AllByRecursion IsWritten (command_words t c) → Told (command_text t c) (command_words t c)
  command_told (command.Add rank a) all =
      let first = codes "add" ∷ decimal rank ∷ [] in
      let unit = unit_statement t a in
      let words = spelling unit in
      told_append (line first) (assertion_text t a) first (words ++ []) (told_line first (all.0, (all.1.0, tt)))
      (subst (Told (assertion_text t a)) (sym (append-nil words)) (told_statement unit (all_left IsWritten words [] all.1.1)))
  command_told c all = told_line (command_words t c) all

  command_retold : (c : Command) (ws : List Word) → AllByRecursion IsWritten ws → SpellsCommand t c ws
      → Retold (SpellsCommand t) c (command_text t c)
  command_retold c ws h s =
      let again = parts_again (parts c) ws h s in
      record { words = command_words t c; spelled = again.0; told = command_told c again.1 }

  transaction_retold : (commands : List Command) (ws : List Word) → AllByRecursion IsWritten ws → SpellsTransaction t commands ws
      → Retold (SpellsTransaction t) commands (transaction_text t commands)
  transaction_retold commands ws h s =
      let all = subst (AllByRecursion IsWritten) s.2 h in
      let begin = codes "begin" ∷ [] in
      let commit = codes "commit" ∷ [] in
      let lines = flat_map (command_text t) commands in
      let inner = each_retold (SpellsCommand t) (command_text t) command_retold commands s.0 (all_left IsWritten s.0 commit all.1) s.1 in
      record {
        words = begin ++ (inner.words ++ commit);
        spelled = (inner.words, inner.spelled, refl);
        told = told_append (line begin) (lines ++ line commit) begin (inner.words ++ commit) (told_line begin (all.0, tt))
            (told_append lines (line commit) inner.words commit inner.told (told_line commit (all_right IsWritten s.0 commit all.1)));
      }

  -- ---- replies

  reply_retold : (r : Reply) (ws : List Word) → AllByRecursion IsWritten ws → SpellsReply t r ws
      → Retold (SpellsReply t) r (reply_text t r)
  reply_retold reply.Done ws h s =
      let words = codes "done" ∷ [] in
      let told = told_line words (subst (AllByRecursion IsWritten) s h) in
      record { words = words; spelled = refl; told = set_in_by_two (line words) words told }
  reply_retold (reply.Shown rank citers a) ws h s =
      let all = subst (AllByRecursion IsWritten) s.6 h in
      let numeral = subst IsWritten s.3.digits all.1.0 in
      let number = subst IsWritten s.4.digits all.1.1.0 in
      let unit = unit_retold t s.2 a sound all.1.1.1 s.5 in
      let shown = unit_statement t a in
      let first = codes "shown" ∷ decimal rank ∷ decimal citers ∷ [] in
      let lines = set_in true (assertion_text t a) in
      record {
        words = first ++ spelling shown;
        spelled = (
          decimal rank,
          decimal citers,
          shown,
          record { digits = refl; small = s.3.small },
          record { digits = refl; small = s.4.small },
          unit.declares,
          refl,
        );
        told = set_in_by_two (line first ++ lines) (first ++ spelling shown)
            (told_append (line first) lines first (spelling shown) (told_line first (all.0, (numeral, (number, tt))))
            (told_set_in (assertion_text t a) (spelling shown) unit.told));
      }
  reply_retold (reply.Listed lines) ws h s =
      let all = subst (AllByRecursion IsWritten) s.4 h in
      let count = subst IsWritten s.2.digits all.1.0 in
      let first = codes "listed" ∷ decimal (length lines) ∷ [] in
      let inner = each_retold SpellsLine line_text line_retold lines s.1 all.1.1 s.3 in
      record {
        words = first ++ inner.words;
        spelled = (decimal (length lines), inner.words, record { digits = refl; small = s.2.small }, inner.spelled, refl);
        told = set_in_by_two (line first ++ flat_map line_text lines) (first ++ inner.words)
            (told_append (line first) (flat_map line_text lines) first inner.words (told_line first (all.0, (count, tt))) inner.told);
      }

  -- ---- entries

  entry_retold : (e : Entry) (ws : List Word) → AllByRecursion IsWritten ws → SpellsEntry t e ws
      → Retold (SpellsEntry t) e (entry_text t e)
  entry_retold entry.Void ws h s =
      let words = codes "void" ∷ [] in
      record { words = words; spelled = refl; told = told_line words (subst (AllByRecursion IsWritten) s h) }
  entry_retold (entry.Done commands replies) ws h s =
      let all = subst (AllByRecursion IsWritten) s.5 h in
      let done = codes "done" ∷ [] in
      let asked = transaction_retold commands s.0 (all_left IsWritten s.0 s.1 all.1) s.2 in
      let answered = each_retold (SpellsReply t) (reply_text t) reply_retold replies s.1 (all_right IsWritten s.0 s.1 all.1) s.3 in
      let lines = flat_map (reply_text t) replies in
      record {
        words = done ++ (asked.words ++ answered.words);
        spelled = (asked.words, answered.words, asked.spelled, answered.spelled, s.4, refl);
        told = told_append (line done) (transaction_text t commands ++ lines) done (asked.words ++ answered.words)
            (told_line done (all.0, tt))
            (told_append (transaction_text t commands) lines asked.words answered.words asked.told answered.told);
      }

  -- ---- histories

  pub history_spelled : (bytes : List ℕ) (history : List Entry) → SpellsHistory t bytes history
      → SpellsHistory t (history_text t history) history
  history_spelled bytes history s =
      let all = written_words bytes (codes "history" ∷ s.count ∷ s.inner) s.clean s.words_are in
      let count = subst IsWritten s.counted.digits all.1.0 in
      let first = codes "history" ∷ decimal (length history) ∷ [] in
      let inner = each_retold (SpellsEntry t) (entry_text t) entry_retold history s.inner all.1.1 s.entries in
      let told = told_append (line first) (flat_map (entry_text t) history) first inner.words
      (told_line first (all.0, (count, tt))) inner.told in
      let text = history_text t history in
      let words = first ++ inner.words in
      record {
        clean = clean_lawful text told.lawful;
        count = decimal (length history);
        inner = inner.words;
        words_are = ap (without_comments false) (said text words told.says) ∙ no_comment words told.written;
        counted = record { digits = refl; small = s.counted.small };
        entries = inner.spelled;
      }
