-- What was not refused is spelled by some words: commands, their replies, and so every legal history.
use Rattle.std.proofs.Common.{◌≡◌, ◌≢◌, ◌∙◌, ℕ, ◌^◌, ◌<◌, ◌≤◌, true, false, List, [], ◌∷◌, ◌++◌, length, map, get_or, Some, refl, ap, arith}
use Rattle.std.specs.Prelude.{codes, is_some, slice_get}
use Rattle.std.specs.Fmt.{decimal}
use Rattle.std.specs.List.{All, AllZip, AllByRecursion}
use Rattle.std.proofs.lemmas.Fmt.{decimal_nonempty}
use Rattle.std.proofs.lemmas.List.Elements.{recursion_from_All}
use Rattle.std.proofs.lemmas.Slice.Zip.{AllZip-long}
use Rattle.mmtext.specs.Words.{Word, is_label}
use Rattle.mmtext.specs.Comments.{without_comments}
use Rattle.mmtext.proofs.Marks.{label_plain}
use Rattle.mmsyntax.specs.declared.statement.Kind.{Kind}
use Rattle.mmsyntax.specs.declared.statement.Kind.TheVariants.{Axiom, Theorem}
use Rattle.mmsyntax.specs.declared.statement.Step.{Step}
use Rattle.mmsyntax.specs.Tables.{Tables, meaning}
use Rattle.mmsyntax.specs.Grammar.{spelling}
use Rattle.mmsyntax.specs.Layout.{line, step_word, unit_statement, IsSoundPrelude}
use Rattle.mmsyntax.specs.Assertions.{CitesApart, IsNameable}
use Rattle.mmsyntax.proofs.Again.{IsPlainLabel, plain_label}
use Rattle.mmsyntax.proofs.Canonical.{sound_tables}
use Rattle.mmsyntax.proofs.Distinct.{all_append, all_map}
use Rattle.mmsyntax.proofs.Lines.{IsWritten, clean_lawful, said, no_comment}
use Rattle.mmsyntax.proofs.Numbered.{label_bytes, decimal_label}
use Rattle.mmsyntax.proofs.Written.{keyword, label_written, step_written}
use Rattle.library.specs.declared.command.Command.{Command}
use Rattle.library.specs.declared.command.Line.{Line}
use Rattle.library.specs.declared.command.Reply.{Reply}
use Rattle.library.specs.declared.command.Reply.TheVariants as reply
use Rattle.library.specs.declared.history.Entry.{Entry}
use Rattle.library.specs.declared.history.Entry.TheVariants as entry
use Rattle.library.specs.declared.library.Ranked.{Ranked}
use Rattle.library.specs.Histories.{seen_entry, EntriesFit, IsLegal}
use Rattle.library.specs.Library.{highest_rank, Setting, Verifies}
use Rattle.historytext.proofs.Naming.{IsLawful, IsSoundPart, IsSoundCommand, IsSoundLine, IsSoundReply, IsSoundTurn, legal_sound}
use Rattle.scripts.specs.Scripts.{IsPlain, IsRank, Part, a_word, a_rank, a_unit, a_proof, parts, SpellsPart}
use Rattle.scripts.specs.Scripts.{SpellsCommand, SpellsEach, SpellsTransaction}
use Rattle.historytext.specs.Grammar.{highest_count, IsCount, kind_word, SpellsLine, SpellsReply, SpellsEntry, SpellsHistory}
use Rattle.historytext.specs.Layout.{history_text}
use Rattle.historytext.specs.Laws.{LegalHistoriesAreSpelled}
use Rattle.historytext.proofs.LegalFits.{told_there}
use Rattle.historytext.proofs.OtherSteps.{others_again}
use Rattle.historytext.proofs.Retold.{unit_alone, history_spelled}
use Rattle.historytext.proofs.Told.{told_line}

-- ---- words

-- a word of letters, digits, `-`, `_` and `.`
name_written : (w : Word) → w ≢ [] → is_label w ≡ true → IsWritten w
name_written w some h = label_written w (some, label_bytes w h) h

some_digits : (ds : List ℕ) → 0 < length ds → ds ≢ []
some_digits [] lt = absurd (omega arith)
some_digits (d ∷ ds) lt = λ e. absurd cc

number_written : (n : ℕ) → n < 2 ^ 64 → IsWritten (decimal n)
number_written n small = name_written (decimal n) (some_digits (decimal n) (decimal_nonempty n small)) (decimal_label n small)

kind_written : (k : Kind) → IsWritten (kind_word k)
kind_written Axiom = name_written (codes "a") (λ e. absurd cc) refl
kind_written Theorem = name_written (codes "p") (λ e. absurd cc) refl

rank_written : (n : ℕ) → n ≤ highest_rank → IsWritten (decimal n)
rank_written n small = number_written n (omega arith)

rank_is : (n : ℕ) → n ≤ highest_rank → IsRank (decimal n) n
rank_is n small = record { digits = refl; small = small }

count_written : (n : ℕ) → n ≤ highest_count → IsWritten (decimal n)
count_written n small = number_written n (omega arith)

count_is : (n : ℕ) → n ≤ highest_count → IsCount (decimal n) n
count_is n small = record { digits = refl; small = small }

-- ---- values

-- words that spell a value, none of which opens a comment
record IsSpelled {A : Type 0} (spells : A → List Word → Type 0) (x : A) : Type 0 where
  words : List Word
  spelled : spells x words
  written : AllByRecursion IsWritten words

each_spelled : {A : Type 0} (spells : A → List Word → Type 0) (P : A → Type 0) → ((x : A) → P x → IsSpelled spells x) → (xs : List A)
    → AllByRecursion P xs → IsSpelled (SpellsEach spells) xs
each_spelled spells P one [] h = record { words = []; spelled = refl; written = tt }
each_spelled spells P one (x ∷ xs) h =
    let first = one x h.0 in
    let more = each_spelled spells P one xs h.1 in
    record {
      words = first.words ++ more.words;
      spelled = (first.words, more.words, refl, first.spelled, more.spelled);
      written = all_append IsWritten first.words more.words first.written more.written;
    }

module _ (t : Tables) (sound : IsSoundPrelude t) where
  -- ---- labels

  plain_of : (label : Word) → IsLawful t label → IsPlainLabel label (is_some (meaning t label))
  plain_of label h = plain_label label (is_some (meaning t label)) h

  is_plain : (label : Word) → IsLawful t label → IsPlain label
  is_plain label h = label_plain label (plain_of label h).label

  lawful_written : (label : Word) → IsLawful t label → IsWritten label
  lawful_written label h = let p = plain_of label h in name_written label p.some p.label

  -- ---- commands

  some_words : (label : Word) (steps : List Step) → steps ≢ [] → map (step_word t label) steps ≢ []
  some_words label [] some = absurd (some refl)
  some_words label (x ∷ steps) some = λ e. absurd cc

  proof_spelled : (label : Word) (steps : List Step) → IsSoundPart t (a_proof label steps) → IsSpelled (SpellsPart t) (a_proof label steps)
  proof_spelled label steps h =
      let p = plain_of label h.0 in
      let s = sound_tables t sound in
      let nameable = recursion_from_All (IsNameable t 1000) steps h.3 in
      let apart = recursion_from_All (CitesApart label) steps h.4 in
      let named = map (step_word t label) steps in
      record {
        words = codes "$=" ∷ (named ++ codes "$." ∷ []);
        spelled = (named, some_words label steps h.1, others_again t s label p.some p.label [] steps nameable apart h.2, refl);
        written = (
          keyword 61 refl refl,
          all_append IsWritten named (codes "$." ∷ [])
              (all_map (IsNameable t 1000) IsWritten (step_word t label) steps (step_written t s label p.label 1000 (omega arith)) nameable)
              (keyword 46 refl refl, tt),
        );
      }

  part_spelled : (p : Part) → IsSoundPart t p → IsSpelled (SpellsPart t) p
  part_spelled (a_word w) h = record { words = w ∷ []; spelled = (label_plain w h.1, refl); written = (name_written w h.0 h.1, tt) }
  part_spelled (a_rank rank) h = record {
    words = decimal rank ∷ [];
    spelled = (decimal rank, rank_is rank h, refl);
    written = (rank_written rank h, tt);
  }
  part_spelled (a_unit a) h =
      let unit = unit_alone t a sound h.0 h.1 in
      record {
        words = spelling (unit_statement t a);
        spelled = (unit_statement t a, unit.declares, refl);
        written = unit.told.written;
      }
  part_spelled (a_proof label steps) h = proof_spelled label steps h

  command_spelled : (c : Command) → IsSoundCommand t c → IsSpelled (SpellsCommand t) c
  command_spelled c h =
      let each = each_spelled (SpellsPart t) (IsSoundPart t) part_spelled (parts c) h in
      record { words = each.words; spelled = each.spelled; written = each.written }

  transaction_spelled : (commands : List Command) → AllByRecursion (IsSoundCommand t) commands → IsSpelled (SpellsTransaction t) commands
  transaction_spelled commands h =
      let inner = each_spelled (SpellsCommand t) (IsSoundCommand t) command_spelled commands h in
      let commit = codes "commit" ∷ [] in
      record {
        words = codes "begin" ∷ (inner.words ++ commit);
        spelled = (inner.words, inner.spelled, refl);
        written = (
          name_written (codes "begin") (λ e. absurd cc) refl,
          all_append IsWritten inner.words commit inner.written (name_written (codes "commit") (λ e. absurd cc) refl, tt),
        );
      }

  -- ---- replies

  line_spelled : (l : Line) → IsSoundLine t l → IsSpelled SpellsLine l
  line_spelled l h =
      let few : l.citers ≤ 4096 = h.2 in
      let small : l.citers ≤ highest_count = omega arith in
      record {
        words = decimal l.rank ∷ l.label ∷ kind_word l.kind ∷ decimal l.citers ∷ [];
        spelled = (decimal l.rank, decimal l.citers, rank_is l.rank h.0, is_plain l.label h.1, count_is l.citers small, refl);
        written = (rank_written l.rank h.0, (lawful_written l.label h.1, (kind_written l.kind, (count_written l.citers small, tt))));
      }

  reply_spelled : (r : Reply) → IsSoundReply t r → IsSpelled (SpellsReply t) r
  reply_spelled reply.Done h = record {
    words = codes "done" ∷ [];
    spelled = refl;
    written = (name_written (codes "done") (λ e. absurd cc) refl, tt);
  }
  reply_spelled (reply.Shown rank citers a) h =
      let few : citers ≤ 4096 = h.0 in
      let small : citers ≤ highest_count = omega arith in
      let unit = unit_alone t a sound h.1.unit h.1.lawful in
      record {
        words = codes "shown" ∷ decimal rank ∷ decimal citers ∷ spelling (unit_statement t a);
        spelled = (
          decimal rank,
          decimal citers,
          unit_statement t a,
          rank_is rank h.1.small,
          count_is citers small,
          unit.declares,
          refl,
        );
        written = (
          name_written (codes "shown") (λ e. absurd cc) refl,
          (rank_written rank h.1.small, (count_written citers small, unit.told.written)),
        );
      }
  reply_spelled (reply.Listed lines) h =
      let few : length lines ≤ 4096 = h.0 in
      let small : length lines ≤ highest_count = omega arith in
      let inner = each_spelled SpellsLine (IsSoundLine t) line_spelled lines (recursion_from_All (IsSoundLine t) lines h.1) in
      record {
        words = codes "listed" ∷ decimal (length lines) ∷ inner.words;
        spelled = (decimal (length lines), inner.words, count_is (length lines) small, inner.spelled, refl);
        written = (name_written (codes "listed") (λ e. absurd cc) refl, (count_written (length lines) small, inner.written));
      }

  -- ---- entries

  -- a done entry has a transaction that was not refused, with its replies
  abbrev IsSoundEntry : Entry → Type 0
  IsSoundEntry entry.Void = Unit {0}
  IsSoundEntry (entry.Done commands replies) = AllZip (IsSoundTurn t) commands replies

  commands_of : (cs : List Command) (rs : List Reply) → AllZip (IsSoundTurn t) cs rs → AllByRecursion (IsSoundCommand t) cs
  commands_of [] [] h = tt
  commands_of [] (r ∷ rs) h = absurd h
  commands_of (c ∷ cs) [] h = absurd h
  commands_of (c ∷ cs) (r ∷ rs) h = (h.0.0, commands_of cs rs h.1)

  replies_of : (cs : List Command) (rs : List Reply) → AllZip (IsSoundTurn t) cs rs → AllByRecursion (IsSoundReply t) rs
  replies_of [] [] h = tt
  replies_of [] (r ∷ rs) h = absurd h
  replies_of (c ∷ cs) [] h = absurd h
  replies_of (c ∷ cs) (r ∷ rs) h = (h.0.1, replies_of cs rs h.1)

  entry_spelled : (e : Entry) → IsSoundEntry e → IsSpelled (SpellsEntry t) e
  entry_spelled entry.Void h = record {
    words = codes "void" ∷ [];
    spelled = refl;
    written = (name_written (codes "void") (λ e. absurd cc) refl, tt);
  }
  entry_spelled (entry.Done commands replies) h =
      let asked = transaction_spelled commands (commands_of commands replies h) in
      let answered = each_spelled (SpellsReply t) (IsSoundReply t) reply_spelled replies (replies_of commands replies h) in
      record {
        words = codes "done" ∷ (asked.words ++ answered.words);
        spelled = (asked.words, answered.words, asked.spelled, answered.spelled, AllZip-long (IsSoundTurn t) commands replies h, refl);
        written = (
          name_written (codes "done") (λ e. absurd cc) refl,
          all_append IsWritten asked.words answered.words asked.written answered.written,
        );
      }

  -- ---- histories

  -- by one line of words, and so by its canonical text
  sound_spelled : (history : List Entry) → length history ≤ highest_count → AllByRecursion IsSoundEntry history
      → SpellsHistory t (history_text t history) history
  sound_spelled history small h =
      let inner = each_spelled (SpellsEntry t) IsSoundEntry entry_spelled history h in
      let words = codes "history" ∷ decimal (length history) ∷ inner.words in
      let told = told_line words
      (name_written (codes "history") (λ e. absurd cc) refl, (count_written (length history) small, inner.written)) in
      history_spelled t sound (line words) history
      (record {
        clean = clean_lawful (line words) told.lawful;
        count = decimal (length history);
        inner = inner.words;
        words_are = ap (without_comments false) (said (line words) words told.says) ∙ no_comment words told.written;
        counted = count_is (length history) small;
        entries = inner.spelled;
      })

module _ (s : Setting) (lib0 : List Ranked) (h : List Entry) (v : Verifies s lib0) (fit : EntriesFit s.prelude (map seen_entry h))
    (legal : IsLegal s lib0 (map seen_entry h)) where
  entry_sound : (i : ℕ) (e : Entry) → slice_get (map seen_entry h) i ≡ Some (seen_entry e) → IsSoundEntry s.prelude v.setting.sound e
  entry_sound i entry.Void at = tt
  entry_sound i (entry.Done commands replies) at = legal_sound s lib0 (map seen_entry h) i commands replies v fit legal at

pub legal_histories_are_spelled : LegalHistoriesAreSpelled
legal_histories_are_spelled s lib0 h v fit legal small =
    let sound = v.setting.sound in
    let all : All (IsSoundEntry s.prelude sound) h = λ i d lt. entry_sound s lib0 h v fit legal i (get_or h i d) (told_there h i d lt).1 in
    sound_spelled s.prelude sound h small (recursion_from_All (IsSoundEntry s.prelude sound) h all)
