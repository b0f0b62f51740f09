-- The grammar of histories: which words spell entries and replies, and which bytes spell a history.
use Rattle.std.specs.Prelude.{◌≡◌, ◌≤◌, ℕ, false, List, [], ◌∷◌, ◌++◌, length, Some, codes}
use Rattle.std.specs.Fmt.{decimal}
use Rattle.mmtext.specs.Text.{tokens, IsClean}
use Rattle.mmtext.specs.Words.{Word}
use Rattle.mmtext.specs.Comments.{words_of, without_comments}
use Rattle.mmsyntax.specs.declared.statement.Kind.{Kind}
use Rattle.mmsyntax.specs.declared.statement.Kind.TheVariants.{Axiom, Theorem}
use Rattle.mmsyntax.specs.Tables.{Tables}
use Rattle.mmsyntax.specs.Grammar.{Statement, spelling}
use Rattle.library.specs.declared.command.Line.{Line}
use Rattle.library.specs.declared.command.Reply.{Reply}
use Rattle.library.specs.declared.command.Reply.TheVariants.{Done, Shown, Listed}
use Rattle.scripts.specs.Scripts.{IsPlain, IsRank, DeclaresAlone, SpellsEach, SpellsTransaction}
use Rattle.library.specs.declared.history.Entry.{Entry}
use Rattle.library.specs.declared.history.Entry.TheVariants as entry

-- ---- words

-- the highest number of entries, lines or citers
abbrev pub highest_count : ℕ
highest_count = 18446744073709551615

-- COUNT and CITERS are numbers up to the highest in decimal digits without leading zero, or 0
pub record IsCount (w : Word) (n : ℕ) : Type 0 where
  pub digits : w ≡ decimal n
  pub small : n ≤ highest_count

-- an axiom is listed as a, a theorem as p
abbrev pub kind_word : Kind → Word
kind_word Axiom = codes "a"
kind_word Theorem = codes "p"

-- ---- replies

-- RANK LABEL a CITERS | RANK LABEL p CITERS
abbrev pub SpellsLine : Line → List Word → Type 0
SpellsLine l ws =
    (rank citers : Word) × IsRank rank l.rank × IsPlain l.label × IsCount citers l.citers
    × (ws ≡ rank ∷ l.label ∷ kind_word l.kind ∷ citers ∷ [])

-- reply = done | shown RANK CITERS unit | listed COUNT line*, of so many lines
abbrev pub SpellsReply : Tables → Reply → List Word → Type 0
SpellsReply t Done ws = ws ≡ codes "done" ∷ []
SpellsReply t (Shown rank citers a) ws =
    (numeral number : Word) × (unit : Statement) × IsRank numeral rank × IsCount number citers × DeclaresAlone t unit a
    × (ws ≡ codes "shown" ∷ numeral ∷ number ∷ spelling unit)
SpellsReply t (Listed lines) ws =
    (count : Word) × (inner : List Word) × IsCount count (length lines) × SpellsEach SpellsLine lines inner
    × (ws ≡ codes "listed" ∷ count ∷ inner)

-- ---- entries

-- entry = void | done transaction reply*, one reply for each command
abbrev pub SpellsEntry : Tables → Entry → List Word → Type 0
SpellsEntry t entry.Void ws = ws ≡ codes "void" ∷ []
SpellsEntry t (entry.Done commands replies) ws =
    (asked answered : List Word) × SpellsTransaction t commands asked × SpellsEach (SpellsReply t) replies answered
    × (length replies ≡ length commands) × (ws ≡ codes "done" ∷ (asked ++ answered))

-- history = history COUNT entry*, of so many entries: the text has lawful bytes, and its words outside of comments are these
pub record SpellsHistory (t : Tables) (bytes : List ℕ) (history : List Entry) : Type 0 where
  pub clean : IsClean bytes
  pub count : Word
  pub inner : List Word
  pub words_are : without_comments false (words_of (tokens bytes)) ≡ Some (codes "history" ∷ count ∷ inner)
  pub counted : IsCount count (length history)
  pub entries : SpellsEach (SpellsEntry t) history inner
