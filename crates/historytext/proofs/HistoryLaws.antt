-- What the reader of histories gives is what the text spells, and is within the limits.
use Rattle.std.proofs.Common.{◌≡◌, ℕ, zero, suc, false, List, [], ◌∷◌, length, Some, Result, Ok, Err, refl, ap, subst, ◌∙◌}
use Rattle.std.specs.Prelude.{All, codes, IfOk}
use Rattle.std.specs.List.{AllByRecursion}
use Rattle.mmtext.specs.declared.fault.TextFault.{TextFault}
use Rattle.mmtext.specs.Text.{tokens, IsClean}
use Rattle.mmtext.specs.Words.{Word}
use Rattle.mmtext.specs.Languages.{run, ended, token_reading}
use Rattle.mmtext.specs.Laws.{IsGrammarOf, IsRead}
use Rattle.walks.proofs.Walks.{here, walks_outside, runs_all}
use Rattle.mmsyntax.specs.Tables.{Tables}
use Rattle.mmsyntax.specs.Layout.{IsSoundPrelude}
use Rattle.mmsyntax.proofs.Distinct.{all_left, all_right}
use Rattle.mmsyntax.proofs.Lines.{IsWord, clean_words}
use Rattle.statementreader.proofs.UnitLaws.{ended_ok}
use Rattle.library.specs.declared.command.Reply.{Reply}
use Rattle.library.specs.declared.command.Reply.TheVariants.{Done, Shown, Listed}
use Rattle.library.specs.Fitting.{ReplyFits}
use Rattle.scripts.proofs.ScriptLaws.{unit_fits, each_fits, transaction_fits}
use Rattle.library.specs.declared.history.Entry.{Entry}
use Rattle.library.specs.declared.history.Entry.TheVariants as entry
use Rattle.historytext.specs.Grammar.{SpellsReply, SpellsEntry, SpellsHistory}
use Rattle.historytext.specs.Layout.{EntryFitsText}
use Rattle.historytext.specs.Places.{Place, at_history, at_count, at_entry, in_entry, whole, history_language}
use Rattle.historytext.proofs.HistoryRows.{progress}
use Rattle.historytext.proofs.HistoryWords.{history_ordinary, history_leads}
use Rattle.historytext.proofs.HistoryParsed.{reads_history}

-- ---- what is read is spelled

whole_ok : (es : List Entry) (place : Place) (history : List Entry) → whole es place ≡ Some history → (place ≡ at_entry 0) × (es ≡ history)
whole_ok es at_history history h = absurd cc
whole_ok es at_count history h = absurd cc
whole_ok es (at_entry zero) history h = (refl, cc)
whole_ok es (at_entry (suc left)) history h = absurd cc
whole_ok es (in_entry left p) history h = absurd cc

token_found : (t : Tables) (bytes : List ℕ) (history : List Entry) → IsClean bytes → token_reading (history_language t) bytes ≡ Ok history
    → SpellsHistory t bytes history
unfolding token_reading
token_found t bytes history clean h =
    let l = history_language t in
    let f = ended_ok l (length bytes) (run l (here (progress [] at_history) false) (tokens bytes)) history h in
    let final = f.0 in
    let w = whole_ok final.entries final.place history f.2 in
    let o = walks_outside l false (progress [] at_history) final (tokens bytes) f.1 in
    let r = reads_history t final w.0 o.kept o.walks in
    subst (λ s. SpellsHistory t bytes s) w.1
    (record {
      clean = clean;
      count = r.count;
      inner = r.inner;
      words_are = o.words_are ∙ ap (λ ws. Some ws) r.parts;
      counted = r.counted;
      entries = r.spells;
    })

-- ---- what is spelled is read

token_spelled : (t : Tables) (bytes : List ℕ) (history : List Entry) → SpellsHistory t bytes history
    → token_reading (history_language t) bytes ≡ Ok history
unfolding token_reading
token_spelled t bytes history s =
    let l = history_language t in
    let r = runs_all l false (tokens bytes) (codes "history" ∷ s.count ∷ s.inner)
    (history_ordinary t history s.count s.inner s.counted s.entries)
    s.words_are in
    ap (ended l (length bytes))
    (r.runs (progress [] at_history) (progress history (at_entry 0))
    (history_leads t history s.count s.inner r.kept s.counted s.entries r.words_are))

-- what is spelled is what the language says
pub history_grammar : (t : Tables) → IsGrammarOf (history_language t) (SpellsHistory t)
history_grammar t bytes history = (λ s. (s.clean, token_spelled t bytes history s), λ h. token_found t bytes history h.0 h.1)

-- ---- what is spelled is within the limits

reply_fits : (t : Tables) → IsSoundPrelude t → (r : Reply) (ws : List Word) → AllByRecursion IsWord ws → SpellsReply t r ws → ReplyFits t r
reply_fits t sound Done ws words d = tt
reply_fits t sound (Shown rank citers a) ws words d =
    let all = subst (AllByRecursion IsWord) d.6 words in unit_fits t d.2 a sound all.1.1.1 d.5
reply_fits t sound (Listed lines) ws words d = tt

entry_fits : (t : Tables) → IsSoundPrelude t → (e : Entry) (ws : List Word) → AllByRecursion IsWord ws → SpellsEntry t e ws
    → EntryFitsText t e
entry_fits t sound entry.Void ws words d = tt
entry_fits t sound (entry.Done commands replies) ws words d =
    let all = subst (AllByRecursion IsWord) d.5 words in
    let asked = all_left IsWord d.0 d.1 all.1 in
    let answered = all_right IsWord d.0 d.1 all.1 in
    (transaction_fits t sound commands d.0 asked d.2, each_fits (SpellsReply t) (ReplyFits t) (reply_fits t sound) replies d.1 answered d.3)

pub history_fits : (t : Tables) (bytes : List ℕ) (history : List Entry) → IsSoundPrelude t → SpellsHistory t bytes history
    → All (EntryFitsText t) history
history_fits t bytes history sound s =
    let words = clean_words bytes (codes "history" ∷ s.count ∷ s.inner) s.clean s.words_are in
    each_fits (SpellsEntry t) (EntryFitsText t) (entry_fits t sound) history s.inner words.1.1 s.entries

-- so are those that are read
pub read_fits : (t : Tables) (bytes : List ℕ) (r : Result (List Entry) TextFault) → IsSoundPrelude t
    → IsRead (history_language t) (SpellsHistory t) bytes r → IfOk r (All (EntryFitsText t))
read_fits t bytes (Ok history) sound h = history_fits t bytes history sound h.found
read_fits t bytes (Err f) sound h = tt
