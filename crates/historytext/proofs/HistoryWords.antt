-- The words of a history are ordinary, and lead through its rows.
use Rattle.std.proofs.Common.{◌≡◌, ℕ, suc, ◌+◌, ◌^◌, ◌<◌, false, List, [], ◌∷◌, ◌++◌, length, Result, Ok, refl, sym, ap, subst, ◌∙◌}
use Rattle.std.proofs.Common.{arith, append_assoc, append-nil, length-append}
use Rattle.std.specs.Prelude.{codes, All}
use Rattle.std.proofs.lemmas.List.Elements.{All-nil, All-append}
use Rattle.mmtext.specs.declared.fault.TextFault.{TextFault}
use Rattle.mmtext.specs.Text.{Token}
use Rattle.mmtext.specs.Words.{Word, has_dollar}
use Rattle.mmtext.specs.Comments.{words_of}
use Rattle.walks.proofs.Walks.{walk, walk_ends, IsOrdinary}
use Rattle.mmsyntax.specs.declared.statement.Kind.{Kind}
use Rattle.mmsyntax.specs.declared.statement.Kind.TheVariants.{Axiom, Theorem}
use Rattle.mmsyntax.specs.Tables.{Tables}
use Rattle.mmsyntax.specs.Rows.{prelude_alone}
use Rattle.mmsyntax.specs.Grammar.{spelling}
use Rattle.statementreader.proofs.Ordinary.{statement_ordinary}
use Rattle.library.specs.declared.command.Command.{Command}
use Rattle.library.specs.declared.command.Line.{Line}
use Rattle.library.specs.declared.command.Reply.{Reply}
use Rattle.library.specs.declared.command.Reply.TheVariants.{Done, Shown, Listed}
use Rattle.library.specs.Fitting.{highest_rank}
use Rattle.scripts.specs.Scripts.{IsRank, SpellsEach}
use Rattle.scripts.specs.ScriptFaults.{unit_start}
use Rattle.scripts.proofs.InnerUnits.{unit_words_lead}
use Rattle.scripts.proofs.CommandWords.{plain_cons, each_ordinary, transaction_ordinary, takes, asked_words_lead}
use Rattle.library.specs.declared.history.Entry.{Entry}
use Rattle.library.specs.declared.history.Entry.TheVariants as entry
use Rattle.historytext.specs.Grammar.{highest_count, IsCount, kind_word, SpellsLine, SpellsReply, SpellsEntry}
use Rattle.historytext.specs.Places.{ReplyPlace, at_shown_rank, at_shown_citers, in_shown, at_lines, at_line, at_label, at_kind, at_citers}
use Rattle.historytext.specs.Places.{at_begin, at_command, at_reply, answering, at_history, at_count, at_entry, in_entry, Progress}
use Rattle.historytext.specs.Places.{Answered, going, lines_left, reply_word, in_reply, history_language}
use Rattle.historytext.proofs.HistoryRows.{progress, behind, behind_last, behind_earlier, asking, asks, next_answer, answered_is, has_shown}
use Rattle.historytext.proofs.HistoryRows.{at_lines_left, lines_are, IsNumber, number_plain, number_led, label_led, kind_led}
use Rattle.historytext.proofs.HistoryRows.{entry_at_word, begin_at_word, history_at_word, count_led}

-- ---- numbers

pub rank_number : (w : Word) (n : ℕ) → IsRank w n → IsNumber highest_rank w n
rank_number w n r = record { digits = r.digits; small = r.small }

pub count_number : (w : Word) (n : ℕ) → IsCount w n → IsNumber highest_count w n
count_number w n r = record { digits = r.digits; small = r.small }

pub rank_low : highest_rank < 2 ^ 64
rank_low = omega arith

pub count_low : highest_count < 2 ^ 64
count_low = omega arith

-- ---- the words are ordinary

kind_plain : (k : Kind) → has_dollar (kind_word k) ≡ false
kind_plain Axiom = refl
kind_plain Theorem = refl

rank_cons : (w : Word) (n : ℕ) (ws : List Word) → IsRank w n → All IsOrdinary ws → All IsOrdinary (w ∷ ws)
rank_cons w n ws r rest = plain_cons w ws (number_plain highest_rank w n rank_low (rank_number w n r)) rest

count_cons : (w : Word) (n : ℕ) (ws : List Word) → IsCount w n → All IsOrdinary ws → All IsOrdinary (w ∷ ws)
count_cons w n ws r rest = plain_cons w ws (number_plain highest_count w n count_low (count_number w n r)) rest

line_ordinary : (x : Line) (ws : List Word) → SpellsLine x ws → All IsOrdinary ws
line_ordinary x ws d =
    subst (All IsOrdinary) (sym d.5)
    (rank_cons d.0 x.rank (x.label ∷ kind_word x.kind ∷ d.1 ∷ []) d.2
    (plain_cons x.label (kind_word x.kind ∷ d.1 ∷ []) d.3
    (plain_cons (kind_word x.kind) (d.1 ∷ []) (kind_plain x.kind) (count_cons d.1 x.citers [] d.4 (All-nil IsOrdinary)))))

reply_ordinary : (t : Tables) (r : Reply) (ws : List Word) → SpellsReply t r ws → All IsOrdinary ws
reply_ordinary t Done ws d = subst (All IsOrdinary) (sym d) (plain_cons (codes "done") [] refl (All-nil IsOrdinary))
reply_ordinary t (Shown rank citers a) ws d =
    subst (All IsOrdinary) (sym d.6)
    (plain_cons (codes "shown") (d.0 ∷ d.1 ∷ spelling d.2) refl
    (rank_cons d.0 rank (d.1 ∷ spelling d.2) d.3
    (count_cons d.1 citers (spelling d.2) d.4 (statement_ordinary (prelude_alone t) d.2 d.5.0 d.5.1))))
reply_ordinary t (Listed lines) ws d =
    subst (All IsOrdinary) (sym d.4)
    (plain_cons (codes "listed") (d.0 ∷ d.1) refl
    (count_cons d.0 (length lines) d.1 d.2 (each_ordinary SpellsLine line_ordinary lines d.1 d.3)))

entry_ordinary : (t : Tables) (e : Entry) (ws : List Word) → SpellsEntry t e ws → All IsOrdinary ws
entry_ordinary t entry.Void ws d = subst (All IsOrdinary) (sym d) (plain_cons (codes "void") [] refl (All-nil IsOrdinary))
entry_ordinary t (entry.Done commands replies) ws d =
    subst (All IsOrdinary) (sym d.5)
    (plain_cons (codes "done") (d.0 ++ d.1) refl
    (All-append IsOrdinary d.0 d.1 (transaction_ordinary t commands d.0 d.2)
    (each_ordinary (SpellsReply t) (reply_ordinary t) replies d.1 d.3)))

pub history_ordinary : (t : Tables) (history : List Entry) (count : Word) (inner : List Word) → IsCount count (length history)
    → SpellsEach (SpellsEntry t) history inner → All IsOrdinary (codes "history" ∷ count ∷ inner)
history_ordinary t history count inner c d =
    plain_cons (codes "history") (count ∷ inner) refl
    (count_cons count (length history) inner c (each_ordinary (SpellsEntry t) (entry_ordinary t) history inner d))

-- ---- the words of a reply lead behind it

module _ (t : Tables) (es : List Entry) (left : ℕ) (cs : List Command) where
  abbrev place : List Reply → ReplyPlace → Progress
  place rs p = progress es (in_entry left (answering cs rs p))

  abbrev next : List Reply → Token → Answered → Result Progress TextFault
  next rs u x = next_answer es left cs rs u x

  -- a row of a place in a reply
  row_of : (rs : List Reply) (p : ReplyPlace) (x : Answered) (u : Token) → in_reply t p u ≡ x
      → (history_language t).row (place rs p) u ≡ next rs u x
  row_of rs p x u is = answered_is es left cs rs u (in_reply t p u) ∙ ap (next rs u) is

  -- the word of a reply leads into it, or behind it
  words : (rs : List Reply) (w : Word) (x : Answered) (u : Token) → reply_word w ≡ x → u.text ≡ w
      → (history_language t).row (progress es (in_entry left (at_reply cs rs))) u ≡ next rs u x
  words rs w x u is e = answered_is es left cs rs u (reply_word u.text) ∙ ap (λ y. next rs u (reply_word y)) e ∙ ap (next rs u) is

  lines_lead : (rs : List Reply) (front todo : List Line) (inner ws : List Word) (ts : List Token) (final : Result Progress TextFault)
      → SpellsEach SpellsLine todo inner → words_of ts ≡ inner ++ ws
      → ((rest : List Token) → words_of rest ≡ ws
      → walk (history_language t) (behind es left cs (rs ++ Listed (front ++ todo) ∷ [])) rest ≡ final)
      → walk (history_language t) (at_lines_left es left cs rs (length todo) front) ts ≡ final
  lines_lead rs front [] inner ws ts final d h next_is =
      ap (λ x. walk (history_language t) (behind es left cs (rs ++ Listed x ∷ [])) ts) (sym (append-nil front))
      ∙ next_is ts (h ∙ ap (λ x. x ++ ws) d)
  lines_lead rs front (x ∷ todo) inner ws ts final d h next_is =
      let s = d.3 in
      let l = history_language t in
      let n = length todo in
      let kind = kind_word x.kind in
      let behind_line = at_lines_left es left cs rs n (front ++ x ∷ []) in
      let parts : words_of ts ≡ s.0 ∷ x.label ∷ kind ∷ s.1 ∷ (d.1 ++ ws) =
      h ∙ ap (λ y. y ++ ws) d.2 ∙ append_assoc d.0 d.1 ws ∙ ap (λ y. y ++ (d.1 ++ ws)) s.5 in
      takes l (place rs (at_line n front)) (place rs (at_label n front x.rank)) s.0 (x.label ∷ kind ∷ s.1 ∷ (d.1 ++ ws)) ts final parts
      (λ u e. row_of rs (at_line n front) (going (at_label n front x.rank)) u
      (number_led highest_rank u s.0 x.rank (λ m. going (at_label n front m)) rank_low (rank_number s.0 x.rank s.2) e)) (λ ts1 h1.
      takes l (place rs (at_label n front x.rank)) (place rs (at_kind n front x.rank x.label)) x.label (kind ∷ s.1
      ∷ (d.1 ++ ws)) ts1 final h1
      (λ u e. row_of rs (at_label n front x.rank) (going (at_kind n front x.rank x.label)) u (label_led n front x.rank u x.label s.3 e))
      (λ ts2 h2.
      takes l (place rs (at_kind n front x.rank x.label)) (place rs (at_citers n front x.rank x.label x.kind)) kind (s.1
      ∷ (d.1 ++ ws)) ts2 final h2
      (λ u e. row_of rs (at_kind n front x.rank x.label) (going (at_citers n front x.rank x.label x.kind)) u
      (kind_led n front x.rank x.label x.kind u e)) (λ ts3 h3.
      takes l (place rs (at_citers n front x.rank x.label x.kind)) behind_line s.1 (d.1 ++ ws) ts3 final h3
      (λ u e. row_of rs (at_citers n front x.rank x.label x.kind) (lines_left n (front ++ x ∷ [])) u
      (number_led highest_count u s.1 x.citers
      (λ m. lines_left n (front ++ record { rank = x.rank; label = x.label; kind = x.kind; citers = m } ∷ [])) count_low
      (count_number s.1 x.citers s.4) e) ∙ lines_are es left cs rs u n (front ++ x ∷ [])) (λ ts4 h4.
      lines_lead rs (front ++ x ∷ []) todo d.1 ws ts4 final d.4 h4 (λ rest o.
      ap (λ y. walk l (behind es left cs (rs ++ Listed y ∷ [])) rest) (append_assoc front (x ∷ []) todo) ∙ next_is rest o)))))

  reply_leads : (rs : List Reply) (r : Reply) (us ws : List Word) (ts : List Token) (final : Result Progress TextFault)
      → SpellsReply t r us → words_of ts ≡ us ++ ws
      → ((rest : List Token) → words_of rest ≡ ws → walk (history_language t) (behind es left cs (rs ++ r ∷ [])) rest ≡ final)
      → walk (history_language t) (progress es (in_entry left (at_reply cs rs))) ts ≡ final
  reply_leads rs Done us ws ts final d h next_is =
      takes (history_language t) (progress es (in_entry left (at_reply cs rs))) (behind es left cs (rs ++ Done ∷ []))
      (codes "done") ws ts final
      (h ∙ ap (λ x. x ++ ws) d) (λ u e. words rs (codes "done") _ u refl e) next_is
  reply_leads rs (Shown rank citers a) us ws ts final d h next_is =
      let l = history_language t in
      takes l (progress es (in_entry left (at_reply cs rs))) (place rs at_shown_rank) (codes "shown") (d.0 ∷ d.1
      ∷ (spelling d.2 ++ ws)) ts final
      (h ∙ ap (λ x. x ++ ws) d.6) (λ u i. words rs (codes "shown") (going at_shown_rank) u refl i) (λ ts1 h1.
      takes l (place rs at_shown_rank) (place rs (at_shown_citers rank)) d.0 (d.1 ∷ (spelling d.2 ++ ws)) ts1 final h1
      (λ u i. row_of rs at_shown_rank (going (at_shown_citers rank)) u
      (number_led highest_rank u d.0 rank (λ m. going (at_shown_citers m)) rank_low (rank_number d.0 rank d.3) i)) (λ ts2 h2.
      takes l (place rs (at_shown_citers rank)) (place rs (in_shown rank citers (unit_start t))) d.1 (spelling d.2 ++ ws) ts2 final h2
      (λ u i. row_of rs (at_shown_citers rank) (going (in_shown rank citers (unit_start t))) u
      (number_led highest_count u d.1 citers (λ m. going (in_shown rank m (unit_start t))) count_low (count_number d.1 citers d.4) i))
      (λ ts3 h3.
      unit_words_lead l t (λ p. place rs (in_shown rank citers p))
      (λ b. behind es left cs (rs ++ Shown rank citers b ∷ []))
      (has_shown t es left cs rs rank citers) d.2 a ws ts3 final d.5 h3 next_is)))
  reply_leads rs (Listed lines) us ws ts final d h next_is =
      let l = history_language t in
      takes l (progress es (in_entry left (at_reply cs rs))) (place rs at_lines) (codes "listed") (d.0 ∷ (d.1 ++ ws)) ts final
      (h ∙ ap (λ x. x ++ ws) d.4) (λ u i. words rs (codes "listed") (going at_lines) u refl i) (λ ts1 h1.
      takes l (place rs at_lines) (at_lines_left es left cs rs (length lines) []) d.0 (d.1 ++ ws) ts1 final h1
      (λ u i. row_of rs at_lines (lines_left (length lines) []) u
      (number_led highest_count u d.0 (length lines) (λ m. lines_left m []) count_low (count_number d.0 (length lines) d.2) i)
      ∙ lines_are es left cs rs u (length lines) []) (λ ts2 h2.
      lines_lead rs [] lines d.1 ws ts2 final d.3 h2 next_is))

  replies_lead : (rs todo : List Reply) (inner ws : List Word) (ts : List Token) (final : Result Progress TextFault)
      → length rs + length todo ≡ length cs → SpellsEach (SpellsReply t) todo inner → words_of ts ≡ inner ++ ws
      → ((rest : List Token) → words_of rest ≡ ws
      → walk (history_language t) (progress (es ++ entry.Done cs (rs ++ todo) ∷ []) (at_entry left)) rest ≡ final)
      → walk (history_language t) (behind es left cs rs) ts ≡ final
  replies_lead rs [] inner ws ts final n d h next_is =
      ap (λ x. walk (history_language t) x ts) (behind_last es left cs rs (omega arith))
      ∙ ap (λ x. walk (history_language t) (progress (es ++ entry.Done cs x ∷ []) (at_entry left)) ts) (sym (append-nil rs))
      ∙ next_is ts (h ∙ ap (λ x. x ++ ws) d)
  replies_lead rs (r ∷ todo) inner ws ts final n d h next_is =
      ap (λ x. walk (history_language t) x ts) (behind_earlier es left cs rs (omega arith))
      ∙ reply_leads rs r d.0 (d.1 ++ ws) ts final d.3 (h ∙ ap (λ x. x ++ ws) d.2 ∙ append_assoc d.0 d.1 ws) (λ rest o.
      replies_lead (rs ++ r ∷ []) todo d.1 ws rest final (omega (arith, length-append rs (r ∷ []))) d.4 o (λ last e.
      ap (λ x. walk (history_language t) (progress (es ++ entry.Done cs x ∷ []) (at_entry left)) last) (append_assoc rs (r ∷ []) todo)
      ∙ next_is last e))

-- ---- the words of entries lead behind them

module _ (t : Tables) where
  entry_leads : (es : List Entry) (left : ℕ) (e : Entry) (us ws : List Word) (ts : List Token) (final : Result Progress TextFault)
      → SpellsEntry t e us → words_of ts ≡ us ++ ws
      → ((rest : List Token) → words_of rest ≡ ws → walk (history_language t) (progress (es ++ e ∷ []) (at_entry left)) rest ≡ final)
      → walk (history_language t) (progress es (at_entry (suc left))) ts ≡ final
  entry_leads es left entry.Void us ws ts final d h next_is =
      takes (history_language t) (progress es (at_entry (suc left))) (progress (es ++ entry.Void ∷ []) (at_entry left)) (codes "void") ws ts
      final (h ∙ ap (λ x. x ++ ws) d) (λ u i. void_row u i) next_is
    where
      void_row : (u : Token) → u.text ≡ codes "void"
          → (history_language t).row (progress es (at_entry (suc left))) u ≡ Ok (progress (es ++ entry.Void ∷ []) (at_entry left))
      void_row u i = ap (entry_at_word es left u) i
  entry_leads es left (entry.Done cs rs) us ws ts final d h next_is =
      let l = history_language t in
      let inner = d.2.0 in
      let after : us ++ ws ≡ codes "done" ∷ codes "begin" ∷ (inner ++ codes "commit" ∷ (d.1 ++ ws)) =
      ap (λ x. x ++ ws) d.5 ∙ ap (λ x. codes "done" ∷ x) (append_assoc d.0 d.1 ws) ∙ ap (λ x. codes "done" ∷ (x ++ (d.1 ++ ws))) d.2.2
      ∙ ap (λ x. codes "done" ∷ codes "begin" ∷ x) (append_assoc inner (codes "commit" ∷ []) (d.1 ++ ws)) in
      takes l (progress es (at_entry (suc left))) (progress es (in_entry left at_begin)) (codes "done")
      (codes "begin" ∷ (inner ++ codes "commit" ∷ (d.1 ++ ws))) ts final (h ∙ after) (λ u i. ap (entry_at_word es left u) i) (λ ts1 h1.
      takes l (progress es (in_entry left at_begin)) (progress es (in_entry left (at_command []))) (codes "begin")
      (inner ++ codes "commit" ∷ (d.1 ++ ws)) ts1 final h1 (λ u i. ap (begin_at_word es left u) i) (λ ts2 h2.
      asked_words_lead l t (asking es left) (asks t es left) cs inner (d.1 ++ ws) ts2 final d.2.1 h2 (λ rest o.
      replies_lead t es left cs [] rs d.1 ws rest final (omega (arith, d.4)) d.3 o next_is)))

  entries_lead : (es todo : List Entry) (ws : List Word) (ts : List Token) → SpellsEach (SpellsEntry t) todo ws → words_of ts ≡ ws
      → walk (history_language t) (progress es (at_entry (length todo))) ts ≡ Ok (progress (es ++ todo) (at_entry 0))
  entries_lead es [] ws [] d h =
      walk_ends (history_language t) (progress es (at_entry 0)) ∙ ap (λ x. Ok (progress x (at_entry 0))) (sym (append-nil es))
  entries_lead es [] ws (u ∷ us) d h = absurd (let x : words_of (u ∷ us) ≡ [] = h ∙ d in cc)
  entries_lead es (e ∷ todo) ws ts d h =
      entry_leads es (length todo) e d.0 d.1 ts (Ok (progress (es ++ e ∷ todo) (at_entry 0))) d.3 (h ∙ d.2) (λ rest o.
      entries_lead (es ++ e ∷ []) todo d.1 rest d.4 o ∙ ap (λ x. Ok (progress x (at_entry 0))) (append_assoc es (e ∷ []) todo))

  -- the words of a history lead from its start behind its last entry
  pub history_leads : (history : List Entry) (count : Word) (inner : List Word) (ts : List Token) → IsCount count (length history)
      → SpellsEach (SpellsEntry t) history inner → words_of ts ≡ codes "history" ∷ count ∷ inner
      → walk (history_language t) (progress [] at_history) ts ≡ Ok (progress history (at_entry 0))
  history_leads history count inner ts c d h =
      let l = history_language t in
      let final = Ok (progress history (at_entry 0)) in
      takes l (progress [] at_history) (progress [] at_count) (codes "history") (count ∷ inner) ts final h
      (λ u i. ap (history_at_word u) i) (λ ts1 h1.
      takes l (progress [] at_count) (progress [] (at_entry (length history))) count inner ts1 final h1
      (λ u i. count_led u count (length history) (count_number count (length history) c) i)
      (λ ts2 h2. entries_lead [] history inner ts2 d h2))
