-- Tokens that lead through the rows of a history are its words.
use Rattle.std.proofs.Common.{◌≡◌, ℕ, zero, suc, ◌+◌, false, List, [], ◌∷◌, ◌++◌, length, Result, Ok, refl, sym, ap, subst, ◌∙◌, arith}
use Rattle.std.proofs.Common.{append_assoc, append-nil, length-append}
use Rattle.std.specs.Prelude.{codes}
use Rattle.std.specs.Str.{bytes_eq}
use Rattle.mmtext.specs.declared.fault.FaultKind.{FaultKind}
use Rattle.mmtext.specs.declared.fault.FaultKind.TheVariants.{BadToken, TooLong}
use Rattle.mmtext.specs.declared.fault.TextFault.{TextFault}
use Rattle.mmtext.specs.Text.{Token}
use Rattle.mmtext.specs.Words.{Word, has_dollar}
use Rattle.mmtext.specs.Comments.{words_of}
use Rattle.mmtext.specs.Languages.{fault}
use Rattle.walks.proofs.Walks.{walk, walk_none, walk_cons, same_word}
use Rattle.mmsyntax.specs.declared.statement.Kind.{Kind}
use Rattle.mmsyntax.specs.Tables.{Tables}
use Rattle.mmsyntax.specs.Grammar.{spelling}
use Rattle.library.specs.declared.command.Command.{Command}
use Rattle.library.specs.declared.command.Line.{Line}
use Rattle.library.specs.declared.command.Reply.{Reply}
use Rattle.library.specs.declared.command.Reply.TheVariants.{Done, Shown, Listed}
use Rattle.library.specs.Fitting.{highest_rank}
use Rattle.scripts.specs.Scripts.{IsRank, SpellsEach}
use Rattle.scripts.specs.ScriptFaults.{unit_start}
use Rattle.scripts.proofs.InnerUnits.{reads_unit}
use Rattle.scripts.proofs.CommandParsed.{on, IsApart, reads_commands}
use Rattle.library.specs.declared.history.Entry.{Entry}
use Rattle.library.specs.declared.history.Entry.TheVariants as entry
use Rattle.historytext.specs.Grammar.{highest_count, IsCount, kind_word, SpellsLine, SpellsReply, SpellsEntry}
use Rattle.historytext.specs.Places.{ReplyPlace, at_shown_rank, at_shown_citers, in_shown, at_lines, at_line, at_label, at_kind, at_citers}
use Rattle.historytext.specs.Places.{at_begin, at_command, at_reply, answering, at_history, at_count, at_entry, in_entry, EntryPlace, Progress}
use Rattle.historytext.specs.Places.{Answered, going, whole_reply, wrong, number_row, lines_left, reply_word, in_reply, at}
use Rattle.historytext.specs.Places.{history_language}
use Rattle.scripts.proofs.ScriptRows.{cond_case}
use Rattle.historytext.proofs.HistoryRows.{progress, behind, behind_last, behind_earlier, asking, asks, next_answer, answered_is, has_shown}
use Rattle.historytext.proofs.HistoryRows.{at_lines_left, lines_are, IsNumber, numeral_case, label_case, kind_case}
use Rattle.historytext.proofs.HistoryWords.{rank_low, count_low}

number_rank : (w : Word) (n : ℕ) → IsNumber highest_rank w n → IsRank w n
number_rank w n i = record { digits = i.digits; small = i.small }

number_count : (w : Word) (n : ℕ) → IsNumber highest_count w n → IsCount w n
number_count w n i = record { digits = i.digits; small = i.small }

word_case : (Q : Answered → Type 0) (w : Word) → (w ≡ codes "done" → Q (whole_reply Done)) → (w ≡ codes "shown" → Q (going at_shown_rank))
    → (w ≡ codes "listed" → Q (going at_lines)) → Q (wrong BadToken) → Q (reply_word w)
word_case Q w a b c d =
    cond_case Q (bytes_eq w (codes "done")) (whole_reply Done) _ (λ y. a (same_word w (codes "done") y)) (λ _.
    cond_case Q (bytes_eq w (codes "shown")) (going at_shown_rank) _ (λ y. b (same_word w (codes "shown") y)) (λ _.
    cond_case Q (bytes_eq w (codes "listed")) (going at_lines) (wrong BadToken) (λ y. c (same_word w (codes "listed") y)) (λ _. d)))

module _ (t : Tables) (final : Progress) (ends : final.place ≡ at_entry 0) where
  abbrev Walks : Progress → List Token → Type 0
  Walks p ts = walk (history_language t) p ts ≡ Ok final

  -- a walk doesn't end inside of an entry
  not_inside : (es : List Entry) (left : ℕ) (p : EntryPlace) → progress es (in_entry left p) ≡ final → ⊥
  not_inside es left p h = let e : in_entry left p ≡ at_entry 0 = ap (λ (x : Progress). x.place) h ∙ ends in absurd cc

  -- a token led to a place, from which the walk goes on
  moved : (p q : Progress) (ts : List Token) → on p ≡ Ok q → Walks q ts → Walks p ts
  moved p q ts e h =
      let same : p ≡ q = cc in
      subst (λ x. Walks x ts) (sym same) h

  -- ---- replies

  module _ (es : List Entry) (left : ℕ) (cs : List Command) where
    abbrev place : List Reply → ReplyPlace → Progress
    place rs p = progress es (in_entry left (answering cs rs p))

    -- where a token of a reply leads, and a walk from there
    abbrev Leads : List Reply → Token → List Token → Answered → Type 0
    Leads rs u ts x = (q : Progress) × (next_answer es left cs rs u x ≡ Ok q) × Walks q ts

    not_wrong : {R : Type 0} (rs : List Reply) (u : Token) (ts : List Token) (kind : FaultKind) → Leads rs u ts (wrong kind) → R
    not_wrong rs u ts kind (q, e, h) = absurd cc

    -- a token in a reply
    record ReadsToken (rs : List Reply) (p : ReplyPlace) (ts : List Token) : Type 0 where
      token : Token
      rest : List Token
      whole : ts ≡ token ∷ rest
      leads : Leads rs token rest (in_reply t p token)

    reads_token : (rs : List Reply) (p : ReplyPlace) (ts : List Token) → Walks (place rs p) ts → ReadsToken rs p ts
    reads_token rs p [] h = absurd (not_inside es left (answering cs rs p) (walk_none (history_language t) (place rs p) final h))
    reads_token rs p (u ∷ ts) h =
        let r = walk_cons (history_language t) (place rs p) final u ts h in
        record { token = u; rest = ts; whole = refl; leads = (r.0, sym (answered_is es left cs rs u (in_reply t p u)) ∙ r.1, r.2) }

    -- a number, and where it leads
    record ReadsNumber (rs : List Reply) (highest : ℕ) (next : ℕ → Answered) (ts : List Token) : Type 0 where
      number : ℕ
      token : Token
      rest : List Token
      whole : ts ≡ token ∷ rest
      is : IsNumber highest token.text number
      leads : Leads rs token rest (next number)

    reads_rank : (rs : List Reply) (p : ReplyPlace) (next : ℕ → Answered) (ts : List Token)
        → ((u : Token) → in_reply t p u ≡ number_row highest_rank u next) → Walks (place rs p) ts → ReadsNumber rs highest_rank next ts
    reads_rank rs p next ts row h =
        let r = reads_token rs p ts h in
        numeral_case (λ x. Leads rs r.token r.rest x → ReadsNumber rs highest_rank next ts) highest_rank r.token.text next (wrong TooLong)
        (wrong BadToken) rank_low
        (λ n is l. record { number = n; token = r.token; rest = r.rest; whole = r.whole; is = is; leads = l })
        (λ x. not_wrong rs r.token r.rest TooLong x) (λ x. not_wrong rs r.token r.rest BadToken x)
        (subst (Leads rs r.token r.rest) (row r.token) r.leads)

    reads_count : (rs : List Reply) (p : ReplyPlace) (next : ℕ → Answered) (ts : List Token)
        → ((u : Token) → in_reply t p u ≡ number_row highest_count u next) → Walks (place rs p) ts → ReadsNumber rs highest_count next ts
    reads_count rs p next ts row h =
        let r = reads_token rs p ts h in
        numeral_case (λ x. Leads rs r.token r.rest x → ReadsNumber rs highest_count next ts) highest_count r.token.text next (wrong TooLong)
        (wrong BadToken) count_low
        (λ n is l. record { number = n; token = r.token; rest = r.rest; whole = r.whole; is = is; leads = l })
        (λ x. not_wrong rs r.token r.rest TooLong x) (λ x. not_wrong rs r.token r.rest BadToken x)
        (subst (Leads rs r.token r.rest) (row r.token) r.leads)

    record ReadsLabel (rs : List Reply) (n : ℕ) (lines : List Line) (rank : ℕ) (ts : List Token) : Type 0 where
      label : Word
      rest : List Token
      parts : words_of ts ≡ label ∷ words_of rest
      plain : has_dollar label ≡ false
      walks : Walks (place rs (at_kind n lines rank label)) rest

    reads_label : (rs : List Reply) (n : ℕ) (lines : List Line) (rank : ℕ) (ts : List Token) → Walks (place rs (at_label n lines rank)) ts
        → ReadsLabel rs n lines rank ts
    reads_label rs n lines rank ts h =
        let r = reads_token rs (at_label n lines rank) ts h in
        label_case (λ x. Leads rs r.token r.rest x → ReadsLabel rs n lines rank ts) n lines rank r.token
        (λ plain l. record {
          label = r.token.text;
          rest = r.rest;
          parts = ap words_of r.whole;
          plain = plain;
          walks = moved (place rs (at_kind n lines rank r.token.text)) l.0 r.rest l.1 l.2;
        })
        (λ x. not_wrong rs r.token r.rest BadToken x) r.leads

    record ReadsKind (rs : List Reply) (n : ℕ) (lines : List Line) (rank : ℕ) (label : Word) (ts : List Token) : Type 0 where
      kind : Kind
      rest : List Token
      parts : words_of ts ≡ kind_word kind ∷ words_of rest
      walks : Walks (place rs (at_citers n lines rank label kind)) rest

    reads_kind : (rs : List Reply) (n : ℕ) (lines : List Line) (rank : ℕ) (label : Word) (ts : List Token)
        → Walks (place rs (at_kind n lines rank label)) ts → ReadsKind rs n lines rank label ts
    reads_kind rs n lines rank label ts h =
        let r = reads_token rs (at_kind n lines rank label) ts h in
        kind_case (λ x. Leads rs r.token r.rest x → ReadsKind rs n lines rank label ts) n lines rank label r.token
        (λ k e l. record {
          kind = k;
          rest = r.rest;
          parts = ap words_of r.whole ∙ ap (λ w. w ∷ words_of r.rest) e;
          walks = moved (place rs (at_citers n lines rank label k)) l.0 r.rest l.1 l.2;
        })
        (λ x. not_wrong rs r.token r.rest BadToken x) r.leads

    -- the kind and the citers of a line, and a walk on from behind it
    record ReadsLineEnd (rs : List Reply) (n : ℕ) (front : List Line) (rank : ℕ) (label : Word) (ts : List Token) : Type 0 where
      kind : Kind
      citers : ℕ
      count : Word
      rest : List Token
      parts : words_of ts ≡ kind_word kind ∷ count ∷ words_of rest
      is : IsCount count citers
      walks : Walks (at_lines_left es left cs rs n (front ++ record { rank = rank; label = label; kind = kind; citers = citers } ∷ [])) rest

    reads_line_end : (rs : List Reply) (n : ℕ) (front : List Line) (rank : ℕ) (label : Word) (ts : List Token)
        → Walks (place rs (at_kind n front rank label)) ts → ReadsLineEnd rs n front rank label ts
    reads_line_end rs n front rank label ts h =
        let k = reads_kind rs n front rank label ts h in
        let c = reads_count rs (at_citers n front rank label k.kind)
        (λ m. lines_left n (front ++ record { rank = rank; label = label; kind = k.kind; citers = m } ∷ [])) k.rest (λ u. refl) k.walks in
        let x : Line = record { rank = rank; label = label; kind = k.kind; citers = c.number } in
        let after = at_lines_left es left cs rs n (front ++ x ∷ []) in
        record {
          kind = k.kind;
          citers = c.number;
          count = c.token.text;
          rest = c.rest;
          parts = k.parts ∙ ap (λ ws. kind_word k.kind ∷ ws) (ap words_of c.whole);
          is = number_count c.token.text c.number c.is;
          walks = moved after c.leads.0 c.rest (sym (lines_are es left cs rs c.token n (front ++ x ∷ [])) ∙ c.leads.1) c.leads.2;
        }

    -- a line, and a walk on from behind it
    record ReadsLine (rs : List Reply) (n : ℕ) (front : List Line) (ts : List Token) : Type 0 where
      line : Line
      words : List Word
      rest : List Token
      parts : words_of ts ≡ words ++ words_of rest
      spells : SpellsLine line words
      walks : Walks (at_lines_left es left cs rs n (front ++ line ∷ [])) rest

    reads_line : (rs : List Reply) (n : ℕ) (front : List Line) (ts : List Token) → Walks (place rs (at_line n front)) ts
        → ReadsLine rs n front ts
    reads_line rs n front ts h =
        let a = reads_rank rs (at_line n front) (λ m. going (at_label n front m)) ts (λ u. refl) h in
        let b = reads_label rs n front a.number a.rest
        (moved (place rs (at_label n front a.number)) a.leads.0 a.rest a.leads.1 a.leads.2) in
        let o = reads_line_end rs n front a.number b.label b.rest b.walks in
        record {
          line = record { rank = a.number; label = b.label; kind = o.kind; citers = o.citers };
          words = a.token.text ∷ b.label ∷ kind_word o.kind ∷ o.count ∷ [];
          rest = o.rest;
          parts = ap words_of a.whole ∙ ap (λ ws. a.token.text ∷ ws) (b.parts ∙ ap (λ ws. b.label ∷ ws) o.parts);
          spells = (a.token.text, o.count, number_rank a.token.text a.number a.is, b.plain, o.is, refl);
          walks = o.walks;
        }

    -- lines that were announced, and a walk on from behind them
    record ReadsLines (rs : List Reply) (n : ℕ) (front : List Line) (ts : List Token) : Type 0 where
      lines : List Line
      words : List Word
      rest : List Token
      parts : words_of ts ≡ words ++ words_of rest
      spells : SpellsEach SpellsLine lines words
      counted : length lines ≡ n
      walks : Walks (behind es left cs (rs ++ Listed (front ++ lines) ∷ [])) rest

    reads_lines : (rs : List Reply) (n : ℕ) (front : List Line) (ts : List Token) → Walks (at_lines_left es left cs rs n front) ts
        → ReadsLines rs n front ts
    reads_lines rs zero front ts h = record {
      lines = [];
      words = [];
      rest = ts;
      parts = refl;
      spells = refl;
      counted = refl;
      walks = subst (λ x. Walks (behind es left cs (rs ++ Listed x ∷ [])) ts) (sym (append-nil front)) h;
    }
    reads_lines rs (suc n) front ts h =
        let x = reads_line rs n front ts h in
        let o = reads_lines rs n (front ++ x.line ∷ []) x.rest x.walks in
        record {
          lines = x.line ∷ o.lines;
          words = x.words ++ o.words;
          rest = o.rest;
          parts = x.parts ∙ ap (λ ws. x.words ++ ws) o.parts ∙ sym (append_assoc x.words o.words (words_of o.rest));
          spells = (x.words, o.words, refl, x.spells, o.spells);
          counted = ap (λ m. suc m) o.counted;
          walks = subst (λ y. Walks (behind es left cs (rs ++ Listed y ∷ [])) o.rest) (append_assoc front (x.line ∷ []) o.lines) o.walks;
        }

    -- a reply, and a walk on from behind it
    record ReadsReply (rs : List Reply) (ts : List Token) : Type 0 where
      reply : Reply
      words : List Word
      rest : List Token
      parts : words_of ts ≡ words ++ words_of rest
      spells : SpellsReply t reply words
      walks : Walks (behind es left cs (rs ++ reply ∷ [])) rest

    reads_shown : (rs : List Reply) (u : Token) (ts : List Token) → u.text ≡ codes "shown" → Walks (place rs at_shown_rank) ts
        → ReadsReply rs (u ∷ ts)
    reads_shown rs u ts e h =
        let a = reads_rank rs at_shown_rank (λ m. going (at_shown_citers m)) ts (λ v. refl) h in
        let b = reads_count rs (at_shown_citers a.number) (λ m. going (in_shown a.number m (unit_start t))) a.rest (λ v. refl)
        (moved (place rs (at_shown_citers a.number)) a.leads.0 a.rest a.leads.1 a.leads.2) in
        let c = reads_unit (history_language t) t (λ p. place rs (in_shown a.number b.number p))
        (λ x. behind es left cs (rs ++ Shown a.number b.number x ∷ []))
        (has_shown t es left cs rs a.number b.number) final
        (λ p. not_inside es left (answering cs rs (in_shown a.number b.number p))) b.rest
        (moved (place rs (in_shown a.number b.number (unit_start t))) b.leads.0 b.rest b.leads.1 b.leads.2) in
        record {
          reply = Shown a.number b.number c.assertion;
          words = codes "shown" ∷ a.token.text ∷ b.token.text ∷ spelling c.said.0;
          rest = c.rest;
          parts =
              ap (λ w. w ∷ words_of ts) e
              ∙ ap (λ ws. codes "shown" ∷ ws)
              (ap words_of a.whole
              ∙ ap (λ ws. a.token.text ∷ ws) (ap words_of b.whole ∙ ap (λ ws. b.token.text ∷ ws) c.said.2));
          spells = (
            a.token.text,
            b.token.text,
            c.said.0,
            number_rank a.token.text a.number a.is,
            number_count b.token.text b.number b.is,
            c.said.1,
            refl,
          );
          walks = c.walks;
        }

    reads_listed : (rs : List Reply) (u : Token) (ts : List Token) → u.text ≡ codes "listed" → Walks (place rs at_lines) ts
        → ReadsReply rs (u ∷ ts)
    reads_listed rs u ts e h =
        let a = reads_count rs at_lines (λ m. lines_left m []) ts (λ v. refl) h in
        let after = at_lines_left es left cs rs a.number [] in
        let o = reads_lines rs a.number [] a.rest
        (moved after a.leads.0 a.rest (sym (lines_are es left cs rs a.token a.number []) ∙ a.leads.1) a.leads.2) in
        record {
          reply = Listed o.lines;
          words = codes "listed" ∷ a.token.text ∷ o.words;
          rest = o.rest;
          parts =
              ap (λ w. w ∷ words_of ts) e
              ∙ ap (λ ws. codes "listed" ∷ ws) (ap words_of a.whole ∙ ap (λ ws. a.token.text ∷ ws) o.parts);
          spells = (
            a.token.text,
            o.words,
            subst (IsCount a.token.text) (sym o.counted) (number_count a.token.text a.number a.is),
            o.spells,
            refl,
          );
          walks = o.walks;
        }

    reads_reply : (rs : List Reply) (ts : List Token) → Walks (progress es (in_entry left (at_reply cs rs))) ts → ReadsReply rs ts
    reads_reply rs [] h =
        absurd
        (not_inside es left (at_reply cs rs) (walk_none (history_language t) (progress es (in_entry left (at_reply cs rs))) final h))
    reads_reply rs (u ∷ ts) h =
        let r = walk_cons (history_language t) (progress es (in_entry left (at_reply cs rs))) final u ts h in
        word_case (λ x. Leads rs u ts x → ReadsReply rs (u ∷ ts)) u.text
        (λ e l. record {
          reply = Done;
          words = codes "done" ∷ [];
          rest = ts;
          parts = ap (λ w. w ∷ words_of ts) e;
          spells = refl;
          walks = moved (behind es left cs (rs ++ Done ∷ [])) l.0 ts l.1 l.2;
        })
        (λ e l. reads_shown rs u ts e (moved (place rs at_shown_rank) l.0 ts l.1 l.2))
        (λ e l. reads_listed rs u ts e (moved (place rs at_lines) l.0 ts l.1 l.2))
        (λ x. not_wrong rs u ts BadToken x) (r.0, sym (answered_is es left cs rs u (reply_word u.text)) ∙ r.1, r.2)

    -- one reply for each command, and a walk on from behind the entry
    record ReadsReplies (rs : List Reply) (n : ℕ) (ts : List Token) : Type 0 where
      replies : List Reply
      words : List Word
      rest : List Token
      parts : words_of ts ≡ words ++ words_of rest
      spells : SpellsEach (SpellsReply t) replies words
      counted : length replies ≡ n
      walks : Walks (progress (es ++ entry.Done cs (rs ++ replies) ∷ []) (at_entry left)) rest

    reads_replies : (n : ℕ) (rs : List Reply) (ts : List Token) → length rs + n ≡ length cs → Walks (behind es left cs rs) ts
        → ReadsReplies rs n ts
    reads_replies zero rs ts c h = record {
      replies = [];
      words = [];
      rest = ts;
      parts = refl;
      spells = refl;
      counted = refl;
      walks =
          subst (λ x. Walks (progress (es ++ entry.Done cs x ∷ []) (at_entry left)) ts) (sym (append-nil rs))
          (subst (λ x. Walks x ts) (behind_last es left cs rs (omega arith)) h);
    }
    reads_replies (suc n) rs ts c h =
        let a = reads_reply rs ts (subst (λ x. Walks x ts) (behind_earlier es left cs rs (omega arith)) h) in
        let o = reads_replies n (rs ++ a.reply ∷ []) a.rest (omega (arith, length-append rs (a.reply ∷ []))) a.walks in
        record {
          replies = a.reply ∷ o.replies;
          words = a.words ++ o.words;
          rest = o.rest;
          parts = a.parts ∙ ap (λ ws. a.words ++ ws) o.parts ∙ sym (append_assoc a.words o.words (words_of o.rest));
          spells = (a.words, o.words, refl, a.spells, o.spells);
          counted = ap (λ m. suc m) o.counted;
          walks =
              subst (λ x. Walks (progress (es ++ entry.Done cs x ∷ []) (at_entry left)) o.rest) (append_assoc rs (a.reply ∷ []) o.replies)
              o.walks;
        }

  -- ---- entries

  -- an entry, and a walk on from behind it
  record ReadsEntry (es : List Entry) (left : ℕ) (ts : List Token) : Type 0 where
    item : Entry
    words : List Word
    rest : List Token
    parts : words_of ts ≡ words ++ words_of rest
    spells : SpellsEntry t item words
    walks : Walks (progress (es ++ item ∷ []) (at_entry left)) rest

  is_apart : (es : List Entry) (left : ℕ) → IsApart (asking es left) final
  is_apart es left = record { between = λ cs. not_inside es left (at_command cs); inner = λ cs p. not_inside es left _ }

  -- where a token leads, and a walk from there
  abbrev To : List Token → Result Progress TextFault → Type 0
  To ts r = (q : Progress) × (r ≡ Ok q) × Walks q ts

  no_fault : {R : Type 0} (u : Token) (ts : List Token) (kind : FaultKind) → To ts (fault u kind) → R
  no_fault u ts kind (q, e, h) = absurd cc

  reads_begin : (es : List Entry) (left : ℕ) (u : Token) (ts : List Token) → u.text ≡ codes "done"
      → Walks (progress es (in_entry left at_begin)) ts → ReadsEntry es left (u ∷ ts)
  reads_begin es left u [] e h =
      absurd (not_inside es left at_begin (walk_none (history_language t) (progress es (in_entry left at_begin)) final h))
  reads_begin es left u (v ∷ ts) e h =
      let r = walk_cons (history_language t) (progress es (in_entry left at_begin)) final v ts h in
      cond_case (λ x. To ts x → ReadsEntry es left (u ∷ v ∷ ts)) (bytes_eq v.text (codes "begin")) (at es (in_entry left (at_command [])))
      (fault v BadToken)
      (λ y l. go (same_word v.text (codes "begin") y) (moved (progress es (in_entry left (at_command []))) l.0 ts l.1 l.2))
      (λ _ x. no_fault v ts BadToken x) (r.0, r.1, r.2)
    where
      go : v.text ≡ codes "begin" → Walks (progress es (in_entry left (at_command []))) ts → ReadsEntry es left (u ∷ v ∷ ts)
      go begin walks =
          let c = reads_commands (history_language t) t (asking es left) (asks t es left) final (is_apart es left) (suc (length ts)) [] ts
          (omega arith) walks in
          let o = reads_replies es left c.commands (length c.commands) [] c.rest (omega arith) c.walks in
          let asked : List Word = codes "begin" ∷ (c.words ++ codes "commit" ∷ []) in
          record {
            item = entry.Done c.commands o.replies;
            words = codes "done" ∷ (asked ++ o.words);
            rest = o.rest;
            parts =
                ap (λ w. w ∷ v.text ∷ words_of ts) e
                ∙ ap (λ w. codes "done" ∷ w ∷ words_of ts) begin
                ∙ ap (λ ws. codes "done" ∷ codes "begin" ∷ ws)
                (c.parts ∙ ap (λ ws. c.words ++ codes "commit" ∷ ws) o.parts
                ∙ sym (append_assoc c.words (codes "commit" ∷ []) (o.words ++ words_of o.rest))
                ∙ sym (append_assoc (c.words ++ codes "commit" ∷ []) o.words (words_of o.rest)));
            spells = (asked, o.words, (c.words, c.spells, refl), o.spells, o.counted, refl);
            walks = o.walks;
          }

  reads_entry : (es : List Entry) (left : ℕ) (u : Token) (ts : List Token) → Walks (progress es (at_entry (suc left))) (u ∷ ts)
      → ReadsEntry es left (u ∷ ts)
  reads_entry es left u ts h =
      let r = walk_cons (history_language t) (progress es (at_entry (suc left))) final u ts h in
      cond_case (λ x. To ts x → ReadsEntry es left (u ∷ ts)) (bytes_eq u.text (codes "void")) (at (es ++ entry.Void ∷ []) (at_entry left)) _
      (λ y l. record {
        item = entry.Void;
        words = codes "void" ∷ [];
        rest = ts;
        parts = ap (λ w. w ∷ words_of ts) (same_word u.text (codes "void") y);
        spells = refl;
        walks = moved (progress (es ++ entry.Void ∷ []) (at_entry left)) l.0 ts l.1 l.2;
      })
      (λ _.
      cond_case (λ x. To ts x → ReadsEntry es left (u ∷ ts)) (bytes_eq u.text (codes "done")) (at es (in_entry left at_begin))
      (fault u BadToken)
      (λ y l. reads_begin es left u ts (same_word u.text (codes "done") y) (moved (progress es (in_entry left at_begin)) l.0 ts l.1 l.2))
      (λ _ x. no_fault u ts BadToken x)) (r.0, r.1, r.2)

  -- so many entries, of which these are the words, behind those of es
  pub record ReadsEntries (es : List Entry) (left : ℕ) (ts : List Token) : Type 0 where
    pub entries : List Entry
    pub spells : SpellsEach (SpellsEntry t) entries (words_of ts)
    pub counted : length entries ≡ left
    pub whole : final.entries ≡ es ++ entries

  reads_entries : (left : ℕ) (es : List Entry) (ts : List Token) → Walks (progress es (at_entry left)) ts → ReadsEntries es left ts
  reads_entries zero es [] h = record {
    entries = [];
    spells = refl;
    counted = refl;
    whole = sym (ap (λ (p : Progress). p.entries) (walk_none (history_language t) (progress es (at_entry 0)) final h))
        ∙ sym (append-nil es);
  }
  reads_entries zero es (u ∷ ts) h =
      let r = walk_cons (history_language t) (progress es (at_entry 0)) final u ts h in
      no_fault u ts BadToken (r.0, r.1, r.2)
  reads_entries (suc left) es [] h =
      let same = walk_none (history_language t) (progress es (at_entry (suc left))) final h in
      let e : at_entry (suc left) ≡ at_entry 0 = ap (λ (x : Progress). x.place) same ∙ ends in
      absurd cc
  reads_entries (suc left) es (u ∷ ts) h =
      let a = reads_entry es left u ts h in
      let o = reads_entries left (es ++ a.item ∷ []) a.rest a.walks in
      record {
        entries = a.item ∷ o.entries;
        spells = (a.words, words_of a.rest, a.parts, a.spells, o.spells);
        counted = ap (λ m. suc m) o.counted;
        whole = o.whole ∙ append_assoc es (a.item ∷ []) o.entries;
      }

  -- a whole history
  pub record ReadsHistory (ts : List Token) : Type 0 where
    pub count : Word
    pub inner : List Word
    pub parts : words_of ts ≡ codes "history" ∷ count ∷ inner
    pub counted : IsCount count (length final.entries)
    pub spells : SpellsEach (SpellsEntry t) final.entries inner

  reads_count_word : (ts : List Token) → Walks (progress [] at_count) ts → (count : Token) × (inner : List Token)
      × (ts ≡ count ∷ inner) × IsCount count.text (length final.entries) × SpellsEach (SpellsEntry t) final.entries (words_of inner)
  reads_count_word [] h =
      let same = walk_none (history_language t) (progress [] at_count) final h in
      let e : at_count ≡ at_entry 0 = ap (λ (x : Progress). x.place) same ∙ ends in
      absurd cc
  reads_count_word (u ∷ ts) h =
      let r = walk_cons (history_language t) (progress [] at_count) final u ts h in
      numeral_case (λ x. To ts x → (count : Token) × (inner : List Token) × (u ∷ ts ≡ count ∷ inner)
      × IsCount count.text (length final.entries) × SpellsEach (SpellsEntry t) final.entries (words_of inner)) highest_count u.text
      (λ n. at [] (at_entry n)) (fault u TooLong) (fault u BadToken) count_low
      (λ n is l.
      let o = reads_entries n [] ts (moved (progress [] (at_entry n)) l.0 ts l.1 l.2) in
      let many : n ≡ length final.entries = sym o.counted ∙ ap length (sym o.whole) in (
        u,
        ts,
        refl,
        subst (IsCount u.text) many (number_count u.text n is),
        subst (λ x. SpellsEach (SpellsEntry t) x (words_of ts)) (sym o.whole) o.spells,
      ))
      (λ x. no_fault u ts TooLong x) (λ x. no_fault u ts BadToken x) (r.0, r.1, r.2)

  pub reads_history : (ts : List Token) → Walks (progress [] at_history) ts → ReadsHistory ts
  reads_history [] h =
      let same = walk_none (history_language t) (progress [] at_history) final h in
      let e : at_history ≡ at_entry 0 = ap (λ (x : Progress). x.place) same ∙ ends in
      absurd cc
  reads_history (u ∷ ts) h =
      let r = walk_cons (history_language t) (progress [] at_history) final u ts h in
      cond_case (λ x. To ts x → ReadsHistory (u ∷ ts)) (bytes_eq u.text (codes "history")) (at [] at_count) (fault u BadToken)
      (λ y l.
      let c = reads_count_word ts (moved (progress [] at_count) l.0 ts l.1 l.2) in
      record {
        count = c.0.text;
        inner = words_of c.1;
        parts = ap (λ w. w ∷ words_of ts) (same_word u.text (codes "history") y) ∙ ap (λ x. codes "history" ∷ words_of x) c.2;
        counted = c.3;
        spells = c.4;
      })
      (λ _ x. no_fault u ts BadToken x) (r.0, r.1, r.2)
